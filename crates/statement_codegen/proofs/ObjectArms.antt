-- The arms of statements that copy references, and that make objects and arrays or give them back.
use Rattle.std.proofs.Common.{◌≡◌, ℕ, ◌+◌, ◌*◌, ◌≤◌, [], length, refl, sym, subst, ◌∙◌, ap, arith}
use Rattle.std.specs.Prelude.{Result, Ok, Err, IfOk}
use Rattle.refine_objects.specs.rpp_tree.declared.tree.VarType.{VarType}
use Rattle.refine_objects.specs.rpp_tree.declared.tree.Ident.{Ident}
use Rattle.refine_objects.specs.rpp_tree.declared.tree.Var.{Var}
use Rattle.refine_objects.specs.rpp_tree.declared.tree.VarType.TheVariants as type
use Rattle.refine_objects.specs.rpp_tree.Tree.{Lvalue, Whole, Creation, Object, Ints, Objects, Statement, Statements, Construct, New}
use Rattle.refine_objects.specs.rpp_tree.Tree.{Delete, Copy, Uncopy, index_nodes, creation_nodes}
use Rattle.refine_objects.specs.rpp_tree.Views.{source_of}
use Rattle.refine_objects.specs.rpp_tree.Parts.{creation_tokens, lvalue_tokens}
use Rattle.branch_codegen.specs.paired_code.Code.{Code, unmarked}
use Rattle.branch_codegen.specs.paired_code.Layout.{mirror_cells}
use Rattle.branch_codegen.proofs.paired_code_laws.Mirrored.{length_mirror}
use Rattle.branch_codegen.specs.code_scope.Visible.{Visible, spot_of, free_words_of, known_in}
use Rattle.branch_codegen.specs.expr_uncompute.Code.{place_words}
use Rattle.branch_codegen.specs.expr_uncompute.Steps.{place_tokens}
use Rattle.branch_codegen.proofs.expr_uncompute_laws.Bounds.{place_words_most}
use Rattle.refine_objects.specs.object_codegen.Promises.{CopyLaw}
use Rattle.statement_codegen.specs.Pieces.{StatementStands, InnerPiece}
use Rattle.refine_objects.specs.object_codegen.Creations.{creation_words, creation_size, NewLaw}
use Rattle.refine_form.specs.Held.{HoldsCode}
use Rattle.statement_codegen.specs.Codes.{with_variable}
use Rattle.statement_codegen.specs.Laws.{ConstructLaw}
use Rattle.statement_codegen.specs.Pieces.{BlockPiece}
use Rattle.statement_codegen.proofs.Pieces.{tokens_are, place_tokens_are, plain_inner, construct_inner}
use Rattle.statement_codegen.proofs.ObjectStands.{copy_stands, uncopy_stands, few_creation_words, new_stands}
use Rattle.statement_codegen.proofs.ObjectStands.{delete_stands}
use Rattle.statement_codegen.proofs.ObjectStands.{constructed_new}
use Rattle.branch_codegen.specs.code_conventions.declared.memory.TheConstants.{EXPRESSION_WORDS}

-- ---- copies

pub copy_room : (v : Visible) (x : Statement) (at : ℕ) (kind : VarType) (source target : Lvalue)
    → x ≡ Copy at kind source target → StatementStands v x → place_words source + place_words target ≤ EXPRESSION_WORDS
copy_room v x at kind source target is h =
    let n : index_nodes source + index_nodes target ≤ 64 = (subst (StatementStands v) is h).allowed.few_nodes in
    let a = place_words_most source in
    let b = place_words_most target in
    omega (arith, n, a, b)

pub uncopy_room : (v : Visible) (x : Statement) (at : ℕ) (kind : VarType) (source target : Lvalue)
    → x ≡ Uncopy at kind source target → StatementStands v x
    → place_words source + place_words target ≤ EXPRESSION_WORDS
uncopy_room v x at kind source target is h =
    let n : index_nodes source + index_nodes target ≤ 64 = (subst (StatementStands v) is h).allowed.few_nodes in
    let a = place_words_most source in
    let b = place_words_most target in
    omega (arith, n, a, b)

pub copy_arm : {E : Type 0} (v : Visible) (x : Statement) (at : ℕ) (kind : VarType) (source target : Lvalue)
    (r : Result Code E) → x ≡ Copy at kind source target → StatementStands v x
    → IfOk r (λ p. CopyLaw (spot_of (known_in v)) (free_words_of (known_in v)) source target p.cells)
    → IfOk r (λ p. p.marks ≡ [])
    → IfOk r (λ p. length p.cells ≤ 47 + 80 * (place_tokens source + place_tokens target))
    → IfOk r (λ p. InnerPiece v x p)
copy_arm v x at kind source target (Err e) is h law none size = tt
copy_arm v x at kind source target (Ok p) is h law none size =
    let k = subst (StatementStands v) is h in
    let a = place_tokens_are source in
    let b = place_tokens_are target in
    subst (λ z. InnerPiece v z p) (sym is) (plain_inner v (Copy at kind source target) p none refl
    (copy_stands v at kind source target p.cells law k.allowed) (omega (arith, size, a, b)))

-- its inverse
pub uncopy_arm : {E : Type 0} (v : Visible) (x : Statement) (at : ℕ) (kind : VarType) (source target : Lvalue)
    (copy : Code) (r : Result Code E) → x ≡ Uncopy at kind source target → StatementStands v x
    → CopyLaw (spot_of (known_in v)) (free_words_of (known_in v)) source target copy.cells
    → length copy.cells ≤ 47 + 80 * (place_tokens source + place_tokens target)
    → IfOk r (λ p. p ≡ unmarked (mirror_cells copy.cells)) → IfOk r (λ p. InnerPiece v x p)
uncopy_arm v x at kind source target copy (Err e) is h law size mirrored = tt
uncopy_arm v x at kind source target copy (Ok p) is h law size mirrored =
    let k = subst (StatementStands v) is h in
    let a = place_tokens_are source in
    let b = place_tokens_are target in
    let long = length_mirror copy.cells in
    subst (λ z. InnerPiece v z p) (sym is)
    (subst (λ z. InnerPiece v (Uncopy at kind source target) z) (sym mirrored)
    (plain_inner v (Uncopy at kind source target) (unmarked (mirror_cells copy.cells)) refl refl
    (uncopy_stands v at kind source target copy.cells law k.allowed) (omega (arith, size, a, b, long))))

-- ---- objects and arrays

pub new_room : (v : Visible) (x : Statement) (at : ℕ) (made : Creation) (target : Lvalue) → x ≡ New at made target
    → StatementStands v x → creation_words made target ≤ EXPRESSION_WORDS
new_room v x at made target is h =
    let n : creation_nodes made + index_nodes target ≤ 64 = (subst (StatementStands v) is h).allowed.few_nodes in
    let few = few_creation_words made target n in
    omega (arith, few)

pub delete_room : (v : Visible) (x : Statement) (at : ℕ) (made : Creation) (target : Lvalue) → x ≡ Delete at made target
    → StatementStands v x → creation_words made target ≤ EXPRESSION_WORDS
delete_room v x at made target is h =
    let n : creation_nodes made + index_nodes target ≤ 64 = (subst (StatementStands v) is h).allowed.few_nodes in
    let few = few_creation_words made target n in
    omega (arith, few)

-- and have few cells for their tokens
few_cells : (made : Creation) (target : Lvalue) → creation_size made target ≤ 200 *
    (1 + creation_tokens made + lvalue_tokens target)
few_cells (Object class) target = let t = place_tokens_are target in omega (arith, t)
few_cells (Ints size) target = let t = place_tokens_are target in let s = tokens_are size in omega (arith, t, s)
few_cells (Objects class size) target = let t = place_tokens_are target in let s = tokens_are size in
    omega (arith, t, s)

pub new_arm : {E : Type 0} (v : Visible) (x : Statement) (at : ℕ) (made : Creation) (target : Lvalue)
    (r : Result Code E) → x ≡ New at made target → StatementStands v x
    → IfOk r (λ p. NewLaw (source_of v.program) (spot_of (known_in v)) (free_words_of (known_in v)) made target p.cells)
    → IfOk r (λ p. p.marks ≡ [])
    → IfOk r (λ p. length p.cells ≤ creation_size made target) → IfOk r (λ p. InnerPiece v x p)
new_arm v x at made target (Err e) is h law none size = tt
new_arm v x at made target (Ok p) is h law none size =
    let k = subst (StatementStands v) is h in
    let few = few_cells made target in
    subst (λ z. InnerPiece v z p) (sym is) (plain_inner v (New at made target) p none refl
    (new_stands v at made target p.cells law k.allowed) (omega (arith, size, few)))

-- its inverse
pub delete_arm : {E : Type 0} (v : Visible) (x : Statement) (at : ℕ) (made : Creation) (target : Lvalue) (new : Code)
    (r : Result Code E) → x ≡ Delete at made target → StatementStands v x
    → NewLaw (source_of v.program) (spot_of (known_in v)) (free_words_of (known_in v)) made target new.cells
    → length new.cells ≤ creation_size made target → IfOk r (λ p. p ≡ unmarked (mirror_cells new.cells))
    → IfOk r (λ p. InnerPiece v x p)
delete_arm v x at made target new (Err e) is h law size mirrored = tt
delete_arm v x at made target new (Ok p) is h law size mirrored =
    let k = subst (StatementStands v) is h in
    let few = few_cells made target in
    let long = length_mirror new.cells in
    subst (λ z. InnerPiece v z p) (sym is)
    (subst (λ z. InnerPiece v (Delete at made target) z) (sym mirrored)
    (plain_inner v (Delete at made target) (unmarked (mirror_cells new.cells)) refl refl
    (delete_stands v at made target new.cells law k.allowed) (omega (arith, size, few, long))))

-- an object for a block, if the scope went on
pub construct_made : {E : Type 0} (v w u : Visible) (x : Statement) (at : ℕ) (class name : Ident) (body : Statements)
    (end : Ident) (var : Var) (making inside : Code) (o : Visible) (r : Result Code E)
    → x ≡ Construct at class name body end → StatementStands v x → var ≡ record { kind = type.Class class; name = name }
    → w ≡ with_variable v var → u ≡ w → o ≡ v
    → NewLaw (source_of w.program) (spot_of (known_in w)) (free_words_of (known_in w)) (Object class) (Whole name)
    making.cells
    → length making.cells ≤ creation_size (Object class) (Whole name) → BlockPiece w body inside
    → IfOk r (λ p. ConstructLaw o at var making.cells inside.cells p.cells) → IfOk r (λ p. HoldsCode inside p)
    → IfOk r (λ p. length p.cells ≤ 2 * length making.cells + length inside.cells + 128)
    → IfOk r (λ p. InnerPiece v x p)
construct_made v w u x at class name body end var making inside o (Err e) is h var_is w_is u_is o_is new few a made held
    size = tt
construct_made v w u x at class name body end var making inside o (Ok p) is h var_is w_is u_is o_is new few a made held
    size =
    let k = subst (StatementStands v) is h in
    let here : w ≡ with_variable v (record { kind = type.Class class; name = name }) = w_is
    ∙ ap (with_variable v) var_is in
    let inner = with_variable v (record { kind = type.Class class; name = name }) in
    let law : NewLaw (source_of inner.program) (spot_of (known_in inner)) (free_words_of (known_in inner))
    (Object class)
    (Whole name) making.cells =
    subst (λ (z : Visible). NewLaw (source_of z.program) (spot_of (known_in z)) (free_words_of (known_in z))
    (Object class)
    (Whole name) making.cells) here new in
    let one : ConstructLaw v at (record { kind = type.Class class; name = name }) making.cells inside.cells p.cells =
    subst (λ z. ConstructLaw z at (record { kind = type.Class class; name = name }) making.cells inside.cells p.cells)
    o_is (subst (λ z. ConstructLaw o at z making.cells inside.cells p.cells) var_is made) in
    subst (λ z. InnerPiece v z p) (sym is)
    (construct_inner v at class name body end making.cells inside p k.allowed one held size (omega (arith, few))
    (new_stands inner at (Object class) (Whole name) making.cells law
    (constructed_new v at class name body end k.allowed)) (subst (λ z. BlockPiece z body inside) here a))
