-- What each arm of the walk over statements needs and returns.
use Rattle.std.proofs.Common.{◌≡◌, ℕ, ◌+◌, ◌*◌, ◌≤◌, Bool, List, [], ◌∷◌, length, refl, sym, ap, ◌∙◌, subst, arith}
use Rattle.std.specs.Prelude.{Option, Some, None, Result, Ok, Err, IfOk, nat_eq, Box}
use Rattle.std.specs.declared.alloc.Global.{Global}
use Rattle.std.specs.Option.{option_map, is_none}
use Rattle.std.proofs.lemmas.Bool.{eqb-true}
use Rattle.refine_objects.specs.rpp_tree.declared.tree.Ident.{Ident}
use Rattle.refine_objects.specs.rpp_tree.declared.tree.Expr.{Expr}
use Rattle.refine_objects.specs.rpp_tree.declared.tree.Place.{Place}
use Rattle.refine_objects.specs.rpp_tree.declared.tree.Var.{Var}
use Rattle.refine_objects.specs.rpp_tree.declared.tree.UpdateOp.{UpdateOp}
use Rattle.refine_objects.specs.rpp_tree.Tree.{Expression, Lvalue, Whole, Item, Statement, Statements, Update, Swap, If, From, Local}
use Rattle.refine_objects.specs.rpp_tree.Tree.{Call, Source, nodes, index_nodes}
use Rattle.refine_objects.specs.rpp_tree.Views.{lvalue_with, expression_of, lvalue_of, source_of}
use Rattle.refine_objects.specs.rpp_tree.Parts.{list_tokens}
use Rattle.branch_codegen.specs.class_rules.Overrides.{parameters_of}
use Rattle.branch_codegen.specs.class_rules.Program.{IsAccepted}
use Rattle.branch_codegen.specs.class_rules.Refusal.{wrong_arity}
use Rattle.branch_codegen.specs.class_rules.Scope.{Typing, Locals}
use Rattle.branch_codegen.specs.class_rules.Statements.{verdict_passed, required, each_passes, each_passes_after}
use Rattle.branch_codegen.specs.class_rules.Statements.{argument_known, argument_new}
use Rattle.branch_codegen.specs.class_rules.Statements.{arguments_fit, plain_receiver, receiver_class, slot_rules}
use Rattle.branch_codegen.specs.class_rules.Statements.{call_rules}
use Rattle.branch_codegen.specs.class_rules.Table.{slot_in, dispatch_in}
use Rattle.branch_codegen.proofs.class_rules_laws.PassedRules.{both_passed, handed_on, held}
use Rattle.branch_codegen.specs.paired_code.Code.{Code}
use Rattle.branch_codegen.specs.meaning_sound.Plain.{ReceiverIsPlain}
use Rattle.refine_form.specs.Held.{HoldsCode, HoldsBoth}
use Rattle.refine_form.specs.Stands.{shape_of}
use Rattle.branch_codegen.specs.code_scope.Visible.{Visible, spot_of, free_words_of, known_in}
use Rattle.refine_objects.proofs.code_scope_laws.Parameters.{parameters_few}
use Rattle.branch_codegen.specs.register_expressions.Code.{words}
use Rattle.branch_codegen.specs.expr_uncompute.Code.{place_words}
use Rattle.branch_codegen.specs.expr_uncompute.Promises as code
use Rattle.branch_codegen.specs.register_expressions.Steps.{token_count}
use Rattle.branch_codegen.specs.expr_uncompute.Steps.{place_tokens}
use Rattle.branch_codegen.specs.expr_uncompute.Sizes.{swap_size}
use Rattle.branch_codegen.proofs.expr_uncompute_laws.Bounds.{words_most, place_words_most}
use Rattle.branch_codegen.specs.refine_expressions.Typing.{typing_in}
use Rattle.statement_codegen.specs.Codes.{scope_of, with_variable}
use Rattle.branch_codegen.specs.Laws.{IfLaw, FromLaw}
use Rattle.statement_codegen.specs.Laws.{LocalLaw, CallLaw, ElementLaw}
use Rattle.statement_codegen.proofs.Stands.{update_stands, swap_stands}
use Rattle.statement_codegen.specs.Pieces.{StatementStands, InnerPiece, BlockPiece}
use Rattle.statement_codegen.proofs.ElementCalls.{popped}
use Rattle.statement_codegen.proofs.Pieces.{tokens_are, place_tokens_are, plain_inner, if_inner, from_inner}
use Rattle.statement_codegen.proofs.Pieces.{local_inner}
use Rattle.branch_codegen.specs.code_conventions.declared.memory.TheConstants.{EXPRESSION_WORDS}

pub if_ok : {A E : Type 0} {P Q : A → Type 0} (r : Result A E) → ((a : A) → P a → Q a) → IfOk r P → IfOk r Q
if_ok (Ok a) f h = f a h
if_ok (Err e) f h = h

-- ---- space for the subexpressions

pub update_room : (v : Visible) (x : Statement) (at : ℕ) (op : UpdateOp) (target : Lvalue) (value : Expression)
    → x ≡ Update at op target value → StatementStands v x → place_words target + words value ≤ EXPRESSION_WORDS
update_room v x at op target value is h =
    let n : index_nodes target + nodes value ≤ 64 = (subst (StatementStands v) is h).allowed.few_nodes in
    let a = words_most value in
    let b = place_words_most target in
    omega (arith, n, a, b)

pub swap_room : (v : Visible) (x : Statement) (at : ℕ) (left right : Lvalue) → x ≡ Swap at left right
    → StatementStands v x → place_words left + place_words right ≤ EXPRESSION_WORDS
swap_room v x at left right is h =
    let n : index_nodes left + index_nodes right ≤ 64 = (subst (StatementStands v) is h).allowed.few_nodes in
    let a = place_words_most left in
    let b = place_words_most right in
    omega (arith, n, a, b)

few_words : (e f : Expression) → nodes e + nodes f ≤ 64 → (words e ≤ EXPRESSION_WORDS) × (words f ≤ EXPRESSION_WORDS)
few_words e f n = let a = words_most e in let b = words_most f in (omega (arith, n, a), omega (arith, n, b))

pub if_room : (v : Visible) (x : Statement) (at : ℕ) (test after : Expression) (taken other : Statements)
    → x ≡ If at test taken other after → StatementStands v x
    → (words test ≤ EXPRESSION_WORDS) × (words after ≤ EXPRESSION_WORDS)
if_room v x at test after taken other is h = few_words test after (subst (StatementStands v) is h).allowed.few_nodes

pub from_room : (v : Visible) (x : Statement) (at : ℕ) (entry exit : Expression) (first again : Statements)
    → x ≡ From at entry first again exit → StatementStands v x
    → (words entry ≤ EXPRESSION_WORDS) × (words exit ≤ EXPRESSION_WORDS)
from_room v x at entry exit first again is h = few_words entry exit (subst (StatementStands v) is h).allowed.few_nodes

pub local_room : (v : Visible) (x : Statement) (at : ℕ) (var : Var) (value : Expression) (body : Statements)
    (end_var : Var) (last : Expression) → x ≡ Local at var value body end_var last → StatementStands v x
    → (words value ≤ EXPRESSION_WORDS) × (words last ≤ EXPRESSION_WORDS)
local_room v x at var value body end_var last is h = few_words value last
    (subst (StatementStands v) is h).allowed.few_nodes

-- ---- a call has few arguments

few_of : (program : Source) → IsAccepted program → (typing : Typing) → typing.program ≡ program
    → (shape : Locals) (at : ℕ) (receiver : Option Lvalue) (method : Ident) (args : List Ident) (class : ℕ)
    (slot : Option ℕ)
    → slot_rules typing shape at receiver method args class slot ≡ verdict_passed → length args ≤ 32
few_of program accepted typing is shape at receiver method args class None h = absurd (cc)
few_of program accepted typing is shape at receiver method args class (Some slot) h =
    let id = dispatch_in typing.table class slot in
    let params = parameters_of typing.program id in
    let a = both_passed (each_passes (argument_known typing shape (is_none receiver) at) args) _ h in
    let b = both_passed (each_passes_after argument_new (plain_receiver receiver) args) _ a.1 in
    let c = both_passed (required (nat_eq (length args) (length params)) (wrong_arity method.at))
    (arguments_fit typing shape params args) b.1 in
    let e : length args ≡ length params = eqb-true (length args) (length params) (held _ (wrong_arity method.at) c.0) in
    let f : length (parameters_of program id) ≤ 16 = parameters_few program id accepted.limits in
    let g : length params ≤ 16 = subst (λ z. length (parameters_of z id) ≤ 16) (sym is) f in
    omega (arith, e, g)

pub call_few : (v : Visible) (x : Statement) (at : ℕ) (back : Bool) (receiver : Option Lvalue) (method : Ident)
    (args : List Ident) → IsAccepted (source_of v.program) → x ≡ Call at back receiver method args → StatementStands v x
    → length args ≤ 32
call_few v x at back receiver method args accepted is h =
    let typing = typing_in (source_of v.program) (scope_of v) in
    let shape = shape_of (source_of v.program) (scope_of v) in
    let rules : call_rules typing shape at receiver method args ≡ verdict_passed =
    (subst (StatementStands v) is h).allowed.rules in
    let r = handed_on (receiver_class typing shape receiver) _ tt rules in
    few_of (source_of v.program) accepted typing refl shape at receiver method args r.value
    (slot_in typing.table r.value method.text) r.goes

some_each : (args : List Ident) → length args ≤ list_tokens (λ name. 1) args
some_each [] = omega arith
some_each (first ∷ []) = omega arith
some_each (first ∷ second ∷ rest) = let a = some_each (second ∷ rest) in omega (arith, a)

-- ---- space for a call on an element

pub element_room : (v : Visible) (at : ℕ) (back : Bool) (element : Lvalue) (method : Ident) (args : List Ident)
    → StatementStands v (Call at back (Some element) method args) → place_words element ≤ EXPRESSION_WORDS
element_room v at back element method args h = let n : index_nodes element ≤ 64 = h.allowed.few_nodes in let a =
    place_words_most element in omega (arith, n, a)

-- ---- what the arms answer

swap_few : (left right : Lvalue) → swap_size left right ≤ 102 * (place_tokens left + 1 + place_tokens right)
swap_few (Whole name) right = omega arith
swap_few (Item name index) right = omega arith

pub update_arm : {E : Type 0} (v : Visible) (x : Statement) (at : ℕ) (op : UpdateOp) (target : Lvalue)
    (value : Expression) (r : Result Code E) → x ≡ Update at op target value → StatementStands v x
    → IfOk r (λ p. code.UpdateLaw (spot_of (known_in v)) (free_words_of (known_in v)) op target value p.cells)
    → IfOk r (λ p. p.marks ≡ []) → IfOk r (λ p. length p.cells ≤ 80 * (place_tokens target + 1 + token_count value))
    → IfOk r (λ p. InnerPiece v x p)
update_arm v x at op target value (Err e) is h law none size = tt
update_arm v x at op target value (Ok p) is h law none size =
    let k = subst (StatementStands v) is h in
    let a = tokens_are value in
    let b = place_tokens_are target in
    subst (λ z. InnerPiece v z p) (sym is) (plain_inner v (Update at op target value) p none refl
    (update_stands v at op target value p.cells law k.allowed) (omega (arith, size, a, b)))

pub swap_arm : {E : Type 0} (v : Visible) (x : Statement) (at : ℕ) (left right : Lvalue) (r : Result Code E)
    → x ≡ Swap at left right → StatementStands v x
    → IfOk r (λ p. code.SwapLaw (spot_of (known_in v)) (free_words_of (known_in v)) left right p.cells)
    → IfOk r (λ p. p.marks ≡ []) → IfOk r (λ p. length p.cells ≤ swap_size left right)
    → IfOk r (λ p. InnerPiece v x p)
swap_arm v x at left right (Err e) is h law none size = tt
swap_arm v x at left right (Ok p) is h law none size =
    let k = subst (StatementStands v) is h in
    let a = place_tokens_are left in
    let b = place_tokens_are right in
    let c = swap_few left right in
    subst (λ z. InnerPiece v z p) (sym is) (plain_inner v (Swap at left right) p none refl
    (swap_stands v at left right p.cells law k.allowed) (omega (arith, size, a, b, c)))

pub call_arm : {E : Type 0} (v : Visible) (x : Statement) (at : ℕ) (back : Bool) (receiver : Option Lvalue)
    (name : Option Ident) (method : Ident) (args : List Ident) (r : Result Code E)
    → x ≡ Call at back receiver method args → option_map Whole name ≡ receiver → StatementStands v x
    → IfOk r (λ p. CallLaw v back name method args p.cells) → IfOk r (λ p. p.marks ≡ [])
    → IfOk r (λ p. length p.cells ≤ 18 * length args + 77) → IfOk r (λ p. InnerPiece v x p)
call_arm v x at back receiver name method args (Err e) is same h law none size = tt
call_arm v x at back receiver name method args (Ok p) is same h law none size =
    let e : x ≡ Call at back (option_map Whole name) method args = is
    ∙ ap (λ z. Call at back z method args) (sym same) in
    let k = subst (StatementStands v) e h in
    let a = some_each args in
    subst (λ z. InnerPiece v z p) (sym e) (plain_inner v (Call at back (option_map Whole name) method args) p none refl
    (law.law at k.allowed.rules) (omega (arith, size, a)))

pub element_arm : {E : Type 0} (v : Visible) (at : ℕ) (back : Bool) (element : Lvalue) (array : Ident)
    (index : Expression) (method : Ident) (args : List Ident) (r : Result Code E) → element ≡ Item array index
    → StatementStands v (Call at back (Some element) method args)
    → IfOk r (λ p. ElementLaw v at back element method args p.cells) → IfOk r (λ p. p.marks ≡ [])
    → IfOk r (λ p. length p.cells ≤ 160 * (2 + place_tokens element) + 18 * length args + 205)
    → IfOk r (λ p. InnerPiece v (Call at back (Some element) method args) p)
element_arm v at back element array index method args (Err e) is h law none size = tt
element_arm v at back element array index method args (Ok p) is h law none size =
    let a = some_each args in
    let b = place_tokens_are element in
    let plain : ReceiverIsPlain (Some element) args = h.plain in
    plain_inner v (Call at back (Some element) method args) p none refl (law.law array index is plain h.allowed)
    (omega (arith, size, a, b))

pub shows_element : (receiver : Place) (index : Box Expr Global) → receiver.index ≡ Some index
    → lvalue_of receiver ≡ Item receiver.name (expression_of index.value)
shows_element receiver index e = ap (lvalue_with receiver.name) e

pub if_arm : {E : Type 0} (v : Visible) (x : Statement) (at : ℕ) (test after : Expression) (taken other : Statements)
    (one two : Code) (r : Result Code E) → x ≡ If at test taken other after → StatementStands v x
    → BlockPiece v taken one → BlockPiece v other two
    → IfOk r (λ p. IfLaw (known_in v) test after one.cells two.cells p.cells) → IfOk r (λ p. HoldsBoth two one p)
    → IfOk r (λ p. length p.cells ≤ 58 * (token_count test + token_count after) + length one.cells + length two.cells +
    18)
    → IfOk r (λ p. InnerPiece v x p)
if_arm v x at test after taken other one two (Err e) is h a b law holds size = tt
if_arm v x at test after taken other one two (Ok p) is h a b law holds size =
    subst (λ z. InnerPiece v z p) (sym is) (if_inner v at test after taken other one two p
    (subst (StatementStands v) is h) law holds size a b)

pub from_arm : {E : Type 0} (v : Visible) (x : Statement) (at : ℕ) (entry exit : Expression) (first again : Statements)
    (one two : Code) (r : Result Code E) → x ≡ From at entry first again exit → StatementStands v x
    → BlockPiece v first one → BlockPiece v again two
    → IfOk r (λ p. FromLaw (known_in v) entry exit one.cells two.cells p.cells) → IfOk r (λ p. HoldsBoth two one p)
    → IfOk r (λ p. length p.cells ≤ 58 * (token_count entry + token_count exit) + length one.cells + length two.cells +
    18)
    → IfOk r (λ p. InnerPiece v x p)
from_arm v x at entry exit first again one two (Err e) is h a b law holds size = tt
from_arm v x at entry exit first again one two (Ok p) is h a b law holds size =
    subst (λ z. InnerPiece v z p) (sym is) (from_inner v at entry exit first again one two p
    (subst (StatementStands v) is h) law holds size a b)

pub local_arm : {E : Type 0} (v : Visible) (x : Statement) (at : ℕ) (var : Var) (value : Expression) (body : Statements)
    (end_var : Var) (last : Expression) (inside : Code) (r : Result Code E) → x ≡ Local at var value body end_var last
    → StatementStands v x
    → BlockPiece (with_variable v var) body inside
    → IfOk r (λ p. LocalLaw (known_in v) var value last inside.cells p.cells) → IfOk r (λ p. HoldsCode inside p)
    → IfOk r (λ p. length p.cells ≤ 58 * (token_count value + token_count last) + length inside.cells + 12)
    → IfOk r (λ p. InnerPiece v x p)
local_arm v x at var value body end_var last inside (Err e) is h a law holds size = tt
local_arm v x at var value body end_var last inside (Ok p) is h a law holds size =
    subst (λ z. InnerPiece v z p) (sym is) (local_inner v at var value body end_var last inside p
    (subst (StatementStands v) is h) law holds size a)

-- ---- the same, if the scope went on from one block to the next

pub if_made : {E : Type 0} (v w u : Visible) (x : Statement) (at : ℕ) (test after : Expression)
    (taken other : Statements) (one two : Code) (r : Result Code E) → x ≡ If at test taken other after
    → StatementStands v x
    → w ≡ v → u ≡ w → BlockPiece v taken one → BlockPiece w other two
    → IfOk r (λ p. IfLaw (known_in u) test after one.cells two.cells p.cells) → IfOk r (λ p. HoldsBoth two one p)
    → IfOk r (λ p. length p.cells ≤ 58 * (token_count test + token_count after) + length one.cells + length two.cells +
    18)
    → IfOk r (λ p. InnerPiece v x p)
if_made v w u x at test after taken other one two r is h e f a b law holds size =
    if_arm v x at test after taken other one two r is h a (subst (λ z. BlockPiece z other two) e b)
    (subst (λ z. IfOk r (λ p. IfLaw (known_in z) test after one.cells two.cells p.cells)) (f ∙ e) law) holds size

pub from_made : {E : Type 0} (v w u : Visible) (x : Statement) (at : ℕ) (entry exit : Expression)
    (first again : Statements) (one two : Code) (r : Result Code E) → x ≡ From at entry first again exit
    → StatementStands v x
    → w ≡ v → u ≡ w → BlockPiece v first one → BlockPiece w again two
    → IfOk r (λ p. FromLaw (known_in u) entry exit one.cells two.cells p.cells) → IfOk r (λ p. HoldsBoth two one p)
    → IfOk r (λ p. length p.cells ≤ 58 * (token_count entry + token_count exit) + length one.cells + length two.cells +
    18)
    → IfOk r (λ p. InnerPiece v x p)
from_made v w u x at entry exit first again one two r is h e f a b law holds size =
    from_arm v x at entry exit first again one two r is h a (subst (λ z. BlockPiece z again two) e b)
    (subst (λ z. IfOk r (λ p. FromLaw (known_in z) entry exit one.cells two.cells p.cells)) (f ∙ e) law) holds size

-- the scope is as before
pub popped_is : (v w u o : Visible) (var : Var) → w ≡ with_variable v var → u ≡ w → o ≡ popped u → o ≡ v
popped_is v w u o var e f g = g ∙ ap popped (f ∙ e)

pub local_made : {E : Type 0} (v w u o : Visible) (x : Statement) (at : ℕ) (var : Var) (value : Expression)
    (body : Statements) (end_var : Var) (last : Expression) (inside : Code) (r : Result Code E)
    → x ≡ Local at var value body end_var last → StatementStands v x
    → w ≡ with_variable v var → u ≡ w → o ≡ popped u → BlockPiece w body inside
    → IfOk r (λ p. LocalLaw (known_in o) var value last inside.cells p.cells) → IfOk r (λ p. HoldsCode inside p)
    → IfOk r (λ p. length p.cells ≤ 58 * (token_count value + token_count last) + length inside.cells + 12)
    → IfOk r (λ p. InnerPiece v x p)
local_made v w u o x at var value body end_var last inside r is h e f g a law holds size =
    let back : o ≡ v = g ∙ ap popped (f ∙ e) in
    local_arm v x at var value body end_var last inside r is h (subst (λ z. BlockPiece z body inside) e a)
    (subst (λ z. IfOk r (λ p. LocalLaw (known_in z) var value last inside.cells p.cells)) back law) holds size
