-- At the end of a run an int field of the main object holds a word, which is in its static cell.
use Rattle.std.proofs.Common.{◌≡◌, ◌∙◌, sym, ap, subst, refl, ℕ, zero, suc, ◌<◌, ◌≤◌, true, false, arith, List, [], ◌∷◌}
use Rattle.std.proofs.Common.{length, map, get_or, slice_get, Option, Some, None}
use Rattle.std.specs.Prelude.{IsTrue, slice_index}
use Rattle.std.specs.Option.{option_map, unwrap_or}
use Rattle.std.proofs.lemmas.Option.{get_or_from_slice_get, slice_get_within}
use Rattle.bennett_wrap.specs.rpp_words.Limits.{IsLimits}
use Rattle.bennett_wrap.specs.rpp_words.declared.input.FieldWord.{FieldWord}
use Rattle.bennett_wrap.specs.rpp_words.declared.input.Limits.{Limits}
use Rattle.meaning_sound.specs.rpp_tree.declared.tree.Var.{Var}
use Rattle.meaning_sound.specs.rpp_tree.declared.tree.VarType.{VarType}
use Rattle.meaning_sound.specs.rpp_tree.declared.tree.VarType.TheVariants as type
use Rattle.meaning_sound.specs.rpp_tree.Tree.{Source}
use Rattle.meaning_sound.specs.class_rules.declared.kind.Kind.{Kind}
use Rattle.meaning_sound.specs.class_rules.declared.kind.Kind.TheVariants as kind
use Rattle.meaning_sound.specs.class_rules.Classes.{main_of}
use Rattle.meaning_sound.specs.class_rules.Inheritance.{kind_of_var}
use Rattle.meaning_sound.specs.class_rules.Program.{IsAccepted}
use Rattle.meaning_sound.specs.class_rules.Scope.{kind_of}
use Rattle.meaning_sound.specs.class_rules.Table.{Table, table_of}
use Rattle.meaning_sound.specs.roopl_semantics.Store.{Value, Word, Nil, Name, Head, OfClass, Object, Store, State, main_name}
use Rattle.meaning_sound.specs.roopl_semantics.Store.{object_named, object_at}
use Rattle.meaning_sound.specs.roopl_semantics.Source.{GivesDone, IsValid, main_fields, is_int_type, is_int_field, starting}
use Rattle.meaning_sound.specs.roopl_semantics.Layout.{layout}
use Rattle.meaning_sound.specs.Sound.{head_of, head_named, named_fits, is_of_kind, cell_kinds, AllFit, Keeps, main_alone}
use Rattle.meaning_sound.proofs.Lists.{all_get, all_inside}
use Rattle.meaning_sound.proofs.Plainness.{program_plain}
use Rattle.meaning_sound.proofs.Starting.{end_sound}
use Rattle.meaning_sound.proofs.Stores.{live_object}
use Rattle.refine_wrap.specs.Programs.{field_cell}
use Rattle.refine_wrap.specs.Laws.{IntFieldsStandInStaticCells}
use Rattle.refine_wrap.proofs.Fields.{field_at}

-- the type of an int field is int

int_kind : (table : Table) (type : VarType) → is_int_type type ≡ true → kind_of table type ≡ kind.Int
int_kind table type.Int h = refl
int_kind table (type.Class name) h = absurd (cc)
int_kind table type.IntArray h = absurd (cc)
int_kind table (type.ClassArray name) h = absurd (cc)

int_there : (program : Source) (vars : List Var) (field : ℕ) → IsTrue (is_int_field (slice_get vars field))
    → slice_get (map (kind_of_var program) vars) field ≡ Some kind.Int
int_there program [] field h = absurd (let no : false ≡ true = h in cc)
int_there program (var ∷ vars) zero h = ap (λ k. Some k) (int_kind (table_of program) var.kind h)
int_there program (var ∷ vars) (suc field) h = int_there program vars field h

-- what is of type int is a word

no_int_named : (program : Source) (head : Option Head) → named_fits program kind.Int head ≡ false
no_int_named program None = refl
no_int_named program (Some head) = refl

word_in : (program : Source) (store : Store) (cells : List Value) (field : ℕ) (word : ℕ → ℕ) (o : Option Value)
    → slice_get cells field ≡ o → is_of_kind program store (unwrap_or o Nil) kind.Int ≡ true
    → ((w : ℕ) → get_or cells field (Word 0) ≡ Word w → word field ≡ w)
    → slice_get cells field ≡ Some (Word (word field))
word_in program store cells field word None e fit is = absurd (let no : false ≡ true = fit in cc)
word_in program store cells field word (Some Nil) e fit is = absurd (let no : false ≡ true = fit in cc)
word_in program store cells field word (Some (Name n)) e fit is =
    absurd (let no : false ≡ true = sym (no_int_named program (head_named store n)) ∙ fit in cc)
word_in program store cells field word (Some (Word w)) e fit is =
    e ∙ ap (λ x. Some (Word x)) (sym (is w (get_or_from_slice_get cells field (Word w) (Word 0) e)))

same_head : {h k : Head} → Some h ≡ Some k → h ≡ k
same_head e = cc

pub int_fields : IntFieldsStandInStaticCells
int_fields program limits input end statics field accepted inside valid gives int =
    let kept : Keeps (record { program = program; limits = limits }) main_alone [] (main_of program).class
    (starting program input) end =
    end_sound program limits input gives.fuel end gives.cost accepted (program_plain program accepted) inside valid
    gives.done in
    let main : Object = object_at end.store main_name in
    let alone : 0 < main_alone main_name = omega arith in
    let there : object_named end.store main_name ≡ Some main =
    live_object end.store main_name (kept.sound.lives main_name alone) in
    let head : main.head ≡ OfClass (main_of program).class =
    same_head (sym (ap (option_map head_of) there) ∙ kept.stays.heads_same main_name alone) in
    let fit : AllFit program end.store (map (kind_of_var program) (main_fields program)) main.cells =
    subst (λ (h : Head). AllFit program end.store (cell_kinds program h) main.cells) head
    (kept.sound.objects main_name main there) in
    let is_int = int_there program (main_fields program) field int in
    let within = all_inside program end.store (map (kind_of_var program) (main_fields program)) main.cells field
    kind.Int fit is_int in
    let order = inside.heap_to in
    let lists = kept.sound.placed.kept.lists in
    word_in program end.store main.cells field (λ k. slice_index (layout program limits statics end.store end.log)
    (field_cell k)) (slice_get main.cells field) refl
    (all_get program end.store (map (kind_of_var program) (main_fields program)) main.cells field kind.Int fit is_int)
    (λ w is. field_at program limits statics end.store end.log kept.sound.placed.at field w kept.sound.placed.placed
    (omega arith) within is)
