-- Blocks with a local variable.
use Rattle.std.proofs.Common.{◌≡◌, ◌∙◌, sym, ap, subst, refl, ℕ, ◌+◌, ◌<◌, Bool, true, false, List, [], ◌∷◌, map}
use Rattle.std.proofs.Common.{length, Option, Some, None, arith}
use Rattle.std.proofs.lemmas.Bool.{eqb-true}
use Rattle.std.specs.Prelude.{not, ◌&&◌, ◌||◌, if◌then◌else◌, Ok}
use Rattle.std.specs.Option.{ok_or, option_or}
use Rattle.std.specs.Str.{bytes_eq}
use Rattle.roopl_semantics.specs.rpp_tree.declared.tree.Var.{Var}
use Rattle.roopl_semantics.specs.rpp_tree.declared.tree.VarType.{VarType}
use Rattle.roopl_semantics.specs.rpp_tree.declared.tree.VarType.TheVariants as type
use Rattle.roopl_semantics.specs.rpp_tree.Tree.{Expression, Number, Null, Variable, Element, Binary, Statements, Source}
use Rattle.roopl_semantics.specs.rpp_tree.Tree.{nodes}
use Rattle.roopl_semantics.specs.class_rules.declared.kind.Kind.{Kind}
use Rattle.roopl_semantics.specs.class_rules.declared.kind.Kind.TheVariants as kind
use Rattle.roopl_semantics.specs.class_rules.Overrides.{is_type_int}
use Rattle.roopl_semantics.specs.class_rules.Table.{Table, table_of, class_of}
use Rattle.roopl_semantics.specs.class_rules.Refusal.{unknown_name, type_differs, redeclared, local_in_own_expression}
use Rattle.roopl_semantics.specs.class_rules.Scope.{Typing, Local, Locals, local_kind, kind_in, field_kind, kind_of}
use Rattle.roopl_semantics.specs.class_rules.Scope.{class_kind, array_kind}
use Rattle.roopl_semantics.specs.class_rules.Expressions.{then_checked, is_int, occurs, type_of, variable_type}
use Rattle.roopl_semantics.specs.class_rules.Expressions.{element_kind_of, index_is_int}
use Rattle.roopl_semantics.specs.class_rules.Expressions.{operator_type, first_token}
use Rattle.roopl_semantics.specs.class_rules.Statements.{verdict_passed, required, type_known, is_nil_word, local_rules}
use Rattle.roopl_semantics.specs.class_rules.Statements.{check_statements}
use Rattle.roopl_semantics.specs.class_rules.Program.{setting_in}
use Rattle.roopl_semantics.specs.Run.{give}
use Rattle.roopl_semantics.specs.Store.{Value, Word, Nil, Name, Store, Binding, State, main_name, same_value}
use Rattle.roopl_semantics.specs.Value.{Slot, value_at, read, value as value_in}
use Rattle.roopl_semantics.specs.Execution.{Setting, Runner, opened, closed, rest_of, DELOCAL, with_local}
use Rattle.roopl_semantics.specs.Laws.{one_if_name, holders_among}
use Rattle.meaning_sound.specs.Sound.{is_of_kind, AllFit, bound_value, binding_name, local_name, local_type, Sound}
use Rattle.meaning_sound.specs.Sound.{Keeps, Typed}
use Rattle.meaning_sound.specs.Plain.{HasWords, IsPlain}
use Rattle.meaning_sound.proofs.Cells.{typed_of}
use Rattle.meaning_sound.proofs.Classes.{KnowsClasses}
use Rattle.meaning_sound.specs.Kept.{MeansSame}
use Rattle.roopl_semantics.proofs.class_rules_laws.FirstPlaces.{bytes_turned}
use Rattle.meaning_sound.proofs.Runs.{Ends, ends_then, ends_check, ends_given}
use Rattle.roopl_semantics.proofs.class_rules_laws.PassedRules.{handed_on, both_passed, held as was_held, both_true}
use Rattle.roopl_semantics.proofs.class_rules_laws.PassedRules.{neither_true, int_kind}
use Rattle.meaning_sound.proofs.Values.{int_value, value_found, value_fits}
use Rattle.meaning_sound.proofs.Blocks.{KeepsAll}

-- ---- an expression in which a new variable does not occur

pub kind_in_under : (typing : Typing) (l : Local) (locals : Locals) (name : List ℕ) → bytes_eq name l.name ≡ false
    → kind_in typing (l ∷ locals) name ≡ kind_in typing locals name
kind_in_under typing l locals name h = ap (λ z. option_or (if z then Some l.kind else local_kind locals name)
    (field_kind typing.table typing.class name)) (bytes_turned l.name name ∙ h)

none_of_two : (a b : Bool) → (a || b) ≡ false → (a ≡ false) × (b ≡ false)
none_of_two false b h = (refl, h)
none_of_two true b h = absurd (cc)

pub type_of_under : (typing : Typing) (l : Local) (locals : Locals) (e : Expression) → occurs l.name e ≡ false
    → type_of typing (l ∷ locals) e ≡ type_of typing locals e
type_of_under typing l locals (Number at word) h = refl
type_of_under typing l locals (Null at) h = refl
type_of_under typing l locals (Variable name) h = ap (λ z. ok_or z (unknown_name name.at))
    (kind_in_under typing l locals name.text h)
type_of_under typing l locals (Element name index) h =
    let both = none_of_two (bytes_eq name.text l.name) (occurs l.name index) h in
    let array : variable_type typing (l ∷ locals) name ≡ variable_type typing locals name =
    ap (λ z. ok_or z (unknown_name name.at)) (kind_in_under typing l locals name.text both.0) in
    ap (λ z. then_checked z (λ array. then_checked (element_kind_of name array)
    (λ element. then_checked (type_of typing (l ∷ locals) index) (index_is_int element (first_token index))))) array
    ∙ ap (λ z. then_checked (variable_type typing locals name)
    (λ array. then_checked (element_kind_of name array) (λ element. then_checked z
    (index_is_int element (first_token index))))) (type_of_under typing l locals index both.1)
type_of_under typing l locals (Binary at operator left right) h =
    let both = none_of_two (occurs l.name left) (occurs l.name right) h in
    ap (λ z. then_checked z (λ a. then_checked (type_of typing (l ∷ locals) right)
    (λ b. operator_type typing.table at operator a b))) (type_of_under typing l locals left both.0)
    ∙ ap (λ z. then_checked (type_of typing locals left) (λ a. then_checked z
    (λ b. operator_type typing.table at operator a b))) (type_of_under typing l locals right both.1)

pub means_under : (l : Local) (locals shape : Locals) → MeansSame locals shape → MeansSame (l ∷ locals) (l ∷ shape)
means_under l locals shape means = record {
  same = λ name. ap (λ z. if bytes_eq l.name name then Some l.kind else z)
      (means.same name);
}

-- ---- what a local begins and ends with

pub data IsLocalEnd (typing : Typing) (locals : Locals) (name : List ℕ) (k : Kind) : Expression → Type 0 where
  int_end : (e : Expression) → k ≡ kind.Int → type_of typing locals e ≡ Ok kind.Int → HasWords e → occurs name e ≡ false
      → IsLocalEnd typing locals name k e
  nil_end : (at : ℕ) → is_int k ≡ false → IsLocalEnd typing locals name k (Null at)

abbrev pub HoldsNone : Value → Type 0
HoldsNone v = (m : ℕ) → one_if_name m v ≡ 0

pub same_value_is : (v w : Value) → same_value v w ≡ true → v ≡ w
same_value_is (Word a) (Word b) h = ap Word (eqb-true a b h)
same_value_is (Word a) Nil h = absurd (cc)
same_value_is (Word a) (Name b) h = absurd (cc)
same_value_is Nil (Word b) h = absurd (cc)
same_value_is Nil Nil h = refl
same_value_is Nil (Name b) h = absurd (cc)
same_value_is (Name a) (Word b) h = absurd (cc)
same_value_is (Name a) Nil h = absurd (cc)
same_value_is (Name a) (Name b) h = ap Name (eqb-true a b h)

pub passes_not : (b : Bool) → not b ≡ false → b ≡ true
passes_not true h = refl
passes_not false h = absurd (cc)

-- ---- a variable that appears and goes

pub opened_sound : (setting : Setting) (extra : ℕ → ℕ) (shape : Locals) (class : ℕ) (st : State) (name : List ℕ)
    (k : Kind) (v : Value) → Sound setting extra shape class st → is_of_kind setting.program st.store v k ≡ true
    → HoldsNone v
    → Sound setting extra (record { name = name; kind = k } ∷ shape) class (opened name v st)
opened_sound setting extra shape class st name k v s f none = record {
  names = ap (λ z. name ∷ z) s.names;
  variables = (f, s.variables);
  objects = s.objects;
  counts = λ n c h. let a = s.counts n c h in let b = none n in omega arith;
  lives = s.lives;
  self_is = s.self_is;
  self_held = s.self_held;
  main_extra = s.main_extra;
  main_unheld = let a = s.main_unheld in let b = none main_name in omega arith;
  fresh = s.fresh;
  placed = s.placed;
}

-- the variables except for the innermost
record Closed (setting : Setting) (store : Store) (l : Local) (shape : Locals) (frame : List Binding) : Type 0 where
  pub names : map binding_name (rest_of frame) ≡ map local_name shape
  pub variables : AllFit setting.program store (map local_type shape) (map bound_value (rest_of frame))
  pub holders : (m : ℕ) → holders_among m (map bound_value frame)
      ≡ one_if_name m (value_at frame 0) + holders_among m (map bound_value (rest_of frame))

closes : (setting : Setting) (store : Store) (l : Local) (shape : Locals) (frame : List Binding)
    → map binding_name frame ≡ map local_name (l ∷ shape) → AllFit setting.program store (map local_type (l ∷ shape))
    (map bound_value frame) → Closed setting store l shape frame
closes setting store l shape [] names all = absurd all
closes setting store l shape (b ∷ frame) names all = record
    { names = tails names; variables = all.1; holders = λ m. refl }
  where
    tails : {a c : List ℕ} {xs ys : List (List ℕ)} → a ∷ xs ≡ c ∷ ys → xs ≡ ys
    tails e = cc

pub closed_sound : (setting : Setting) (extra : ℕ → ℕ) (l : Local) (shape : Locals) (class : ℕ) (end : State)
    → Sound setting extra (l ∷ shape) class end → HoldsNone (value_at end.frame 0)
    → Sound setting extra shape class (closed end)
closed_sound setting extra l shape class end s none =
    let c = closes setting end.store l shape end.frame s.names s.variables in
    record {
      names = c.names;
      variables = c.variables;
      objects = s.objects;
      counts = λ n count h. let a = s.counts n count h in let b = none n in let d = c.holders n in omega arith;
      lives = s.lives;
      self_is = s.self_is;
      self_held = s.self_held;
      main_extra = s.main_extra;
      main_unheld = let a = s.main_unheld in let b = none main_name in let d = c.holders main_name in omega arith;
      fresh = s.fresh;
      placed = s.placed;
    }

module _ (setting : Setting) (classes : KnowsClasses setting.program) (run : Runner) (keeps : KeepsAll setting run)
    (extra : ℕ → ℕ) (locals shape : Locals) (class : ℕ) (inside : class < length setting.program.classes)
    (means : MeansSame locals shape) where
  abbrev program : Source
  program = setting.program

  abbrev typing : Typing
  typing = setting_in program (table_of program) class

  abbrev Kept : State → State → Type 0
  Kept st end = Keeps setting extra shape class st end

  pub begins : (st : State) (name : List ℕ) (k : Kind) (e : Expression) (v : Value) → Typed setting extra shape class st
      → IsLocalEnd typing locals name k e → value_in program st e ≡ Ok v
      → (is_of_kind program st.store v k ≡ true) × HoldsNone v
  begins st name k e v t (int_end x is typed words apart) q =
      let f = value_found program st.store kind.Int (value_in program st e) v
      (value_fits setting classes extra locals shape class inside means st e kind.Int t words typed) q in
      let i = int_value program st.store v f in
      (subst (λ z. is_of_kind program st.store v z ≡ true) (sym is) f, λ m. ap (one_if_name m) i.is)
  begins st name k e v t (nil_end at no_int) q =
      let n : Nil ≡ v = cc in
      (subst (λ z. is_of_kind program st.store z k ≡ true) n (ap not no_int), λ m. ap (one_if_name m) (sym n))

  pub ends_with : (end : State) (name : List ℕ) (k : Kind) (e : Expression) (w : Value)
      → Typed setting extra (record { name = name; kind = k } ∷ shape) class end → IsLocalEnd typing locals name k e
      → value_in program end e ≡ Ok w → HoldsNone w
  ends_with end name k e w t (int_end x is typed words apart) q =
      let l : Local = record { name = name; kind = k } in
      let under = type_of_under typing l locals e apart ∙ typed in
      let f = value_found program end.store kind.Int (value_in program end e) w
      (value_fits setting classes extra (l ∷ locals) (l ∷ shape) class inside (means_under l locals shape means) end
      e kind.Int t words under) q in
      λ m. ap (one_if_name m) (int_value program end.store w f).is
  ends_with end name k e w t (nil_end at no_int) q = let n : Nil ≡ w = cc in λ m. ap (one_if_name m) (sym n)

  pub with_local_keeps : (name : List ℕ) (k : Kind) (value : Expression) (body : Statements) (end_value : Expression)
      (st : State)
      → IsLocalEnd typing locals name k value → IsLocalEnd typing locals name k end_value
      → check_statements typing (record { name = name; kind = k } ∷ locals) body ≡ verdict_passed → IsPlain body
      → Sound setting extra shape class st → Ends (Kept st) (with_local setting run name value body end_value st)
  with_local_keeps name k value body end_value st first last checked plain s =
      let l : Local = record { name = name; kind = k } in
      let t = typed_of setting extra shape class st s in
      ends_given (Kept st) (nodes value) (value_in program st value) _ (λ v e.
      let b = begins st name k value v t first e in
      ends_then (Keeps setting extra (l ∷ shape) class (opened name v st)) (Kept st) (run body (opened name v st)) _
      (keeps.by extra (l ∷ locals) (l ∷ shape) class body (opened name v st) inside (means_under l locals shape means)
      checked plain (opened_sound setting extra shape class st name k v s b.0 b.1))
      (λ end kept. ends_given (Kept st) (nodes end_value) (value_in program end end_value) _ (λ w f.
      ends_check (Kept st) DELOCAL (not (same_value (read end (Slot 0)) w)) (λ x. give (closed end)) (λ q.
      let te = typed_of setting extra (l ∷ shape) class end kept.sound in
      let no_name = ends_with end name k end_value w te last f in
      let same : value_at end.frame 0 ≡ w = same_value_is (value_at end.frame 0) w (passes_not _ q) in
      record {
        sound = closed_sound setting extra l shape class end kept.sound (λ m. ap (one_if_name m) same ∙ no_name m);
        stays = record {
          self_same = kept.stays.self_same;
          depth_same = kept.stays.depth_same;
          heads_same = kept.stays.heads_same;
          blocks_same = kept.stays.blocks_same;
        };
      }))))

-- ---- `local`

int_of_type : (table : Table) (t : VarType) → is_type_int t ≡ true → kind_of table t ≡ kind.Int
int_of_type table type.Int h = refl
int_of_type table (type.Class name) h = absurd (cc)
int_of_type table type.IntArray h = absurd (cc)
int_of_type table (type.ClassArray name) h = absurd (cc)

pub no_int_class : (o : Option ℕ) → is_int (class_kind o) ≡ false
no_int_class None = refl
no_int_class (Some c) = refl

pub no_int_array : (o : Option ℕ) → is_int (array_kind o) ≡ false
no_int_array None = refl
no_int_array (Some c) = refl

no_int_of_type : (table : Table) (t : VarType) → is_type_int t ≡ false → is_int (kind_of table t) ≡ false
no_int_of_type table type.Int h = absurd (cc)
no_int_of_type table (type.Class name) h = no_int_class (class_of table name.text)
no_int_of_type table type.IntArray h = refl
no_int_of_type table (type.ClassArray name) h = no_int_array (class_of table name.text)

nil_of : (typing : Typing) (locals : Locals) (name : List ℕ) (k : Kind) (e : Expression) → is_int k ≡ false
    → is_nil_word e ≡ true → IsLocalEnd typing locals name k e
nil_of typing locals name k (Number at word) h n = absurd (cc)
nil_of typing locals name k (Null at) h n = nil_end at h
nil_of typing locals name k (Variable x) h n = absurd (cc)
nil_of typing locals name k (Element x index) h n = absurd (cc)
nil_of typing locals name k (Binary at operator left right) h n = absurd (cc)

-- what the rules of a `local` say
pub record LocalParts (typing : Typing) (locals : Locals) (var : Var) (value : Expression) (end_var : Var)
    (end_value : Expression) : Type 0 where
  pub known : type_known typing.table var.kind ≡ verdict_passed
  pub first : IsLocalEnd typing locals var.name.text (kind_of typing.table var.kind) value
  pub last : IsLocalEnd typing locals var.name.text (kind_of typing.table var.kind) end_value

pub local_parts : (typing : Typing) (locals : Locals) (at : ℕ) (var : Var) (value : Expression) (end_var : Var)
    (end_value : Expression) → local_rules typing locals at var value end_var end_value ≡ verdict_passed
    → HasWords value
    → HasWords end_value → LocalParts typing locals var value end_var end_value
local_parts typing locals at var value end_var end_value h wv we =
    let a = both_passed (type_known typing.table var.kind) _ h in
    let b = both_passed (required _ (redeclared var.name.at)) _ a.1 in
    let c = both_passed (required _ (type_differs end_var.name.at)) _ b.1 in
    let d = both_passed (required (not (occurs var.name.text value || occurs var.name.text end_value))
    (local_in_own_expression at)) _ c.1 in
    let apart = neither_true (occurs var.name.text value) (occurs var.name.text end_value) (was_held _ _ d.0) in
    let v = handed_on (type_of typing locals value) _ tt d.1 in
    let e = handed_on (type_of typing locals end_value) _ tt v.goes in
    by a.0 apart.0 apart.1 v.value e.value v.is e.is (is_type_int var.kind) refl (was_held _ (type_differs at) e.goes)
  where
    by : type_known typing.table var.kind ≡ verdict_passed → occurs var.name.text value ≡ false
        → occurs var.name.text end_value ≡ false → (v e : Kind) → type_of typing locals value ≡ Ok v
        → type_of typing locals end_value ≡ Ok e → (int : Bool) → is_type_int var.kind ≡ int
        → (if int then is_int v && is_int e else is_nil_word value && is_nil_word end_value) ≡ true
        → LocalParts typing locals var value end_var end_value
    by known p q v e iv ie true is t =
        let ints = both_true (is_int v) (is_int e) t in
        let k = int_of_type typing.table var.kind is in
        record {
          known = known;
          first = int_end value k (iv ∙ ap (λ z. Ok z) (int_kind v ints.0)) wv p;
          last = int_end end_value k (ie ∙ ap (λ z. Ok z) (int_kind e ints.1)) we q;
        }
    by known p q v e iv ie false is t =
        let nils = both_true (is_nil_word value) (is_nil_word end_value) t in
        let no_int = no_int_of_type typing.table var.kind is in
        record {
          known = known;
          first = nil_of typing locals var.name.text (kind_of typing.table var.kind) value no_int
              nils.0;
          last = nil_of typing locals var.name.text (kind_of typing.table var.kind) end_value no_int nils.1;
        }
