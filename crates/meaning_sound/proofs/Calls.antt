-- Calls keep a state sound.
use Rattle.std.proofs.Common.{◌≡◌, ◌∙◌, sym, ap, subst, refl, ℕ, ◌<◌, Bool, true, false, List, [], ◌∷◌, ◌++◌, map}
use Rattle.std.proofs.Common.{length, get_or, Option, Some, None, arith}
use Rattle.std.proofs.lemmas.Bool.{eqb-true, or_right}
pub use Rattle.std.proofs.lemmas.Bool.{or_left}
use Rattle.std.proofs.lemmas.List.Quantifiers.{position-Some}
use Rattle.std.proofs.lemmas.List.Folds.{list_any-append}
use Rattle.std.specs.Prelude.{nat_eq, is_some, not, ◌&&◌, if◌then◌else◌, Ok, Err, position}
use Rattle.std.specs.Option.{unwrap_or, is_none}
use Rattle.std.specs.Str.{bytes_eq}
use Rattle.std.specs.List.{list_any}
use Rattle.roopl_semantics.specs.rpp_tree.declared.tree.Ident.{Ident}
use Rattle.roopl_semantics.specs.rpp_tree.declared.tree.Var.{Var}
use Rattle.roopl_semantics.specs.rpp_tree.Tree.{Lvalue, Whole, Call, Source}
use Rattle.roopl_semantics.specs.class_rules.declared.kind.Kind.{Kind}
use Rattle.roopl_semantics.specs.class_rules.declared.kind.Kind.TheVariants as kind
use Rattle.roopl_semantics.specs.class_rules.Members.{field_name}
use Rattle.roopl_semantics.specs.class_rules.Overrides.{parameters_of}
use Rattle.roopl_semantics.specs.class_rules.Classes.{class_fields, method_named}
use Rattle.roopl_semantics.specs.class_rules.Table.{table_of, slot_in, dispatch_in}
use Rattle.roopl_semantics.specs.class_rules.Refusal.{unknown_name, type_differs, same_argument, wrong_arity}
use Rattle.roopl_semantics.specs.class_rules.Refusal.{self_update}
use Rattle.roopl_semantics.specs.class_rules.Scope.{Typing, Locals, kind_of, kind_in}
use Rattle.roopl_semantics.specs.class_rules.Expressions.{place_type}
use Rattle.roopl_semantics.specs.class_rules.Statements.{verdict_passed, required, each_passes, each_passes_after}
use Rattle.roopl_semantics.specs.class_rules.Statements.{occurs_in_own_index}
use Rattle.roopl_semantics.specs.class_rules.Statements.{argument_known, argument_new, argument_fits, arguments_fit}
use Rattle.roopl_semantics.specs.class_rules.Statements.{receiver_kind}
use Rattle.roopl_semantics.specs.class_rules.Statements.{place_class, receiver_class, plain_receiver, slot_rules}
use Rattle.roopl_semantics.specs.class_rules.Statements.{call_rules}
use Rattle.roopl_semantics.specs.rpp_tree.Places.{place_name}
use Rattle.roopl_semantics.specs.class_rules.Program.{setting_in}
use Rattle.roopl_semantics.specs.Run.{Run, ◌>>=◌, give}
use Rattle.roopl_semantics.specs.Store.{State, number_of, is_nil}
use Rattle.roopl_semantics.specs.Value.{Cell, cell_named, own_class, read, NIL}
use Rattle.roopl_semantics.specs.Execution.{Setting, Runner, same_cell, cells_named, class_of, is_too_deep}
use Rattle.roopl_semantics.specs.Execution.{TOO_DEEP, invoked, statement}
use Rattle.roopl_semantics.specs.Laws.{one_if_name}
use Rattle.roopl_semantics.specs.class_rules.Inheritance.{kind_of_var}
use Rattle.meaning_sound.specs.Sound.{is_of_kind, binding_name, Sound, Keeps, Typed}
use Rattle.meaning_sound.proofs.Stores.{other_number}
use Rattle.meaning_sound.proofs.Cells.{typed_of, read_fits}
use Rattle.meaning_sound.proofs.Classes.{KnowsClasses}
use Rattle.meaning_sound.specs.Kept.{MeansSame}
use Rattle.meaning_sound.proofs.Names.{is_object, cell_named_kind, IsMeant, variable, field, meant}
use Rattle.roopl_semantics.proofs.class_rules_laws.FirstPlaces.{same_name, equal_name}
use Rattle.meaning_sound.proofs.Runs.{Ends, ends_after, ends_check}
use Rattle.roopl_semantics.proofs.class_rules_laws.PassedRules.{both_passed, held as was_held, handed_on, kinds_same}
use Rattle.roopl_semantics.proofs.class_rules_laws.PassedRules.{some_of}
use Rattle.meaning_sound.proofs.Blocks.{KeepsAll}
use Rattle.meaning_sound.proofs.Objects.{clash}
use Rattle.meaning_sound.proofs.Removal.{reference, one_name}
use Rattle.meaning_sound.proofs.Makes.{name_is}
use Rattle.meaning_sound.proofs.Moves.{CellsHave, ApartFrom, AllApart, IsOwn, AllOwn}
use Rattle.meaning_sound.proofs.Invocations.{invoked_keeps}

-- ---- names of arguments

abbrev pub name_in : List Ident → List ℕ → Bool
name_in before name = list_any (λ (other : Ident). bytes_eq other.text name) before

abbrev pub NamesApart : Ident → List Ident → Type 0
NamesApart x [] = Unit {0}
NamesApart x (a ∷ args) = (bytes_eq x.text a.text ≡ false) × NamesApart x args

abbrev pub AllNamesApart : List Ident → Type 0
AllNamesApart [] = Unit {0}
AllNamesApart (a ∷ args) = NamesApart a args × AllNamesApart args

not_true : (b : Bool) → not b ≡ true → b ≡ false
not_true true h = absurd (cc)
not_true false h = refl

still_in : (before : List Ident) (a : Ident) (name : List ℕ) → name_in before name ≡ true
    → name_in (before ++ a ∷ []) name ≡ true
still_in before a name h = list_any-append (λ (other : Ident). bytes_eq other.text name) before (a ∷ [])
    ∙ or_left (name_in before name) _ h

now_in : (before : List Ident) (a : Ident) → name_in (before ++ a ∷ []) a.text ≡ true
now_in before a = list_any-append (λ (other : Ident). bytes_eq other.text a.text) before (a ∷ [])
    ∙ or_right (name_in before a.text) _ (or_left (bytes_eq a.text a.text) false (equal_name a.text a.text refl))

pub apart_after : (before args : List Ident) (x : Ident) → each_passes_after argument_new before args ≡ verdict_passed
    → name_in before x.text ≡ true → NamesApart x args
apart_after before [] x h k = tt
apart_after before (a ∷ args) x h k =
    let both = both_passed (argument_new before a) (each_passes_after argument_new (before ++ a ∷ []) args) h in (
      by (bytes_eq x.text a.text) refl (not_true (name_in before a.text) (was_held _ (same_argument a.at) both.0)),
      apart_after (before ++ a ∷ []) args x both.1 (still_in before a x.text k),
    )
  where
    by : (b : Bool) → bytes_eq x.text a.text ≡ b → name_in before a.text ≡ false → bytes_eq x.text a.text ≡ false
    by false e none = e
    by true e none = absurd (clash (name_in before x.text) k (ap (name_in before) (same_name x.text a.text e) ∙ none))

pub all_apart_after : (before args : List Ident) → each_passes_after argument_new before args ≡ verdict_passed
    → AllNamesApart args
all_apart_after before [] h = tt
all_apart_after before (a ∷ args) h =
    let both = both_passed (argument_new before a) (each_passes_after argument_new (before ++ a ∷ []) args) h in
    (apart_after (before ++ a ∷ []) args a both.1 (now_in before a), all_apart_after (before ++ a ∷ []) args both.1)

-- names of one list that are found at one place are one name
one_place : (names : List (List ℕ)) (a b : List ℕ) (i j : ℕ) → position (bytes_eq a) names ≡ Some i
    → position (bytes_eq b) names ≡ Some j → i ≡ j → a ≡ b
one_place names a b i j h k e =
    let x = (position-Some (bytes_eq a) names i [] h).1 in
    let y = (position-Some (bytes_eq b) names j [] k).1 in
    same_name a (get_or names i []) x ∙ ap (λ n. get_or names n []) e ∙ sym (same_name b (get_or names j []) y)

module _ (setting : Setting) (classes : KnowsClasses setting.program) (run : Runner) (keeps : KeepsAll setting run)
    (extra : ℕ → ℕ) (locals shape : Locals) (class : ℕ) (inside : class < length setting.program.classes)
    (means : MeansSame locals shape) where
  abbrev program : Source
  program = setting.program

  abbrev typing : Typing
  typing = setting_in program (table_of program) class

  abbrev Kept : State → State → Type 0
  Kept st end = Keeps setting extra shape class st end

  abbrev pub Meant : State → List ℕ → Cell → Type 0
  Meant st name cell = IsMeant setting classes extra locals shape class inside means st name cell

  pub meant_apart : (st : State) (a b : List ℕ) (c d : Cell) → Meant st a c → Meant st b d → bytes_eq a b ≡ false
      → same_cell c d ≡ false
  meant_apart st a b c d (variable i h) (variable j k) apart =
      other_number i j (λ e. clash (bytes_eq a b) (equal_name a b (one_place (map binding_name st.frame) a b i j h k e))
      apart)
  meant_apart st a b c d (variable i h) (field j k) apart = refl
  meant_apart st a b c d (field i h) (variable j k) apart = refl
  meant_apart st a b c d (field i h) (field j k) apart =
      second (nat_eq st.self st.self) (other_number i j (λ e. clash (bytes_eq a b)
      (equal_name a b (one_place (map field_name (class_fields program (own_class st))) a b i j h k e)) apart))
    where
      second : (x : Bool) {y : Bool} → y ≡ false → (x && y) ≡ false
      second true e = e
      second false e = refl

  pub meant_own : (st : State) (a : List ℕ) (c : Cell) → Meant st a c → IsOwn st.self c
  meant_own st a c (variable i h) = tt
  meant_own st a c (field i h) = refl

  abbrev pub cell_of_name : State → Ident → Cell
  cell_of_name st name = cell_named program st name.text

  -- each argument means a cell
  abbrev pub AllMean : State → List Ident → Type 0
  AllMean st [] = Unit {0}
  AllMean st (a ∷ args) = Meant st a.text (cell_of_name st a) × AllMean st args

  pub known_of : (o : Option Kind) → is_some o ≡ true → o ≡ Some (unwrap_or o kind.Nil)
  known_of None h = absurd (cc)
  known_of (Some k) h = refl

  pub all_mean : (own : Bool) (at : ℕ) (args : List Ident) (st : State) → Typed setting extra shape class st
      → each_passes (argument_known typing locals own at) args ≡ verdict_passed → AllMean st args
  all_mean own at [] st t h = tt
  all_mean own at (a ∷ args) st t h =
      let both = both_passed (argument_known typing locals own at a)
      (each_passes (argument_known typing locals own at) args) h in
      let known = both_passed (required (is_some (kind_in typing locals a.text)) (unknown_name a.at)) _ both.0 in (
        meant setting classes extra locals shape class inside means st a.text
            (unwrap_or (kind_in typing locals a.text) kind.Nil) t
            (known_of (kind_in typing locals a.text) (was_held _ (unknown_name a.at) known.0)),
        all_mean own at args st t both.1,
      )

  pub args_have : (own : Bool) (at : ℕ) (params : List Var) (args : List Ident) (st : State)
      → Typed setting extra shape class st → each_passes (argument_known typing locals own at) args ≡ verdict_passed
      → arguments_fit typing locals params args ≡ verdict_passed → length args ≡ length params
      → CellsHave program shape st.store (map (kind_of_var program) params) (cells_named setting st args)
  args_have own at [] [] st t h f l = tt
  args_have own at [] (a ∷ args) st t h f l = absurd (omega arith)
  args_have own at (p ∷ params) [] st t h f l = absurd (omega arith)
  args_have own at (p ∷ params) (a ∷ args) st t h f l =
      let both = both_passed (argument_known typing locals own at a)
      (each_passes (argument_known typing locals own at) args) h in
      let known = both_passed (required (is_some (kind_in typing locals a.text)) (unknown_name a.at)) _ both.0 in
      let fit = both_passed (argument_fits typing locals p a) (arguments_fit typing locals params args) f in
      let same = kinds_same (kind_of typing.table p.kind) (unwrap_or (kind_in typing locals a.text) kind.Nil)
      (was_held _ (type_differs a.at) fit.0) in
      let is : kind_in typing locals a.text ≡ Some (kind_of_var program p) =
      known_of (kind_in typing locals a.text) (was_held _ (unknown_name a.at) known.0)
      ∙ ap (λ z. Some z) (sym same) in (
        cell_named_kind setting classes extra locals shape class inside means st a.text (kind_of_var program p) t is,
        args_have own at params args st t both.1 fit.1 (omega arith),
      )

  pub apart_cells : (st : State) (x : Ident) (c : Cell) (args : List Ident) → Meant st x.text c → AllMean st args
      → NamesApart x args → ApartFrom c (cells_named setting st args)
  apart_cells st x c [] m all apart = tt
  apart_cells st x c (a ∷ args) m all apart = (
    meant_apart st x.text a.text c (cell_of_name st a) m all.0 apart.0,
    apart_cells st x c args m all.1 apart.1,
  )

  pub all_apart_cells : (st : State) (args : List Ident) → AllMean st args → AllNamesApart args
      → AllApart (cells_named setting st args)
  all_apart_cells st [] all apart = tt
  all_apart_cells st (a ∷ args) all apart = (
    apart_cells st a (cell_of_name st a) args all.0 all.1 apart.0,
    all_apart_cells st args all.1 apart.1,
  )

  pub all_own_cells : (st : State) (args : List Ident) → AllMean st args → AllOwn st.self (cells_named setting st args)
  all_own_cells st [] all = tt
  all_own_cells st (a ∷ args) all = (meant_own st a.text (cell_of_name st a) all.0, all_own_cells st args all.1)

  -- what the rules of a call say of the arguments
  pub record CallParts (own : Bool) (at : ℕ) (before : List Ident) (method : Ident) (args : List Ident) (static : ℕ) :
      Type 0 where
    pub slot : ℕ
    pub slot_is : slot_in typing.table static method.text ≡ Some slot
    pub known : each_passes (argument_known typing locals own at) args ≡ verdict_passed
    pub new : each_passes_after argument_new before args ≡ verdict_passed
    pub as_many : length args ≡ length (parameters_of program (dispatch_in typing.table static slot))
    pub fit : arguments_fit typing locals (parameters_of program (dispatch_in typing.table static slot)) args
        ≡ verdict_passed

  pub call_parts : (at : ℕ) (receiver : Option Lvalue) (method : Ident) (args : List Ident) (static : ℕ)
      → slot_rules typing locals at receiver method args static (slot_in typing.table static method.text)
      ≡ verdict_passed
      → CallParts (is_none receiver) at (plain_receiver receiver) method args static
  call_parts at receiver method args static h = by (slot_in typing.table static method.text) refl h
    where
      by : (o : Option ℕ) → slot_in typing.table static method.text ≡ o
          → slot_rules typing locals at receiver method args static o ≡ verdict_passed
          → CallParts (is_none receiver) at (plain_receiver receiver) method args static
      by None e q = absurd (cc)
      by (Some slot) e q =
          let params = parameters_of program (dispatch_in typing.table static slot) in
          let a = both_passed (each_passes (argument_known typing locals (is_none receiver) at) args) _ q in
          let b = both_passed (each_passes_after argument_new (plain_receiver receiver) args) _ a.1 in
          let c = both_passed (required (nat_eq (length args) (length params)) (wrong_arity method.at))
          (arguments_fit typing locals params args) b.1 in
          record {
            slot = slot;
            slot_is = e;
            known = a.0;
            new = b.0;
            as_many = eqb-true (length args) (length params) (was_held _ (wrong_arity method.at) c.0);
            fit = c.1;
          }

  pub call_self_keeps : (n at : ℕ) (back : Bool) (method : Ident) (args : List Ident) (st : State)
      → call_rules typing locals at None method args ≡ verdict_passed → Sound setting extra shape class st
      → Ends (Kept st) (statement setting n run (Call at back None method args) st)
  call_self_keeps n at back method args st h s =
      let t = typed_of setting extra shape class st s in
      let p = call_parts at None method args class h in
      let object = is_object program class st.store st.self t.self_is in
      let params = parameters_of program (dispatch_in typing.table class p.slot) in
      let cells = cells_named setting st args in
      let mean = all_mean true at args st t p.known in
      let run_it : Unit {0} → Run State = λ x. invoked setting run back
      (method_named program (own_class st) method.text) st.self [] cells st in
      ends_after (Kept st) (length args) _ (ends_check (Kept st) TOO_DEEP (is_too_deep setting st) run_it (λ q.
      subst (λ c. Ends (Kept st) (invoked setting run back (method_named program c method.text) st.self [] cells st))
      (sym object.class_is)
      (invoked_keeps setting classes run keeps extra shape class back (method_named program object.own method.text)
      st.self object.own params [] cells [] st (record {
        sound = s;
        found = classes.found object.own class p.slot method.text object.above p.slot_is;
        receiver_has = tt;
        args_have = args_have true at params args st t p.known p.fit p.as_many;
        apart = all_apart_cells st args mean (all_apart_after [] args p.new);
        owned = all_own_cells st args mean;
        object = object.head;
        self_held = let a = s.self_held in omega arith;
      }))))

  pub class_of_kind : (at : ℕ) (k : Kind) (c : ℕ) → receiver_kind at k ≡ Ok c → k ≡ kind.Class c
  class_of_kind at kind.Int c h = absurd (cc)
  class_of_kind at kind.Nil c h = absurd (cc)
  class_of_kind at (kind.Class x) c h = let e : x ≡ c = cc in ap kind.Class e
  class_of_kind at kind.IntArray c h = absurd (cc)
  class_of_kind at (kind.ClassArray x) c h = absurd (cc)

  -- the receiver of a call
  pub record ReceiverParts (at : ℕ) (place : Lvalue) (method : Ident) (args : List Ident) : Type 0 where
    pub static : ℕ
    pub is : place_type typing locals place ≡ Ok (kind.Class static)
    pub apart : occurs_in_own_index place ≡ false
    pub rules : slot_rules typing locals at (Some place) method args static (slot_in typing.table static method.text)
        ≡ verdict_passed

  pub receiver_parts : (at : ℕ) (place : Lvalue) (method : Ident) (args : List Ident)
      → call_rules typing locals at (Some place) method args ≡ verdict_passed → ReceiverParts at place method args
  receiver_parts at place method args h =
      let c = handed_on (receiver_class typing locals (Some place)) _ tt h in
      let k = handed_on (place_type typing locals place) _ c.value c.is in
      let r = handed_on (receiver_kind (place_name place).at k.value) (place_class (place_name place).at place) c.value
      k.goes in
      let p = by r.value c.value (occurs_in_own_index place) refl r.goes in
      record {
        static = c.value;
        is = k.is ∙ ap (λ z. Ok z)
            (class_of_kind (place_name place).at k.value r.value r.is ∙ ap kind.Class p.1);
        apart = p.0;
        rules = c.goes;
      }
    where
      by : (x y : ℕ) (b : Bool) → occurs_in_own_index place ≡ b
          → (if b then Err (self_update (place_name place).at) else Ok x) ≡ Ok y
          → (occurs_in_own_index place ≡ false) × (x ≡ y)
      by x y true e q = absurd (cc)
      by x y false e q = (e, cc)

  pub call_object_keeps : (n at : ℕ) (back : Bool) (name method : Ident) (args : List Ident) (st : State)
      → call_rules typing locals at (Some (Whole name)) method args ≡ verdict_passed
      → Sound setting extra shape class st
      → Ends (Kept st) (statement setting n run (Call at back (Some (Whole name)) method args) st)
  call_object_keeps n at back name method args st h s =
      let t = typed_of setting extra shape class st s in
      let r = receiver_parts at (Whole name) method args h in
      let p = call_parts at (Some (Whole name)) method args r.static r.rules in
      let known : kind_in typing locals name.text ≡ Some (kind.Class r.static) =
      some_of (kind_in typing locals name.text) (unknown_name name.at) (kind.Class r.static) r.is in
      let cell = cell_of_name st name in
      let cell_is = cell_named_kind setting classes extra locals shape class inside means st name.text
      (kind.Class r.static) t known in
      let cell_meant = meant setting classes extra locals shape class inside means st name.text (kind.Class r.static) t
      known in
      let fit = read_fits setting extra shape class st cell (kind.Class r.static) t cell_is in
      let params = parameters_of program (dispatch_in typing.table r.static p.slot) in
      let cells = cells_named setting st args in
      let mean = all_mean false at args st t p.known in
      let self = number_of (read st cell) in
      let run_it : Unit {0} → Run State = λ x. invoked setting run back
      (method_named program (class_of setting st self) method.text) self (cell ∷ []) cells st in
      ends_after (Kept st) (length args) _ (
      ends_check (Kept st) NIL (is_nil (read st cell))
      (λ x. Rattle.roopl_semantics.specs.Run.fault_if TOO_DEEP (is_too_deep setting st) >>= run_it) (λ u.
      ends_check (Kept st) TOO_DEEP (is_too_deep setting st) run_it (λ q.
      let nm = reference program st.store (read st cell) (kind.Class r.static) fit refl u in
      let is_name = name_is (read st cell) nm in
      let object = is_object program r.static st.store self
      (subst (λ v. is_of_kind program st.store v (kind.Class r.static) ≡ true) is_name fit) in
      subst (λ c. Ends (Kept st) (invoked setting run back (method_named program c method.text) self (cell ∷ []) cells
      st)) (sym object.class_is)
      (invoked_keeps setting classes run keeps extra shape class back (method_named program object.own method.text) self
      object.own params (cell ∷ []) cells (kind.Class r.static ∷ []) st (record {
        sound = s;
        found = classes.found object.own r.static p.slot method.text object.above p.slot_is;
        receiver_has = (cell_is, tt);
        args_have = args_have false at params args st t p.known p.fit p.as_many;
        apart = (
          apart_cells st name cell args cell_meant mean
              (apart_after (name ∷ []) args name p.new (or_left (bytes_eq name.text name.text) false
              (equal_name name.text name.text refl))),
          all_apart_cells st args mean
              (all_apart_after (name ∷ []) args p.new),
        );
        owned = (meant_own st name.text cell cell_meant, all_own_cells st args mean);
        object = object.head;
        self_held = let a = ap (one_if_name self) is_name in let b = one_name self in omega arith;
      })))))
