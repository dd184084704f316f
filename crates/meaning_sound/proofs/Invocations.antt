-- A method that is run on an object keeps the caller's state sound.
use Rattle.std.proofs.Common.{◌≡◌, ◌∙◌, sym, ap, subst, refl, ℕ, ◌+◌, ◌<◌, Bool, true, false, List, [], ◌∷◌, ◌++◌, map}
use Rattle.std.proofs.Common.{Some, arith}
use Rattle.std.proofs.lemmas.List.{map-append, append-nil}
use Rattle.std.proofs.lemmas.List.Folds.{list_any-append}
use Rattle.std.proofs.lemmas.Bool.{ltb-true, ltb-false}
use Rattle.std.specs.Prelude.{nat_lt, not, ◌||◌, if◌then◌else◌}
use Rattle.std.specs.Str.{bytes_eq}
use Rattle.roopl_semantics.specs.rpp_tree.declared.tree.Var.{Var}
use Rattle.roopl_semantics.specs.rpp_tree.Tree.{Procedure, Source}
use Rattle.roopl_semantics.specs.class_rules.declared.kind.Kind.{Kind}
use Rattle.roopl_semantics.specs.class_rules.declared.kind.Kind.TheVariants as kind
use Rattle.roopl_semantics.specs.class_rules.Members.{has_field, field_name}
use Rattle.roopl_semantics.specs.class_rules.Names.{has_name}
use Rattle.roopl_semantics.specs.class_rules.Refusal.{redeclared}
use Rattle.roopl_semantics.specs.class_rules.Table.{table_of}
use Rattle.roopl_semantics.specs.class_rules.Scope.{Typing, Local, Locals, local_kind, kind_of}
use Rattle.roopl_semantics.specs.class_rules.Statements.{verdict_passed, each_passes_after, with_local as with_local_type, check_statements}
use Rattle.roopl_semantics.specs.class_rules.Program.{setting_in, parameter_new, with_parameters}
use Rattle.roopl_semantics.specs.Store.{Value, OfClass, Store, State, main_name}
use Rattle.roopl_semantics.specs.Value.{Cell, read}
use Rattle.roopl_semantics.specs.Execution.{Setting, Runner, bound, moved_out, in_direction, invoked}
use Rattle.roopl_semantics.specs.Laws.{holders_among}
use Rattle.roopl_semantics.specs.class_rules.Inheritance.{kind_of_var}
use Rattle.meaning_sound.specs.Sound.{head_named, is_live, named_fits, AllFit, bound_value, binding_name, local_name}
use Rattle.meaning_sound.specs.Sound.{local_type, held, Sound, Stays, Keeps, Typed}
use Rattle.meaning_sound.specs.Plain.{IsPlain}
use Rattle.meaning_sound.proofs.Lists.{all_kept}
use Rattle.meaning_sound.proofs.Cells.{typed_of, sound_of, read_fits}
use Rattle.meaning_sound.proofs.Classes.{KnowsClasses, IsFound}
use Rattle.meaning_sound.specs.Kept.{MeansSame}
use Rattle.roopl_semantics.proofs.class_rules_laws.FirstPlaces.{same_name, equal_name}
use Rattle.meaning_sound.proofs.Runs.{Ends, ends_then, ends_more}
use Rattle.roopl_semantics.proofs.class_rules_laws.PassedRules.{both_passed, held as was_held}
use Rattle.meaning_sound.proofs.Writes.{stays_through}
use Rattle.meaning_sound.proofs.Blocks.{KeepsAll}
use Rattle.meaning_sound.proofs.Objects.{all_live, clash}
use Rattle.meaning_sound.proofs.Moves.{CellsHave, AllApart, AllOwn, own_cells_kept, holders_append, MovedOut}
use Rattle.meaning_sound.proofs.Moves.{moves_out, MovedBack, moves_back}
use Rattle.meaning_sound.proofs.Undone.{inverse_checks, inverse_plain}

-- ---- parameters

abbrev pub local_of : Source → Var → Local
local_of program var = record { name = var.name.text; kind = kind_of_var program var }

pub types_of_params : (program : Source) (params : List Var)
    → map local_type (map (local_of program) params) ≡ map (kind_of_var program) params
types_of_params program [] = refl
types_of_params program (var ∷ params) = ap (λ z. kind_of_var program var ∷ z) (types_of_params program params)

pub bound_names : (program : Source) (store : Store) (params : List Var) (values : List Value)
    → AllFit program store (map (kind_of_var program) params) values
    → map binding_name (bound params values) ≡ map local_name (map (local_of program) params)
bound_names program store [] values all = refl
bound_names program store (var ∷ params) [] all = absurd all
bound_names program store (var ∷ params) (v ∷ values) all =
    ap (λ z. var.name.text ∷ z) (bound_names program store params values all.1)

pub bound_values : (program : Source) (store : Store) (params : List Var) (values : List Value)
    → AllFit program store (map (kind_of_var program) params) values → map bound_value (bound params values) ≡ values
bound_values program store [] [] all = refl
bound_values program store [] (v ∷ values) all = absurd all
bound_values program store (var ∷ params) [] all = absurd all
bound_values program store (var ∷ params) (v ∷ values) all =
    ap (λ z. v ∷ z) (bound_values program store params values all.1)

-- ---- names of parameters are looked up the same in either order, if no name occurs twice

abbrev NotIn : List ℕ → List Var → Type 0
NotIn name [] = Unit {0}
NotIn name (var ∷ vars) = (bytes_eq var.name.text name ≡ false) × NotIn name vars

abbrev Distinct : List Var → Type 0
Distinct [] = Unit {0}
Distinct (var ∷ vars) = NotIn var.name.text vars × Distinct vars

not_true : (b : Bool) → not b ≡ true → b ≡ false
not_true true h = absurd (cc)
not_true false h = refl

or_true : (a b : Bool) → a ≡ true → (a || b) ≡ true
or_true a b h = ap (λ z. z || b) h

true_or : (a b : Bool) → b ≡ true → (a || b) ≡ true
true_or true b h = refl
true_or false b h = h

still_there : (before : List Var) (var : Var) (name : List ℕ) → has_field before name ≡ true
    → has_field (before ++ var ∷ []) name ≡ true
still_there before var name h =
    ap (λ names. has_name names name) (map-append field_name before (var ∷ []))
    ∙ list_any-append (bytes_eq name) (map field_name before) (var.name.text ∷ [])
    ∙ or_true (has_field before name) _ h

now_there : (before : List Var) (var : Var) → has_field (before ++ var ∷ []) var.name.text ≡ true
now_there before var =
    ap (λ names. has_name names var.name.text) (map-append field_name before (var ∷ []))
    ∙ list_any-append (bytes_eq var.name.text) (map field_name before) (var.name.text ∷ [])
    ∙ true_or (has_field before var.name.text) _ (or_true (bytes_eq var.name.text var.name.text) false
    (equal_name var.name.text var.name.text refl))

after_apart : (before vars : List Var) (name : List ℕ) → each_passes_after parameter_new before vars ≡ verdict_passed
    → has_field before name ≡ true → NotIn name vars
after_apart before [] name h k = tt
after_apart before (var ∷ vars) name h k =
    let both = both_passed (parameter_new before var) (each_passes_after parameter_new (before ++ var ∷ []) vars) h in
    let none = not_true (has_field before var.name.text) (was_held _ (redeclared var.name.at) both.0) in (
      by (bytes_eq var.name.text name) refl none,
      after_apart (before ++ var ∷ []) vars name both.1
          (still_there before var name k),
    )
  where
    by : (b : Bool) → bytes_eq var.name.text name ≡ b → has_field before var.name.text ≡ false
        → bytes_eq var.name.text name ≡ false
    by false e none = e
    by true e none = absurd (clash (has_field before name) k
        (ap (has_field before) (sym (same_name var.name.text name e)) ∙ none))

params_distinct : (before vars : List Var) → each_passes_after parameter_new before vars ≡ verdict_passed → Distinct vars
params_distinct before [] h = tt
params_distinct before (var ∷ vars) h =
    let both = both_passed (parameter_new before var) (each_passes_after parameter_new (before ++ var ∷ []) vars) h in (
      after_apart (before ++ var ∷ []) vars var.name.text both.1 (now_there before var),
      params_distinct (before ++ var ∷ []) vars both.1,
    )

past : (typing : Typing) (locals : Locals) (vars : List Var) (name : List ℕ) → NotIn name vars
    → local_kind (with_parameters typing locals vars) name ≡ local_kind locals name
past typing locals [] name h = refl
past typing locals (var ∷ vars) name h =
    past typing (with_local_type typing locals var) vars name h.1
    ∙ ap (λ b. if b then Some (kind_of typing.table var.kind) else local_kind locals name) h.0

inner : (program : Source) (vars : List Var) (l : Local) (locals : Locals) (name : List ℕ)
    → bytes_eq l.name name ≡ false → local_kind (map (local_of program) vars ++ l ∷ locals) name
    ≡ local_kind (map (local_of program) vars ++ locals) name
inner program [] l locals name h = ap (λ b. if b then Some l.kind else local_kind locals name) h
inner program (var ∷ vars) l locals name h = ap (λ z. if bytes_eq var.name.text name then Some (kind_of_var program var)
    else z) (inner program vars l locals name h)

either_order : (program : Source) (class : ℕ) (locals : Locals) (vars : List Var) (name : List ℕ) → Distinct vars
    → local_kind (with_parameters (setting_in program (table_of program) class) locals vars) name
    ≡ local_kind (map (local_of program) vars ++ locals) name
either_order program class locals [] name d = refl
either_order program class locals (var ∷ vars) name d =
    by (bytes_eq var.name.text name) refl (λ l. either_order program class (l ∷ locals) vars name d.1)
  where
    typing : Typing
    typing = setting_in program (table_of program) class

    by : (b : Bool) → bytes_eq var.name.text name ≡ b → ((l : Local)
        → local_kind (with_parameters (setting_in program (table_of program) class) (l ∷ locals) vars) name
        ≡ local_kind (map (local_of program) vars ++ l ∷ locals) name)
        → local_kind (with_parameters (setting_in program (table_of program) class) (local_of program var ∷ locals)
        vars) name ≡ local_kind (local_of program var ∷ (map (local_of program) vars ++ locals)) name
    by true e rest =
        past (setting_in program (table_of program) class) (local_of program var ∷ locals) vars name
        (subst (λ n. NotIn n vars) (same_name var.name.text name e) d.0)
        ∙ ap (λ b. if b then Some (kind_of_var program var) else local_kind locals name) e
        ∙ sym (ap (λ b. if b then Some (kind_of_var program var) else local_kind (map (local_of program) vars ++ locals)
        name) e)
    by false e rest =
        rest (local_of program var)
        ∙ inner program vars (local_of program var) locals name e
        ∙ sym (ap (λ b. if b then Some (kind_of_var program var) else local_kind (map (local_of program) vars ++ locals)
        name) e)

pub params_mean : (program : Source) (class : ℕ) (params : List Var)
    → each_passes_after parameter_new [] params ≡ verdict_passed → MeansSame
    (with_parameters (setting_in program (table_of program) class) [] params) (map (local_of program) params)
params_mean program class params h = record {
  same = λ name. either_order program class [] params name
      (params_distinct [] params h) ∙ ap (λ z. local_kind z name) (append-nil (map (local_of program) params));
}

-- ---- lists of cells and values

pub all_append : (program : Source) (store : Store) (ks ls : List Kind) (vs ws : List Value)
    → AllFit program store ks vs → AllFit program store ls ws → AllFit program store (ks ++ ls) (vs ++ ws)
all_append program store [] ls [] ws h k = k
all_append program store [] ls (v ∷ vs) ws h k = absurd h
all_append program store (x ∷ ks) ls [] ws h k = absurd h
all_append program store (x ∷ ks) ls (v ∷ vs) ws h k = (h.0, all_append program store ks ls vs ws h.1 k)

pub cells_append : (program : Source) (shape : Locals) (store : Store) (ks ls : List Kind) (cs ds : List Cell)
    → CellsHave program shape store ks cs → CellsHave program shape store ls ds
    → CellsHave program shape store (ks ++ ls) (cs ++ ds)
cells_append program shape store [] ls [] ds h k = k
cells_append program shape store [] ls (c ∷ cs) ds h k = absurd h
cells_append program shape store (x ∷ ks) ls [] ds h k = absurd h
cells_append program shape store (x ∷ ks) ls (c ∷ cs) ds h k = (h.0, cells_append program shape store ks ls cs ds h.1 k)

module _ (setting : Setting) (classes : KnowsClasses setting.program) (run : Runner) (keeps : KeepsAll setting run)
    (extra : ℕ → ℕ) (shape : Locals) (class : ℕ) where
  abbrev program : Source
  program = setting.program

  pub reads_fit : (st : State) (ks : List Kind) (cs : List Cell) → Typed setting extra shape class st
      → CellsHave program shape st.store ks cs → AllFit program st.store ks (map (read st) cs)
  reads_fit st [] [] t h = tt
  reads_fit st [] (c ∷ cs) t h = absurd h
  reads_fit st (k ∷ ks) [] t h = absurd h
  reads_fit st (k ∷ ks) (c ∷ cs) t h = (read_fits setting extra shape class st c k t h.0, reads_fit st ks cs t h.1)

  -- a call: what is known when it begins
  pub record IsCall (st : State) (method : Procedure) (self own : ℕ) (params : List Var) (receiver args : List Cell)
      (receiver_kinds : List Kind) : Type 0 where
    pub sound : Sound setting extra shape class st
    pub found : IsFound program own method params
    pub receiver_has : CellsHave program shape st.store receiver_kinds receiver
    pub args_have : CellsHave program shape st.store (map (kind_of_var program) params) args
    pub apart : AllApart (receiver ++ args)
    pub owned : AllOwn st.self (receiver ++ args)
    pub object : head_named st.store self ≡ Some (OfClass own)
    pub self_held : 0 < extra self + holders_among self (map (read st) receiver)

  module _ (back : Bool) (method : Procedure) (self own : ℕ) (params : List Var) (receiver args : List Cell)
      (receiver_kinds : List Kind) (st : State) (call : IsCall st method self own params receiver args receiver_kinds)
    where
      abbrev pub kinds : List Kind
      kinds = map (kind_of_var program) params

      abbrev pub caller : State
      caller = moved_out (receiver ++ args) st

      abbrev pub received : List Value
      received = map (read st) receiver

      abbrev pub given : List Value
      given = map (read st) args

      -- how often a name is held besides, inside the call
      abbrev pub more : ℕ → ℕ
      more m = extra m + holders_among m (map bound_value caller.frame) + holders_among m received

      abbrev pub callee : Locals
      callee = map (local_of program) method.params

      abbrev pub begun : State
      begun = record {
        frame = bound method.params given;
        self = self;
        depth = 1 + st.depth;
        store = caller.store;
        log = caller.log;
      }

      t : Typed setting extra shape class st
      t = typed_of setting extra shape class st call.sound

      pub out : MovedOut setting extra shape class st (receiver ++ args) caller
      out = moves_out setting extra shape class (receiver_kinds ++ kinds) (receiver ++ args) st t
          (cells_append program shape st.store receiver_kinds kinds receiver args call.receiver_has call.args_have)
          call.apart

      pub given_fit : AllFit program caller.store (map (kind_of_var program) method.params) given
      given_fit = subst (λ ks. AllFit program caller.store ks given) (sym call.found.same_types)
          (all_kept program st.store caller.store kinds given (λ m p l. out.moved.heads m)
          (reads_fit st kinds args t call.args_have))

      pub received_fit : AllFit program caller.store receiver_kinds received
      received_fit = all_kept program st.store caller.store receiver_kinds received (λ m p l. out.moved.heads m)
          (reads_fit st receiver_kinds receiver t call.receiver_has)

      shared : (m : ℕ) → holders_among m (map (read st) (receiver ++ args))
          ≡ holders_among m received + holders_among m given
      shared m = ap (holders_among m) (map-append (read st) receiver args) ∙ holders_append m received given

      pub held_all : (m : ℕ) → held m caller + (holders_among m received + holders_among m given) ≡ held m st
      held_all m = let a = out.holds m in let b = shared m in omega arith

      pub more_extra : (m : ℕ) → 0 < extra m → 0 < more m
      more_extra m p = omega arith

      pub live_more : (m : ℕ) → 0 < more m → is_live caller.store m ≡ true
      live_more m p = by (nat_lt 0 (extra m)) refl (nat_lt 0 (holders_among m (map bound_value caller.frame))) refl
        where
          by : (a : Bool) → nat_lt 0 (extra m) ≡ a → (b : Bool)
              → nat_lt 0 (holders_among m (map bound_value caller.frame)) ≡ b → is_live caller.store m ≡ true
          by true e b f = out.moved.typed.lives m (ltb-true 0 (extra m) e)
          by false e true f = all_live program caller.store (map local_type shape) (map bound_value caller.frame) m
              out.moved.typed.variables (ltb-true 0 (holders_among m (map bound_value caller.frame)) f)
          by false e false f =
              let x = ltb-false 0 (extra m) e in
              let y = ltb-false 0 (holders_among m (map bound_value caller.frame)) f in
              all_live program caller.store receiver_kinds received m received_fit (omega arith)

      pub begun_sound : Sound setting more callee call.found.class begun
      begun_sound = record {
        names = bound_names program caller.store method.params given given_fit;
        variables =
            subst (λ ks. AllFit program caller.store ks (map bound_value (bound method.params given)))
            (sym (types_of_params program method.params))
            (subst (AllFit program caller.store (map (kind_of_var program) method.params))
            (sym (bound_values program caller.store method.params given given_fit)) given_fit);
        objects = out.moved.typed.objects;
        counts = λ m c q.
            let a = call.sound.counts m c (sym (out.moved.counts m) ∙ q) in
            let b = held_all m in
            let d = ap (holders_among m) (bound_values program caller.store method.params given given_fit) in
            omega arith;
        lives = live_more;
        self_is = ap (named_fits program (kind.Class call.found.class)) (out.moved.heads self ∙ call.object)
            ∙ call.found.above;
        self_held = let a = call.self_held in omega arith;
        main_extra = let a = call.sound.main_extra in let b = held_all main_name in let c = call.sound.main_unheld in
            omega arith;
        main_unheld =
            let b = held_all main_name in let c = call.sound.main_unheld in
            let d = ap (holders_among main_name) (bound_values program caller.store method.params given given_fit) in
            omega arith;
        fresh = out.moved.typed.fresh;
        placed = out.moved.typed.placed;
      }

      pub body_checks : (b : Bool) → check_statements (setting_in program (table_of program) call.found.class)
          (with_parameters (setting_in program (table_of program) call.found.class) [] method.params)
          (in_direction b method.body) ≡ verdict_passed
      body_checks b =
          let both = both_passed (each_passes_after parameter_new [] method.params)
          (check_statements (setting_in program (table_of program) call.found.class)
          (with_parameters (setting_in program (table_of program) call.found.class) [] method.params) method.body)
          call.found.checked in
          by b both.1
        where
          by : (b : Bool) → check_statements (setting_in program (table_of program) call.found.class)
              (with_parameters (setting_in program (table_of program) call.found.class) [] method.params) method.body
              ≡ verdict_passed → check_statements (setting_in program (table_of program) call.found.class)
              (with_parameters (setting_in program (table_of program) call.found.class) [] method.params)
              (in_direction b method.body) ≡ verdict_passed
          by true h = inverse_checks (setting_in program (table_of program) call.found.class)
              (with_parameters (setting_in program (table_of program) call.found.class) [] method.params) method.body h
          by false h = h

      pub body_plain : (b : Bool) → IsPlain (in_direction b method.body)
      body_plain true = inverse_plain method.body call.found.plain
      body_plain false = call.found.plain

      pub means_callee : MeansSame (with_parameters (setting_in program (table_of program) call.found.class) []
          method.params) callee
      means_callee = params_mean program call.found.class method.params
          (both_passed (each_passes_after parameter_new [] method.params) _ call.found.checked).0

      -- the caller's state when the body has ended
      module _ (end : State) (kept : Keeps setting more callee call.found.class begun end) where
        abbrev pub after : State
        after = record caller { store = end.store; log = end.log }

        abbrev pub returned : List Value
        returned = received ++ map bound_value end.frame

        pub heads_after : (m : ℕ) → 0 < more m → head_named end.store m ≡ head_named caller.store m
        heads_after m p = kept.stays.heads_same m p

        pub after_typed : Typed setting extra shape class after
        after_typed = record {
          names = out.moved.typed.names;
          variables = all_kept program caller.store end.store (map local_type shape) (map bound_value caller.frame)
              (λ m p l. heads_after m (omega arith)) out.moved.typed.variables;
          objects = kept.sound.objects;
          lives = λ m p. kept.sound.lives m (more_extra m p);
          self_is = ap (named_fits program (kind.Class class))
              (heads_after caller.self (more_extra caller.self out.moved.typed.self_held)) ∙ out.moved.typed.self_is;
          self_held = out.moved.typed.self_held;
          main_extra = out.moved.typed.main_extra;
          fresh = kept.sound.fresh;
          placed = kept.sound.placed;
        }

        pub returned_fit : AllFit program end.store (receiver_kinds ++ kinds) returned
        returned_fit = all_append program end.store receiver_kinds kinds received (map bound_value end.frame)
            (all_kept program caller.store end.store receiver_kinds received (λ m p l. heads_after m (omega arith))
            received_fit)
            (subst (λ ks. AllFit program end.store ks (map bound_value end.frame))
            (types_of_params program method.params ∙ call.found.same_types) kept.sound.variables)

        pub cells_after : CellsHave program shape end.store (receiver_kinds ++ kinds) (receiver ++ args)
        cells_after = own_cells_kept program shape st.store end.store st.self (receiver_kinds ++ kinds)
            (receiver ++ args)
            (heads_after st.self (more_extra st.self t.self_held) ∙ out.moved.heads st.self) call.owned
            (cells_append program shape st.store receiver_kinds kinds receiver args call.receiver_has call.args_have)

        pub after_stays : Stays setting extra st after
        after_stays = record {
          self_same = out.moved.stays.self_same;
          depth_same = out.moved.stays.depth_same;
          heads_same = λ m p. heads_after m (more_extra m p) ∙ out.moved.heads m;
          blocks_same = λ m p. kept.stays.blocks_same m (more_extra m p) ∙ out.moved.stays.blocks_same m p;
        }

        pub ended_keeps : (last : State) → MovedBack setting extra shape class after returned last
            → Keeps setting extra shape class st last
        ended_keeps last b = record {
          sound = sound_of setting extra shape class last b.moved.typed (record {
            counts = λ m c q.
                let x = kept.sound.counts m c (sym (b.moved.counts m) ∙ q) in
                let y = b.holds m in
                let z = holders_append m received (map bound_value end.frame) in
                omega arith;
            main_unheld =
                let y = b.holds main_name in
                let z = holders_append main_name received (map bound_value end.frame) in
                let w = kept.sound.main_unheld in
                let v = held_all main_name in
                let u = call.sound.main_unheld in
                omega arith;
          });
          stays = stays_through setting extra st after last after_stays b.moved.stays;
        }

      pub invoked_keeps : Ends (Keeps setting extra shape class st)
          (invoked setting run back method self receiver args st)
      invoked_keeps =
          ends_then (Keeps setting more callee call.found.class begun) (Keeps setting extra shape class st)
          (run (in_direction back method.body) begun) _
          (keeps.by more (with_parameters (setting_in program (table_of program) call.found.class) [] method.params)
          callee call.found.class (in_direction back method.body) begun call.found.inside means_callee
          (body_checks back) (body_plain back) begun_sound)
          (λ end kept. ends_more (MovedBack setting extra shape class (after end kept) (returned end kept))
          (Keeps setting extra shape class st) _ (ended_keeps end kept)
          (moves_back setting extra shape class (receiver_kinds ++ kinds) (receiver ++ args) (returned end kept)
          (after end kept) (after_typed end kept) (cells_after end kept) (returned_fit end kept)))
