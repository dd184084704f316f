-- The positions of the blocks inside statements, and that they begin in sound states.
use Rattle.std.proofs.Common.{◌≡◌, ℕ, ◌<◌, refl, sym, ap, subst, ◌∙◌, arith, true, false, Bool, not, ◌&&◌, ◌||◌, List}
use Rattle.std.proofs.Common.{[], ◌∷◌, length, Some, None, Ok}
use Rattle.std.specs.Str.{bytes_eq}
use Rattle.meaning_reached.specs.rpp_tree.declared.tree.Ident.{Ident}
use Rattle.meaning_reached.specs.rpp_tree.declared.tree.Var.{Var}
use Rattle.meaning_reached.specs.rpp_tree.Tree.{Expression, Null, Element, Whole, Item, Object as AnObject, Statements, Swap, New}
use Rattle.meaning_reached.specs.rpp_tree.Tree.{Delete, Construct, Local, Call, End, Then, joined, Procedure, Source}
use Rattle.meaning_reached.specs.class_rules.declared.kind.Kind.{Kind}
use Rattle.meaning_reached.specs.class_rules.declared.kind.Kind.TheVariants as kind
use Rattle.meaning_reached.specs.class_rules.Table.{table_of, class_of as class_in, slot_in, dispatch_in}
use Rattle.meaning_reached.specs.class_rules.Overrides.{same_type, parameters_of}
use Rattle.meaning_reached.specs.class_rules.Classes.{method_named}
use Rattle.meaning_reached.specs.class_rules.Refusal.{type_differs, redeclared, self_update, local_in_own_expression, unknown_name}
use Rattle.meaning_reached.specs.class_rules.Scope.{Typing, Local as ALocal, Locals, kind_of, class_kind, kind_in}
use Rattle.meaning_reached.specs.class_rules.Expressions.{then_checked, type_of, place_type, occurs}
use Rattle.meaning_reached.specs.class_rules.Statements.{verdict_passed, Verdict, required, in_turn, type_known, class_known, same_kind}
use Rattle.meaning_reached.specs.class_rules.Statements.{in_either_index, swap_rules, call_rules, receiver_class, receiver_kind}
use Rattle.meaning_reached.specs.class_rules.Statements.{place_class, slot_rules, local_rules, construct_rules, with_local, with_object}
use Rattle.meaning_reached.specs.class_rules.Statements.{check_statement, check_statements}
use Rattle.meaning_reached.specs.class_rules.Program.{setting_in}
use Rattle.meaning_reached.specs.roopl_semantics.Store.{Value, Nil, Name, State, is_nil}
use Rattle.meaning_reached.specs.roopl_semantics.Value.{Cell, cell_named, own_class, read, value as value_in}
use Rattle.meaning_reached.specs.roopl_semantics.Execution.{Setting, opened, constructed, element_call, element_name, cells_named}
use Rattle.meaning_reached.specs.roopl_semantics.Execution.{class_of, in_direction, exec}
use Rattle.meaning_reached.specs.meaning_sound.Sound.{Sound, is_of_kind}
use Rattle.meaning_reached.specs.meaning_sound.Plain.{IsPlain}
use Rattle.meaning_reached.proofs.meaning_sound_laws.Cells.{typed_of, read_fits}
use Rattle.meaning_reached.proofs.meaning_sound_laws.Classes.{KnowsClasses}
use Rattle.meaning_reached.proofs.meaning_sound_laws.Names.{is_object, cell_named_kind, meant}
use Rattle.meaning_reached.proofs.class_rules_laws.FirstPlaces.{same_name, equal_name}
use Rattle.meaning_reached.proofs.class_rules_laws.PassedRules.{both_passed, in_turn_passes, held as was_held, required_passes, hands_on}
use Rattle.meaning_reached.proofs.class_rules_laws.PassedRules.{handed_on, some_of, neither_true, same_as_itself}
use Rattle.meaning_reached.proofs.meaning_sound_laws.Locals.{means_under, type_of_under, IsLocalEnd, nil_end, no_int_class, begins}
use Rattle.meaning_reached.proofs.meaning_sound_laws.Locals.{opened_sound, local_parts}
use Rattle.meaning_reached.proofs.meaning_sound_laws.Undone.{check_joined, plain_joined}
use Rattle.meaning_reached.proofs.meaning_sound_laws.Expansions.{innermost, made_in, not_in, slots_under}
use Rattle.meaning_reached.proofs.meaning_sound_laws.Removal.{reference, one_name}
use Rattle.meaning_reached.specs.class_rules.Program.{with_parameters}
use Rattle.meaning_inverse.proofs.Ground.{entered}
use Rattle.meaning_reached.proofs.meaning_sound_laws.Invocations.{IsCall, begun_sound, body_checks, body_plain, means_callee, more, callee}
use Rattle.std.proofs.lemmas.Bool.{or_left, and_parts}
use Rattle.meaning_reached.proofs.meaning_sound_laws.Calls.{receiver_parts, call_parts, all_mean, args_have, apart_cells, all_apart_cells}
use Rattle.meaning_reached.proofs.meaning_sound_laws.Calls.{all_own_cells, meant_own, apart_after, all_apart_after}
use Rattle.meaning_reached.proofs.meaning_sound_laws.Keeping.{exec_keeps}
use Rattle.meaning_reached.specs.roopl_semantics.Laws.{one_if_name}
use Rattle.meaning_inverse.proofs.Known.{Context, Checked}
use Rattle.meaning_inverse.proofs.Facts.{first_rule}

-- a block inside, and the state that it begins in
pub record Entry (setting : Setting) (body : Statements) (st : State) : Type 0 where
  pub inner : Context setting
  pub sound : Sound setting inner.extra inner.shape inner.class st
  pub checked : Checked setting inner body

-- inside a local variable
pub under : (setting : Setting) → Context setting → ALocal → Context setting
under setting C l = record {
  extra = C.extra;
  locals = l ∷ C.locals;
  shape = l ∷ C.shape;
  class = C.class;
  inside = C.inside;
  means = means_under l C.locals C.shape C.means;
}

module _ (setting : Setting) (classes : KnowsClasses setting.program) (C : Context setting) where
  abbrev program : Source
  program = setting.program

  abbrev typing : Typing
  typing = setting_in program (table_of program) C.class

  local_in : (st : State) (name : List ℕ) (k : Kind) (value : Expression) (body : Statements) (v : Value)
      → IsLocalEnd typing C.locals name k value → check_statements typing (record { name = name; kind = k } ∷ C.locals)
      body ≡ verdict_passed → IsPlain body
      → Sound setting C.extra C.shape C.class st → value_in program st value ≡ Ok v
      → Entry setting body (opened name v st)
  unfolding under
  local_in st name k value body v first checked plain s is =
      let b = begins setting classes (exec setting 0) (exec_keeps setting classes 0) C.extra C.locals C.shape C.class
      C.inside C.means st name k value v (typed_of setting C.extra C.shape C.class st s) first is in
      record {
        inner = under setting C (record { name = name; kind = k });
        sound = opened_sound setting C.extra C.shape C.class st name k v s b.0 b.1;
        checked = record { passes = checked; plain = plain };
      }

  pub local_entry : (at : ℕ) (var : Var) (value : Expression) (body : Statements) (end_var : Var)
      (end_value : Expression) (st : State) (v : Value) → Checked setting C
      (Then (Local at var value body end_var end_value) End) → Sound setting C.extra C.shape C.class st
      → value_in program st value ≡ Ok v → Entry setting body (opened var.name.text v st)
  local_entry at var value body end_var end_value st v checked s is =
      let a = both_passed (local_rules typing C.locals at var value end_var end_value)
      (check_statements typing (with_local typing C.locals var) body)
      (first_rule setting C (Local at var value body end_var end_value) checked) in
      let l = local_parts typing C.locals at var value end_var end_value a.0 checked.plain.0.0 checked.plain.0.2 in
      local_in st var.name.text (kind_of typing.table var.kind) value body v l.first a.1 checked.plain.0.1 s is

  pub local_rules_say : (at : ℕ) (var : Var) (value : Expression) (body : Statements) (end_var : Var)
      (end_value : Expression) → Checked setting C (Then (Local at var value body end_var end_value) End)
      → (occurs var.name.text value ≡ false) × (occurs var.name.text end_value ≡ false)
      × (end_var.name.text ≡ var.name.text)
  local_rules_say at var value body end_var end_value checked =
      let r = both_passed (local_rules typing C.locals at var value end_var end_value)
      (check_statements typing (with_local typing C.locals var) body)
      (first_rule setting C (Local at var value body end_var end_value) checked) in
      let a = both_passed (type_known typing.table var.kind) _ r.0 in
      let b = both_passed (required _ (redeclared var.name.at)) _ a.1 in
      let c = both_passed (required (same_type var.kind end_var.kind && bytes_eq var.name.text end_var.name.text)
      (type_differs end_var.name.at)) _ b.1 in
      let d = both_passed (required (not (occurs var.name.text value || occurs var.name.text end_value))
      (local_in_own_expression at)) _ c.1 in
      let apart = neither_true (occurs var.name.text value) (occurs var.name.text end_value)
      (was_held _ (local_in_own_expression at) d.0) in
      let same = and_parts (same_type var.kind end_var.kind) (bytes_eq var.name.text end_var.name.text)
      (was_held _ (type_differs end_var.name.at) c.0) in
      (apart.0, apart.1, sym (same_name var.name.text end_var.name.text same.1))

  pub local_typed : (at : ℕ) (var : Var) (value : Expression) (body : Statements) (end_var : Var)
      (end_value : Expression) → Checked setting C (Then (Local at var value body end_var end_value) End)
      → (k l : Kind) × (type_of typing C.locals value ≡ Ok k) × (type_of typing C.locals end_value ≡ Ok l)
  local_typed at var value body end_var end_value checked =
      let r = both_passed (local_rules typing C.locals at var value end_var end_value)
      (check_statements typing (with_local typing C.locals var) body)
      (first_rule setting C (Local at var value body end_var end_value) checked) in
      let a = both_passed (type_known typing.table var.kind) _ r.0 in
      let b = both_passed (required _ (redeclared var.name.at)) _ a.1 in
      let c = both_passed (required (same_type var.kind end_var.kind && bytes_eq var.name.text end_var.name.text)
      (type_differs end_var.name.at)) _ b.1 in
      let d = both_passed (required (not (occurs var.name.text value || occurs var.name.text end_value))
      (local_in_own_expression at)) _ c.1 in
      let v = handed_on (type_of typing C.locals value) _ tt d.1 in
      let e = handed_on (type_of typing C.locals end_value) _ tt v.goes in
      (v.value, e.value, v.is, e.is)

  pub construct_entry : (at : ℕ) (of_class name : Ident) (body : Statements) (end : Ident) (st : State)
      → Checked setting C (Then (Construct at of_class name body end) End) → Sound setting C.extra C.shape C.class st
      → Entry setting (constructed at of_class name body) (opened name.text Nil st)
  construct_entry at of_class name body end st checked s =
      let rules = both_passed (construct_rules typing C.locals of_class name end)
      (check_statements typing (with_object typing C.locals of_class name) body)
      (first_rule setting C (Construct at of_class name body end) checked) in
      let a = both_passed (class_known typing.table of_class) _ rules.0 in
      let k = class_kind (class_in typing.table of_class.text) in
      let inner = with_object typing C.locals of_class name in
      let made = made_in typing C.locals at of_class name a.0 in
      let first = New at (AnObject of_class) (Whole name) in
      let last = Then (Delete at (AnObject of_class) (Whole name)) End in
      local_in st name.text k (Null at) (constructed at of_class name body) Nil
      (nil_end at (no_int_class (class_in typing.table of_class.text)))
      (in_turn_passes (check_statement typing inner first) (check_statements typing inner (joined body last)) made
      (check_joined typing inner body last rules.1 (in_turn_passes
      (check_statement typing inner (Delete at (AnObject of_class) (Whole name))) verdict_passed made refl)))
      ((tt, tt), plain_joined body last checked.plain.0 ((tt, tt), tt)) s refl

  pub element_entry : (at : ℕ) (back : Bool) (name : Ident) (index : Expression) (method : Ident) (args : List Ident)
      (st : State) → Checked setting C (Then (Call at back (Some (Item name index)) method args) End)
      → Sound setting C.extra C.shape C.class st
      → Entry setting (element_call at back name index method args) (opened (element_name at).text Nil st)
  element_entry at back name index method args st checked s =
      let words = checked.plain.0.0 in
      let named = checked.plain.0.1 in
      let indexes = checked.plain.0.2 in
      let all = checked.plain.0.3 in
      let run = exec setting 0 in
      let keeps = exec_keeps setting classes 0 in
      let r = receiver_parts setting classes run keeps C.extra C.locals C.shape C.class C.inside C.means at
      (Item name index) method args (first_rule setting C (Call at back (Some (Item name index)) method args)
      checked) in
      let k = kind.Class r.static in
      let l : ALocal = record { name = []; kind = k } in
      let inner : Locals = l ∷ C.locals in
      let e = element_name at in
      let exchange = Swap at (Whole e) (Item name index) in
      let call = Call at back (Some (Whole e)) method args in
      let receiver : place_type typing inner (Whole e) ≡ Ok k = innermost typing C.locals e k in
      let element : place_type typing inner (Item name index) ≡ Ok k =
      type_of_under typing l C.locals (Element name index)
      (not_in setting classes run keeps C.extra C.locals C.shape C.class C.inside C.means (Element name index)
      (named, indexes)) ∙ r.is in
      let swap_rest : Kind → Kind → Verdict = λ a b. in_turn (required (same_kind a b) (type_differs at))
      (required (not (in_either_index [] (Whole e) (Item name index) || in_either_index name.text (Whole e)
      (Item name index))) (self_update at)) in
      let swapped : swap_rules typing inner at (Whole e) (Item name index) ≡ verdict_passed =
      hands_on (place_type typing inner (Whole e)) (λ a. then_checked (place_type typing inner (Item name index))
      (λ b. swap_rest a b)) k verdict_passed receiver (hands_on (place_type typing inner (Item name index))
      (λ b. swap_rest k b) k verdict_passed element
      (in_turn_passes (required (same_kind k k) (type_differs at)) _
      (required_passes _ (type_differs at) (same_as_itself k))
      (required_passes _ (self_update at) (ap (λ b. not (b || occurs name.text index))
      (not_in setting classes run keeps C.extra C.locals C.shape C.class C.inside C.means index indexes)
      ∙ ap not r.apart)))) in
      let called : call_rules typing inner at (Some (Whole e)) method args ≡ verdict_passed =
      hands_on (receiver_class typing inner (Some (Whole e)))
      (λ c. slot_rules typing inner at (Some (Whole e)) method args c (slot_in typing.table c method.text)) r.static
      verdict_passed
      (hands_on (place_type typing inner (Whole e)) (λ x. then_checked (receiver_kind at x) (place_class at (Whole e))) k
      (Ok r.static) receiver refl)
      (slots_under setting classes run keeps C.extra C.locals C.shape C.class C.inside C.means at k name index method
      args r.static all (slot_in typing.table r.static method.text) r.rules) in
      local_in st [] k (Null at) (element_call at back name index method args) Nil (nil_end at refl)
      (in_turn_passes (check_statement typing inner exchange)
      (check_statements typing inner (Then call (Then exchange End))) swapped
      (in_turn_passes (check_statement typing inner call) (check_statements typing inner (Then exchange End)) called
      (in_turn_passes (check_statement typing inner exchange) verdict_passed swapped refl)))
      ((tt, words), (tt, ((tt, words), tt))) s refl

  -- ---- calls

  abbrev pub IsCallIn : State → Procedure → ℕ → ℕ → List Var → List Cell → List Cell → List Kind → Type 0
  IsCallIn st method self own params receiver args kinds =
      IsCall setting classes (exec setting 0) (exec_keeps setting classes 0) C.extra C.shape C.class st method self own
      params receiver args kinds

  pub record OwnCall (st : State) (method : Ident) (args : List Ident) : Type 0 where
    pub own : ℕ
    pub class_is : own_class st ≡ own
    pub params : List Var
    pub as_many : length args ≡ length params
    pub call : IsCallIn st (method_named program own method.text) st.self own params [] (cells_named setting st args) []

  pub own_call : (at : ℕ) (back : Bool) (method : Ident) (args : List Ident) (st : State)
      → Checked setting C (Then (Call at back None method args) End) → Sound setting C.extra C.shape C.class st
      → OwnCall st method args
  own_call at back method args st checked s =
      let run = exec setting 0 in
      let keeps = exec_keeps setting classes 0 in
      let t = typed_of setting C.extra C.shape C.class st s in
      let p = call_parts setting classes run keeps C.extra C.locals C.shape C.class C.inside C.means at None method args
      C.class (first_rule setting C (Call at back None method args) checked) in
      let object = is_object program C.class st.store st.self t.self_is in
      let params = parameters_of program (dispatch_in typing.table C.class p.slot) in
      let mean = all_mean setting classes run keeps C.extra C.locals C.shape C.class C.inside C.means true at args st t
      p.known in
      record {
        own = object.own;
        class_is = object.class_is;
        params = params;
        as_many = p.as_many;
        call = record {
          sound = s;
          found = classes.found object.own C.class p.slot method.text object.above p.slot_is;
          receiver_has = tt;
          args_have = args_have setting classes run keeps C.extra C.locals C.shape C.class C.inside C.means true at
              params args st t p.known p.fit p.as_many;
          apart = all_apart_cells setting classes run keeps C.extra C.locals C.shape C.class C.inside C.means st args
              mean (all_apart_after [] args p.new);
          owned = all_own_cells setting classes run keeps C.extra C.locals C.shape C.class C.inside C.means st args
              mean;
          object = object.head;
          self_held = let a = s.self_held in omega arith;
        };
      }

  pub record ObjectCall (st : State) (name method : Ident) (args : List Ident) : Type 0 where
    pub self : ℕ
    pub holds : read st (cell_named program st name.text) ≡ Name self
    pub own : ℕ
    pub class_is : class_of setting st self ≡ own
    pub params : List Var
    pub as_many : length args ≡ length params
    pub static : ℕ
    pub call : IsCallIn st (method_named program own method.text) self own params (cell_named program st name.text ∷ [])
        (cells_named setting st args) (kind.Class static ∷ [])

  pub object_call : (at : ℕ) (back : Bool) (name method : Ident) (args : List Ident) (st : State)
      → Checked setting C (Then (Call at back (Some (Whole name)) method args) End)
      → Sound setting C.extra C.shape C.class st → is_nil (read st (cell_named program st name.text)) ≡ false
      → ObjectCall st name method args
  object_call at back name method args st checked s some =
      let run = exec setting 0 in
      let keeps = exec_keeps setting classes 0 in
      let t = typed_of setting C.extra C.shape C.class st s in
      let r = receiver_parts setting classes run keeps C.extra C.locals C.shape C.class C.inside C.means at (Whole name)
      method args (first_rule setting C (Call at back (Some (Whole name)) method args) checked) in
      let p = call_parts setting classes run keeps C.extra C.locals C.shape C.class C.inside C.means at
      (Some (Whole name)) method args r.static r.rules in
      let known : kind_in typing C.locals name.text ≡ Some (kind.Class r.static) =
      some_of (kind_in typing C.locals name.text) (unknown_name name.at) (kind.Class r.static) r.is in
      let cell = cell_named program st name.text in
      let cell_is = cell_named_kind setting classes C.extra C.locals C.shape C.class C.inside C.means st name.text
      (kind.Class r.static) t known in
      let cell_meant = meant setting classes C.extra C.locals C.shape C.class C.inside C.means st name.text
      (kind.Class r.static) t known in
      let fit = read_fits setting C.extra C.shape C.class st cell (kind.Class r.static) t cell_is in
      let params = parameters_of program (dispatch_in typing.table r.static p.slot) in
      let mean = all_mean setting classes run keeps C.extra C.locals C.shape C.class C.inside C.means false at args st t
      p.known in
      let nm = reference program st.store (read st cell) (kind.Class r.static) fit refl some in
      let P : Value → Type 0 = λ v. is_of_kind program st.store v (kind.Class r.static) ≡ true in
      let object = is_object program r.static st.store nm.name (subst P nm.is fit) in
      record {
        self = nm.name;
        holds = nm.is;
        own = object.own;
        class_is = object.class_is;
        params = params;
        as_many = p.as_many;
        static = r.static;
        call = record {
          sound = s;
          found = classes.found object.own r.static p.slot method.text object.above p.slot_is;
          receiver_has = (cell_is, tt);
          args_have = args_have setting classes run keeps C.extra C.locals C.shape C.class C.inside C.means false at
              params args st t p.known p.fit p.as_many;
          apart = (
            apart_cells setting classes run keeps C.extra C.locals C.shape C.class C.inside C.means st name cell
                args cell_meant mean (apart_after (name ∷ []) args name p.new
                (or_left (bytes_eq name.text name.text) false (equal_name name.text name.text refl))),
            all_apart_cells setting classes run keeps C.extra C.locals C.shape C.class C.inside C.means st args mean
                (all_apart_after (name ∷ []) args p.new),
          );
          owned = (
            meant_own setting classes run keeps C.extra C.locals C.shape C.class C.inside C.means st name.text
                cell cell_meant,
            all_own_cells setting classes run keeps C.extra C.locals C.shape C.class C.inside
                C.means st args mean,
          );
          object = object.head;
          self_held = let a = ap (one_if_name nm.name) nm.is in let b = one_name nm.name in omega arith;
        };
      }

  -- the method's body
  pub record CallInner (method : Procedure) (self : ℕ) (receiver args : List Cell) (st : State) : Type 0 where
    pub inner : Context setting
    pub sound : Sound setting inner.extra inner.shape inner.class (entered method self receiver args st)
    pub checked : (back : Bool) → Checked setting inner (in_direction back method.body)
    pub held_more : (m : ℕ) → 0 < C.extra m → 0 < inner.extra m

  pub call_inner : (method : Procedure) (self own : ℕ) (params : List Var) (receiver args : List Cell)
      (kinds : List Kind) (st : State) → IsCallIn st method self own params receiver args kinds
      → CallInner method self receiver args st
  call_inner method self own params receiver args kinds st call =
      let run = exec setting 0 in
      let keeps = exec_keeps setting classes 0 in
      record {
        inner = record {
          extra = more setting classes run keeps C.extra C.shape C.class false method self own params receiver args
              kinds st call;
          locals = with_parameters (setting_in program (table_of program) call.found.class) [] method.params;
          shape = callee setting classes run keeps C.extra C.shape C.class false method self own params receiver args
              kinds st call;
          class = call.found.class;
          inside = call.found.inside;
          means = means_callee setting classes run keeps C.extra C.shape C.class false method self own params receiver
              args kinds st call;
        };
        sound = begun_sound setting classes run keeps C.extra C.shape C.class false method self own params receiver args
            kinds st call;
        checked = λ back. record {
          passes = body_checks setting classes run keeps C.extra C.shape C.class false method self own params receiver
              args kinds st call back;
          plain = body_plain setting classes run keeps C.extra C.shape C.class false method self own params receiver
              args kinds st call back;
        };
        held_more = λ m h. omega arith;
      }
