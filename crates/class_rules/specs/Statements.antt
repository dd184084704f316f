-- The rules of statements in their order.
use Rattle.std.specs.Prelude.{ℕ, Bool, true, false, not, is_some, ◌&&◌, ◌||◌, nat_eq, List, [], ◌∷◌}
use Rattle.std.specs.Prelude.{◌++◌, length, Option, Some, None, Result, Ok, Err, if◌then◌else◌}
use Rattle.std.specs.Option.{unwrap_or, is_none}
use Rattle.std.specs.List.{list_any}
use Rattle.std.specs.Str.{bytes_eq}
use Rattle.rpp_tree.specs.declared.tree.Ident.{Ident}
use Rattle.rpp_tree.specs.declared.tree.Var.{Var}
use Rattle.rpp_tree.specs.declared.tree.VarType.{VarType}
use Rattle.rpp_tree.specs.declared.tree.VarType.TheVariants as type
use Rattle.rpp_tree.specs.Tree.{Expression, Null, Lvalue, Whole, Item, Creation, Object, Ints}
use Rattle.rpp_tree.specs.Tree.{Objects, Statement, Statements, Update, Swap, If, From, Construct}
use Rattle.rpp_tree.specs.Tree.{Local, New, Delete, Copy, Uncopy, Call, Skip, End, Then}
use Rattle.rpp_tree.specs.Places.{place_name}
use Rattle.class_rules.specs.Overrides.{is_type_int, same_type, parameters_of, run_at}
use Rattle.class_rules.specs.Table.{Table, class_of, slots_in, slot_in, inherits_in}
use Rattle.class_rules.specs.Refusal.{Refusal, unknown_name, redeclared, type_differs, self_update}
use Rattle.class_rules.specs.Refusal.{same_argument, field_argument, wrong_arity}
use Rattle.class_rules.specs.Refusal.{local_in_own_expression, not_class_type}
use Rattle.class_rules.specs.declared.kind.Kind.{Kind}
use Rattle.class_rules.specs.declared.kind.Kind.TheVariants as kind
use Rattle.class_rules.specs.Scope.{Typing, Locals, kind_of, local_kind, kind_in, class_kind}
use Rattle.class_rules.specs.Expressions.{then_checked, is_int, type_of, place_type, occurs}
use Rattle.class_rules.specs.Expressions.{occurs_in_index, first_token}

-- passed, or the first refusal
abbrev pub Verdict : Type 0
Verdict = Result (Unit {0}) Refusal

abbrev pub verdict_passed : Verdict
verdict_passed = Ok tt

-- refused if the condition does not hold
abbrev pub required : Bool → Refusal → Verdict
required holds error = if holds then verdict_passed else Err error

-- the second rule's answer if the first refuses nothing
abbrev pub in_turn : Verdict → Verdict → Verdict
in_turn (Ok value) next = next
in_turn (Err error) next = Err error

abbrev pub each_passes : {A : Type 0} → (A → Verdict) → List A → Verdict
each_passes rule [] = verdict_passed
each_passes rule (x ∷ xs) = in_turn (rule x) (each_passes rule xs)

-- the same, if the rule sees the elements before each
abbrev pub each_passes_after : {A : Type 0} → (List A → A → Verdict) → List A → List A → Verdict
each_passes_after rule before [] = verdict_passed
each_passes_after rule before (x ∷ xs) =
    in_turn (rule before x) (each_passes_after rule (before ++ x ∷ []) xs)

abbrev pub is_int_array : Kind → Bool
is_int_array kind.IntArray = true
is_int_array _ = false

abbrev pub is_nil_kind : Kind → Bool
is_nil_kind kind.Nil = true
is_nil_kind _ = false

abbrev pub is_class : ℕ → Kind → Bool
is_class class (kind.Class other) = nat_eq class other
is_class class _ = false

abbrev pub is_class_array : ℕ → Kind → Bool
is_class_array class (kind.ClassArray other) = nat_eq class other
is_class_array class _ = false

abbrev pub same_kind : Kind → Kind → Bool
same_kind kind.Int other = is_int other
same_kind kind.Nil other = is_nil_kind other
same_kind (kind.Class class) other = is_class class other
same_kind kind.IntArray other = is_int_array other
same_kind (kind.ClassArray class) other = is_class_array class other

-- a variable does not occur in the index of its own place
abbrev pub occurs_in_own_index : Lvalue → Bool
occurs_in_own_index place = occurs_in_index (place_name place).text place

-- update: the parts; both int; the variable occurs nowhere else
abbrev pub update_rules : Typing → Locals → ℕ → Lvalue → Expression → Verdict
update_rules setting locals at place value =
    then_checked (place_type setting locals place) (λ p. then_checked (type_of setting locals value) (λ v.
    in_turn (required (is_int p && is_int v) (type_differs at))
    (required (not (occurs_in_own_index place || occurs (place_name place).text value))
    (self_update at))))

-- swap: the parts; equal types; neither variable in an index
abbrev pub in_either_index : List ℕ → Lvalue → Lvalue → Bool
in_either_index name left right = occurs_in_index name left || occurs_in_index name right

abbrev pub swap_rules : Typing → Locals → ℕ → Lvalue → Lvalue → Verdict
swap_rules setting locals at left right =
    then_checked (place_type setting locals left) (λ l. then_checked (place_type setting locals right) (λ r.
    in_turn (required (same_kind l r) (type_differs at))
    (required (not (in_either_index (place_name left).text left right
    || in_either_index (place_name right).text left right)) (self_update at))))

-- conditionals and loops: both expressions; each is int
abbrev pub test_rules : Typing → Locals → Expression → Expression → Verdict
test_rules setting locals first last =
    then_checked (type_of setting locals first) (λ f. then_checked (type_of setting locals last) (λ l.
    in_turn (required (is_int f) (type_differs (first_token first)))
    (required (is_int l) (type_differs (first_token last)))))

abbrev pub class_known : Table → Ident → Verdict
class_known table name = required (is_some (class_of table name.text)) (unknown_name name.at)

abbrev pub type_known : Table → VarType → Verdict
type_known table (type.Class name) = class_known table name
type_known table (type.ClassArray name) = class_known table name
type_known table _ = verdict_passed

abbrev pub is_nil_word : Expression → Bool
is_nil_word (Null at) = true
is_nil_word _ = false

-- local: the type; a new name; the closing words; the name in its own expressions; the parts; what
-- they may be
abbrev pub local_rules : Typing → Locals → ℕ → Var → Expression → Var → Expression → Verdict
local_rules setting locals at var value end_var end_value =
    in_turn (type_known setting.table var.kind)
    (in_turn (required (is_none (local_kind locals var.name.text)) (redeclared var.name.at))
    (in_turn (required (same_type var.kind end_var.kind && bytes_eq var.name.text end_var.name.text)
    (type_differs end_var.name.at))
    (in_turn (required (not (occurs var.name.text value || occurs var.name.text end_value))
    (local_in_own_expression at))
    (then_checked (type_of setting locals value) (λ v. then_checked (type_of setting locals end_value) (λ e.
    required (if is_type_int var.kind then is_int v && is_int e else is_nil_word value
    && is_nil_word end_value) (type_differs at)))))))

abbrev pub made_known : Table → Creation → Verdict
made_known table (Object class) = class_known table class
made_known table (Ints length) = verdict_passed
made_known table (Objects class length) = class_known table class

abbrev pub length_is_int : Typing → Locals → Creation → Result Bool Refusal
length_is_int setting locals (Object class) = Ok true
length_is_int setting locals (Ints length) = then_checked (type_of setting locals length)
    (λ l. Ok (is_int l))
length_is_int setting locals (Objects class length) =
    then_checked (type_of setting locals length) (λ l. Ok (is_int l))

abbrev pub occurs_in_length : List ℕ → Creation → Bool
occurs_in_length name (Object class) = false
occurs_in_length name (Ints length) = occurs name length
occurs_in_length name (Objects class length) = occurs name length

-- a place takes an object of its class or of one below
abbrev pub takes_object : Table → ℕ → Kind → Bool
takes_object table class (kind.Class own) = nat_eq own class || inherits_in table class own
takes_object table class _ = false

abbrev pub takes_object_of : Table → Option ℕ → Kind → Bool
takes_object_of table None place = false
takes_object_of table (Some class) place = takes_object table class place

abbrev pub takes_objects_of : Option ℕ → Kind → Bool
takes_objects_of None place = false
takes_objects_of (Some class) place = is_class_array class place

abbrev pub takes : Table → Creation → Kind → Bool
takes table (Object class) place = takes_object_of table (class_of table class.text) place
takes table (Ints length) place = is_int_array place
takes table (Objects class length) place = takes_objects_of (class_of table class.text) place

-- new and delete: the class; place then length; an int length and a place that takes it; the
-- variable nowhere else
abbrev pub make_rules : Typing → Locals → ℕ → Creation → Lvalue → Verdict
make_rules setting locals at made place =
    in_turn (made_known setting.table made)
    (then_checked (place_type setting locals place) (λ p. then_checked (length_is_int setting locals made)
    (λ int.
    in_turn (required (int && takes setting.table made p) (type_differs at))
    (required (not (occurs_in_own_index place || occurs_in_length (place_name place).text made))
    (self_update at)))))

-- construct: the class; a new name; the closing name
abbrev pub construct_rules : Typing → Locals → Ident → Ident → Ident → Verdict
construct_rules setting locals class name end =
    in_turn (class_known setting.table class)
    (in_turn (required (is_none (local_kind locals name.text)) (redeclared name.at))
    (required (bytes_eq name.text end.text) (type_differs end.at)))

-- the type that copy and uncopy write: a class or an array type
abbrev pub written_kind : Table → ℕ → VarType → Result Kind Refusal
written_kind table at written = if is_type_int written then Err (not_class_type at)
    else Ok (kind_of table written)

-- of a class the first place is of it, and the second of it or of an ancestor; of arrays both are
abbrev pub takes_copy : Table → Kind → Kind → Kind → Bool
takes_copy table (kind.Class class) source target =
    is_class class source && takes_object table class target
takes_copy table kind.IntArray source target = is_int_array source && is_int_array target
takes_copy table (kind.ClassArray class) source target =
    is_class_array class source && is_class_array class target
takes_copy table _ source target = false

abbrev pub same_plain : Lvalue → Lvalue → Bool
same_plain (Whole name) (Whole other) = bytes_eq name.text other.text
same_plain _ _ = false

-- copy and uncopy: the class; the parts; a class or array type; fitting types; two variables; the
-- second in no index
abbrev pub copy_rules : Typing → Locals → ℕ → VarType → Lvalue → Lvalue → Verdict
copy_rules setting locals at written source target =
    in_turn (type_known setting.table written)
    (then_checked (place_type setting locals source)
    (λ s. then_checked (place_type setting locals target)
    (λ t. then_checked (written_kind setting.table at written) (λ kind.
    in_turn (required (takes_copy setting.table kind s t) (type_differs at))
    (in_turn (required (not (same_plain source target)) (same_argument at))
    (required (not (in_either_index (place_name target).text source target)) (self_update at)))))))

-- a call's arguments
abbrev pub argument_known : Typing → Locals → Bool → ℕ → Ident → Verdict
argument_known setting locals own at argument =
    in_turn (required (is_some (kind_in setting locals argument.text)) (unknown_name argument.at))
    (required (not own || is_some (local_kind locals argument.text)) (field_argument at))

abbrev pub argument_new : List Ident → Ident → Verdict
argument_new before argument =
    required (not (list_any (λ other. bytes_eq other.text argument.text) before))
    (same_argument argument.at)

abbrev pub argument_fits : Typing → Locals → Var → Ident → Verdict
argument_fits setting locals parameter argument =
    required (same_kind (kind_of setting.table parameter.kind)
    (unwrap_or (kind_in setting locals argument.text) kind.Nil)) (type_differs argument.at)

abbrev pub arguments_fit : Typing → Locals → List Var → List Ident → Verdict
arguments_fit setting locals (parameter ∷ parameters) (argument ∷ arguments) =
    in_turn (argument_fits setting locals parameter argument)
    (arguments_fit setting locals parameters arguments)
arguments_fit setting locals _ _ = verdict_passed

abbrev pub receiver_kind : ℕ → Kind → Result ℕ Refusal
receiver_kind at (kind.Class class) = Ok class
receiver_kind at _ = Err (not_class_type at)

abbrev pub place_class : ℕ → Lvalue → ℕ → Result ℕ Refusal
place_class at place class = if occurs_in_own_index place then Err (self_update at) else Ok class

-- the class of a receiver, or of the current object
abbrev pub receiver_class : Typing → Locals → Option Lvalue → Result ℕ Refusal
receiver_class setting locals None = Ok setting.class
receiver_class setting locals (Some place) =
    then_checked (place_type setting locals place)
    (λ k. then_checked (receiver_kind (place_name place).at k)
    (place_class (place_name place).at place))

-- a plain receiver counts among the arguments
abbrev pub plain_receiver : Option Lvalue → List Ident
plain_receiver (Some (Whole name)) = name ∷ []
plain_receiver _ = []

-- the method; each argument; no argument twice; as many as parameters; of their types
abbrev pub slot_rules : Typing → Locals → ℕ → Option Lvalue → Ident → List Ident → ℕ → Option ℕ
    → Verdict
slot_rules setting locals at receiver method arguments class None = Err (unknown_name method.at)
slot_rules setting locals at receiver method arguments class (Some slot) =
    let parameters = parameters_of setting.program (run_at (slots_in setting.table class) slot) in
    in_turn (each_passes (argument_known setting locals (is_none receiver) at) arguments)
    (in_turn (each_passes_after argument_new (plain_receiver receiver) arguments)
    (in_turn (required (nat_eq (length arguments) (length parameters)) (wrong_arity method.at))
    (arguments_fit setting locals parameters arguments)))

-- call and uncall: the receiver, and then the rules of its class's method
abbrev pub call_rules : Typing → Locals → ℕ → Option Lvalue → Ident → List Ident → Verdict
call_rules setting locals at receiver method arguments =
    then_checked (receiver_class setting locals receiver) (λ class.
    slot_rules setting locals at receiver method arguments class
    (slot_in setting.table class method.text))

abbrev pub with_local : Typing → Locals → Var → Locals
with_local setting locals var =
    record { name = var.name.text; kind = kind_of setting.table var.kind } ∷ locals

abbrev pub with_object : Typing → Locals → Ident → Ident → Locals
with_object setting locals class name =
    record { name = name.text; kind = class_kind (class_of setting.table class.text) } ∷ locals

-- a statement's own rules, and then those of the statements inside it
abbrev mutual
  pub check_statement : Typing → Locals → Statement → Verdict
  check_statement setting locals (Update at op place value) =
      update_rules setting locals at place value
  check_statement setting locals (Swap at left right) = swap_rules setting locals at left right
  check_statement setting locals (If at test taken other after) =
      in_turn (test_rules setting locals test after)
      (in_turn (check_statements setting locals taken) (check_statements setting locals other))
  check_statement setting locals (From at entry first again exit) =
      in_turn (test_rules setting locals entry exit)
      (in_turn (check_statements setting locals first) (check_statements setting locals again))
  check_statement setting locals (Local at var value body end_var end_value) =
      in_turn (local_rules setting locals at var value end_var end_value)
      (check_statements setting (with_local setting locals var) body)
  check_statement setting locals (New at made place) = make_rules setting locals at made place
  check_statement setting locals (Delete at made place) = make_rules setting locals at made place
  check_statement setting locals (Call at back receiver method args) =
      call_rules setting locals at receiver method args
  check_statement setting locals (Construct at class name body end) =
      in_turn (construct_rules setting locals class name end)
      (check_statements setting (with_object setting locals class name) body)
  check_statement setting locals (Copy at written source target) =
      copy_rules setting locals at written source target
  check_statement setting locals (Uncopy at written source target) =
      copy_rules setting locals at written source target
  check_statement setting locals (Skip at) = verdict_passed

  pub check_statements : Typing → Locals → Statements → Verdict
  check_statements setting locals End = verdict_passed
  check_statements setting locals (Then first rest) =
      in_turn (check_statement setting locals first) (check_statements setting locals rest)
