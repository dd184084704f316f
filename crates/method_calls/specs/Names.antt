-- What holds for names when code is made, and what stays while a call is active.
use Rattle.std.specs.Prelude.{◌≡◌, ◌⊎◌, ℕ, ◌+◌, ◌<◌, ◌≤◌, ◌^◌, true, false, List, [], ◌∷◌, length}
use Rattle.std.specs.Prelude.{map, replicate, slice_index, Some, Result, Ok, Err}
use Rattle.std.specs.Option.{unwrap_or}
use Rattle.refine_form.specs.rpp_tree.declared.tree.Ident.{Ident}
use Rattle.refine_form.specs.rpp_tree.declared.tree.Var.{Var}
use Rattle.refine_form.specs.rpp_tree.Tree.{Expression, Null, Source}
use Rattle.refine_form.specs.class_rules.declared.kind.Kind.{Kind}
use Rattle.refine_form.specs.class_rules.declared.kind.Kind.TheVariants as kind
use Rattle.refine_form.specs.class_rules.Table.{table_of, slot_in, dispatch_in}
use Rattle.refine_form.specs.class_rules.Overrides.{parameters_of}
use Rattle.refine_form.specs.class_rules.Inheritance.{is_or_inherits, kind_of_var}
use Rattle.refine_form.specs.class_rules.Expressions.{is_int, type_of, variable_type, occurs}
use Rattle.refine_form.specs.class_rules.Program.{setting_in}
use Rattle.refine_form.specs.buddy_book.Place.{place}
use Rattle.refine_form.specs.roopl_semantics.Store.{State, object_at, class_of_head}
use Rattle.refine_form.specs.roopl_semantics.Layout.{no_placing}
use Rattle.refine_form.specs.meaning_sound.Plain.{HasWords}
use Rattle.refine_form.specs.Form.{Scope}
use Rattle.refine_form.specs.Frames.{CallerFrame, Under, spare_words, cell_in, address_of}
use Rattle.refine_form.specs.Stands.{shape_of, spot_in}
use Rattle.refine_form.specs.Worlds.{Place, world_of}
use Rattle.method_calls.specs.Facts.{IsNear, KnownCalls, Receivers}
use Rattle.refine_form.specs.code_conventions.declared.memory.TheConstants.{MOST_VARIABLES, FIRST_VARIABLE}

-- ---- variables, methods, receivers

-- a name is a variable or a field, of a type, and is near
pub record IsVariable (program : Source) (s : Scope) (name : Ident) : Type 0 where
  pub kind : Kind
  pub typed : variable_type (setting_in program (table_of program) s.class) (shape_of program s)
      name ≡ Ok kind
  pub near : IsNear (spot_in program s name)

-- names with their types
abbrev pub AllTyped : Source → Scope → List Ident → List Kind → Type 0
AllTyped program s [] [] = Unit {0}
AllTyped program s [] (k ∷ ks) = ⊥
AllTyped program s (x ∷ names) [] = ⊥
AllTyped program s (x ∷ names) (k ∷ ks) =
    (variable_type (setting_in program (table_of program) s.class) (shape_of program s) x ≡ Ok k)
    × AllTyped program s names ks

-- a method of a class, with arguments of its parameters' types
pub record HasMethod (program : Source) (s : Scope) (class : ℕ) (name : Ident)
    (args : List Ident) : Type 0 where
  pub slot : ℕ
  pub is_slot : slot_in (table_of program) class name.text ≡ Some slot
  pub small : slot < 2 ^ 20
  pub types : AllTyped program s args
      (map (kind_of_var program) (parameters_of program
      (dispatch_in (table_of program) class slot)))
  pub few : length args ≤ 32
  pub inside : class < length program.classes

-- a variable of a class with the method
pub record IsReceiver (program : Source) (s : Scope) (x name : Ident) (args : List Ident) : Type 0
  where
    pub class : ℕ
    pub typed : variable_type (setting_in program (table_of program) s.class) (shape_of program s) x
        ≡ Ok (kind.Class class)
    pub near : IsNear (spot_in program s x)
    pub method : HasMethod program s class name args

-- the slot of a method of a class
abbrev pub method_slot_of : Source → ℕ → Ident → ℕ
method_slot_of program class name = unwrap_or (slot_in (table_of program) class name.text) 0

-- the class of a variable
abbrev pub class_of_kind : Kind → ℕ
class_of_kind (kind.Class class) = class
class_of_kind _ = 0

abbrev pub class_found : {E : Type 0} → Result Kind E → ℕ
class_found (Ok k) = class_of_kind k
class_found (Err e) = 0

abbrev pub class_number_named : Source → Scope → Ident → ℕ
class_number_named program s x =
    class_found (variable_type (setting_in program (table_of program) s.class) (shape_of program s)
    x)

-- ---- active calls

-- the frame with a link and a place saved
abbrev pub put : Under → ℕ → ℕ → Under
put u link place = record u { put_by = link ∷ slice_index u.put_by 1 ∷ place ∷ spare_words }

-- the current frame as a frame below
abbrev pub caller_of : Scope → Under → State → CallerFrame
caller_of s u st = record {
  scope = s;
  frame = st.frame;
  self = u.self;
  class = u.class;
  object = u.object;
  put_by = u.put_by;
}

-- while a call on the current object is open
abbrev pub deeper : Scope → Under → State → Under
deeper s u st = record {
  callers = caller_of s u st ∷ u.callers;
  self = u.self;
  class = u.class;
  object = u.object;
  put_by = replicate FIRST_VARIABLE 0;
}

-- while a call on the object of a name is open: the caller's object is saved in word 1
abbrev pub deeper_on : Place → Scope → Under → State → ℕ → Under
deeper_on p s u st name = record {
  callers = caller_of s u st ∷ u.callers;
  self = name;
  class = class_of_head (object_at st.store name).head;
  object = address_of p.setting p.statics
      (unwrap_or (place p.setting.limits.heap st.log) no_placing) name;
  put_by = 0 ∷ u.object ∷ 0 ∷ spare_words;
}

-- what is known at a place, if this is the routine of a method in a class
abbrev pub known_calls_of : (p : Place) → (ℕ → Ident → ℕ) → KnownCalls (world_of p)
known_calls_of p routine = record {
  IsVariable = IsVariable p.setting.program;
  spot = spot_in p.setting.program;
  IsMethod = λ s name args. HasMethod p.setting.program s s.class name args;
  slot = λ s name. method_slot_of p.setting.program s.class name;
  cell_of = cell_in p.setting p.statics;
  depth_of = λ u. 1 + length u.callers;
  self_of = λ u. u.self;
  class_of = λ u. u.class;
  put = put;
  deeper = deeper;
  routine = routine;
}

abbrev pub receivers_of : (p : Place) → Receivers (world_of p)
receivers_of p = record {
  IsReceiver = IsReceiver p.setting.program;
  slot_on = λ s x name. method_slot_of p.setting.program (class_number_named p.setting.program s x) name;
  deeper_on = deeper_on p;
  IsFor = λ s x class. is_or_inherits p.setting.program class (class_number_named p.setting.program s x)
      ≡ true;
}

-- ---- the value of a new variable

-- the value of a new variable that is an int: an int in which its name does not occur
pub record IntInit (program : Source) (s : Scope) (var : Var) (e : Expression) : Type 0 where
  pub is_int : kind_of_var program var ≡ kind.Int
  pub typed : type_of (setting_in program (table_of program) s.class) (shape_of program s) e
      ≡ Ok kind.Int
  pub has_words : HasWords e
  pub apart : occurs var.name.text e ≡ false

abbrev pub IsNull : Expression → Type 0
IsNull (Null at) = Unit {0}
IsNull _ = ⊥

-- any other one begins and ends with nil
pub record NilInit (program : Source) (var : Var) (e : Expression) : Type 0 where
  pub no_int : is_int (kind_of_var program var) ≡ false
  pub null : IsNull e

pub record IsInit (program : Source) (s : Scope) (var : Var) (e : Expression) : Type 0 where
  pub few : length s.vars < MOST_VARIABLES
  pub value : IntInit program s var e ⊎ NilInit program var e
