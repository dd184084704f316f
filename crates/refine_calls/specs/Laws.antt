-- The current frames of an image have what the laws of calls, of blocks with a local variable and
-- of `main` take as premises.
use Rattle.std.specs.Prelude.{◌≡◌, ℕ, ◌+◌, ◌^◌, ◌<◌, ◌≤◌, true, List, [], length, slice_get}
use Rattle.std.specs.Prelude.{slice_index, Some}
use Rattle.std.specs.Option.{unwrap_or}
use Rattle.buddy_pisa.specs.rpp_words.Limits.{IsLimits}
use Rattle.buddy_pisa.specs.rpp_words.declared.input.FieldWord.{FieldWord}
use Rattle.method_calls.specs.rpp_tree.declared.tree.Ident.{Ident}
use Rattle.method_calls.specs.rpp_tree.Tree.{Source}
use Rattle.method_calls.specs.class_rules.Classes.{method_named, main_of}
use Rattle.method_calls.specs.class_rules.Table.{table_of, slot_in}
use Rattle.method_calls.specs.class_rules.Inheritance.{is_or_inherits}
use Rattle.method_calls.specs.class_rules.Program.{IsAccepted}
use Rattle.buddy_pisa.specs.paired_code.declared.part.Symbol.{Symbol}
use Rattle.buddy_pisa.specs.paired_code.Machine.{Image}
use Rattle.buddy_pisa.specs.paired_code.Layout.{Routine, Tidy}
use Rattle.buddy_pisa.specs.Promise.{AllocatorLaw}
use Rattle.buddy_pisa.specs.pisa_isa.Image.{Segments}
use Rattle.buddy_pisa.specs.pisa_isa.declared.image.TheConstants.{MOST_STATICS}
use Rattle.method_calls.specs.roopl_semantics.Layout.{HasStatics}
use Rattle.method_calls.specs.roopl_semantics.Source.{IsValid, main_body}
use Rattle.method_calls.specs.refine_form.Form.{MethodRoutines}
use Rattle.method_calls.specs.refine_form.Worlds.{Place, world_of}
use Rattle.method_calls.specs.Facts.{FrameFacts, ReceiverFacts, LocalFacts, MainFacts}
use Rattle.method_calls.specs.Names.{known_calls_of, receivers_of, IsInit}

-- The routine of a method in a class runs the method that the class has for the name, in the scope
-- of the class that the method is written in. Its code address is in the method's slot of the
-- class.
pub record Route (program : Source) (places : List (List ℕ)) (routines : MethodRoutines)
    (routine : ℕ → Ident → ℕ) (own slot : ℕ) (name : Ident) : Type 0 where
  pub below : routine own name < routines.count
  pub method_is : method_named program own name.text ≡ routines.method (routine own name)
  pub vars_are : (routines.scope (routine own name)).vars
      ≡ (routines.method (routine own name)).params
  pub class_inside : (routines.scope (routine own name)).class < length program.classes
  pub class_above : is_or_inherits program own (routines.scope (routine own name)).class ≡ true
  pub place_is : slice_index (unwrap_or (slice_get places own) []) slot
      ≡ routines.top (routine own name) + 1

-- The allocator of the heap is routine 0 of an image.
pub record HasAllocator (im : Image) : Type 0 where
  pub top : ℕ
  pub body : List Symbol
  pub law : AllocatorLaw body
  pub routine : Routine im 0 top body

-- The static cells of a code address are those of an image of its program, and its routines are in
-- its code. Its class tables lead to them: for each class, and each slot that the class or one that
-- it inherits from has for a name.
pub record IsRouted (place : Place) (routine : ℕ → Ident → ℕ) : Type 0 where
  pub image : Segments
  pub has : HasStatics place.setting.program image
  pub statics_are : place.statics ≡ image.statics
  pub few : length place.statics ≤ MOST_STATICS
  pub routes : (own class slot : ℕ) (name : Ident)
      → is_or_inherits place.setting.program own class ≡ true
      → class < length place.setting.program.classes
      → slot_in (table_of place.setting.program) class name.text ≡ Some slot
      → Route place.setting.program has.places place.routines routine own slot name
  pub placed : (r : ℕ) → r < place.routines.count
      → Routine place.im (place.routines.number r) (place.routines.top r) (place.routines.body r)
  pub tidy : Tidy place.im
  pub allocator : HasAllocator place.im

-- the same for an accepted program
pub record IsLinked (place : Place) (routine : ℕ → Ident → ℕ) : Type 0 where
  pub accepted : IsAccepted place.setting.program
  pub routed : IsRouted place routine

-- a current frame has what calls take as premises
abbrev pub FramesAreOpen : Type 0
FramesAreOpen =
    (place : Place) (routine : ℕ → Ident → ℕ) → IsLinked place routine
    → FrameFacts (world_of place) (known_calls_of place routine)

-- and what calls on the object of a variable assume in addition
abbrev pub ReceiversAreOpen : Type 0
ReceiversAreOpen =
    (place : Place) (routine : ℕ → Ident → ℕ) → IsLinked place routine
    → ReceiverFacts (world_of place) (known_calls_of place routine) (receivers_of place)

-- and what blocks with a local variable take, of any type
abbrev pub LocalsAreOpen : Type 0
LocalsAreOpen =
    (place : Place) → IsAccepted place.setting.program → length place.statics ≤ MOST_STATICS
    → LocalFacts (world_of place) (IsInit place.setting.program)

-- the facts of `main` are those of this routine
pub record OpensMain (place : Place) (input : List FieldWord) (main : ℕ) : Type 0 where
  pub facts : MainFacts (world_of place) place.statics input
  pub routine_is : facts.main ≡ main

-- if a routine is the one of `main`, the loaded memory is its current frame, and if that ends, it
-- is the layout
abbrev pub MainIsOpen : Type 0
MainIsOpen =
    (place : Place) (image : Segments) (input : List FieldWord) (main : ℕ)
    → IsAccepted place.setting.program → HasStatics place.setting.program image
    → place.statics ≡ image.statics
    → length place.statics ≤ MOST_STATICS → length image.code < 2 ^ 32
    → IsLimits place.setting.limits → IsValid place.setting.program input
    → main < place.routines.count → (place.routines.method main).body
    ≡ main_body place.setting.program
    → (place.routines.scope main).vars ≡ [] →
    (place.routines.scope main).class ≡ (main_of place.setting.program).class
    → OpensMain place input main
