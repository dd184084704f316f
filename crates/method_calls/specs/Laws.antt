-- What the code of calls, methods, main and blocks with a local variable does, from what their
-- parts do.
use Rattle.std.specs.Prelude.{◌≡◌, ◌≢◌, ℕ, ◌+◌, ◌^◌, ◌<◌, Bool, false, List, [], ◌∷◌, length, map}
use Rattle.std.specs.Prelude.{Some, None}
use Rattle.refine_form.specs.rpp_words.declared.input.FieldWord.{FieldWord}
use Rattle.refine_form.specs.rpp_tree.declared.tree.Ident.{Ident}
use Rattle.refine_form.specs.rpp_tree.declared.tree.Var.{Var}
use Rattle.refine_form.specs.rpp_tree.Tree.{Expression, Null, Whole, Item, Statements, Local, Construct, Call}
use Rattle.refine_form.specs.rpp_tree.Tree.{Procedure}
use Rattle.refine_form.specs.pisa_isa.Loaded.{loaded}
use Rattle.refine_form.specs.pisa_isa.Machine.{Memory}
use Rattle.refine_form.specs.paired_code.declared.part.Symbol.{Symbol}
use Rattle.refine_form.specs.paired_code.Layout.{at, code_line, Stands}
use Rattle.refine_form.specs.paired_code.Pieces.{Path, Way, Will}
use Rattle.refine_form.specs.paired_code.Does.{Meets}
use Rattle.refine_form.specs.roopl_semantics.Store.{State}
use Rattle.refine_form.specs.roopl_semantics.Value.{Cell}
use Rattle.refine_form.specs.roopl_semantics.Execution.{exec, constructed, element_call, element_name}
use Rattle.refine_form.specs.roopl_semantics.Source.{starting, main_body}
use Rattle.refine_form.specs.roopl_semantics.Layout.{layout}
use Rattle.refine_form.specs.declared.spot.Spot.{Spot}
use Rattle.refine_form.specs.Form.{World, Scope, with_var, ValueLaw, BlockLaw, StmtLaw}
use Rattle.refine_form.specs.Form.{Entered, MethodLaw, AllMethods, registers, run_result}
use Rattle.refine_form.specs.Stands.{spot_in}
use Rattle.refine_form.specs.Worlds.{Place, rates_of, world_of}
use Rattle.method_calls.specs.Facts.{KnownCalls, FrameFacts, ReceiverFacts, LocalFacts, MainFacts}
use Rattle.method_calls.specs.Facts.{new_word}
use Rattle.method_calls.specs.Names.{HasMethod, IsReceiver, IsInit, known_calls_of, receivers_of, method_slot_of}
use Rattle.method_calls.specs.Names.{class_number_named}

-- ---- blocks with a local variable

-- Its word takes the value. After the body it must be the final value, or the code stops with fault
-- 3. Backward it is the inverse statement, with the two values exchanged. So are the blocks that
-- `construct` and calls on elements mean.
pub record LocalCode (word : ℕ) (v p x all : List Symbol) : Type 0 where
  pub law : (place : Place) (s : Scope) (at : ℕ) (var : Var) (value : Expression)
      (body : Statements) (end_var : Var) (end_value : Expression)
      → LocalFacts (world_of place) (IsInit place.setting.program)
      → new_word s ≡ word → end_var.name.text ≡ var.name.text
      → IsInit place.setting.program s var value → IsInit place.setting.program s var end_value
      → ValueLaw (world_of place) s value v → ValueLaw (world_of place) s end_value x
      → BlockLaw (world_of place) (with_var s var) body p
      → StmtLaw (world_of place) s (Local at var value body end_var end_value) all
  pub construct : (place : Place) (s : Scope) (at : ℕ) (class : Ident) (var : Var)
      (body : Statements) (end : Ident)
      → LocalFacts (world_of place) (IsInit place.setting.program)
      → new_word s ≡ word → IsInit place.setting.program s var (Null at)
      → ValueLaw (world_of place) s (Null at) v → ValueLaw (world_of place) s (Null at) x
      → BlockLaw (world_of place) (with_var s var) (constructed at class var.name body) p
      → StmtLaw (world_of place) s (Construct at class var.name body end) all
  pub element : (place : Place) (s : Scope) (at : ℕ) (back : Bool) (array : Ident)
      (index : Expression) (method : Ident) (args : List Ident) (var : Var)
      → LocalFacts (world_of place) (IsInit place.setting.program)
      → new_word s ≡ word → var.name ≡ element_name at
      → IsInit place.setting.program s var (Null at)
      → ValueLaw (world_of place) s (Null at) v → ValueLaw (world_of place) s (Null at) x
      → BlockLaw (world_of place) (with_var s var) (element_call at back array index method args) p
      → StmtLaw (world_of place) s (Call at back (Some (Item array index)) method args) all

-- ---- calls

-- no two of these cells are one
abbrev pub NotAmong : Cell → List Cell → Type 0
NotAmong c [] = Unit {0}
NotAmong c (b ∷ cells) = (c ≢ b) × NotAmong c cells

abbrev pub AllApart : List Cell → Type 0
AllApart [] = Unit {0}
AllApart (c ∷ cells) = NotAmong c cells × AllApart cells

-- in every current frame of this scope the names are cells apart
abbrev pub NamesApart : (w : World) → KnownCalls w → Scope → List Ident → Type 0
NamesApart w knows s names =
    (u : w.Under) (st : State) (cells : List ℕ) → w.opens s u [] st cells
    → AllApart (map (knows.cell_of s u) names)

abbrev pub AreVariables : (w : World) → KnownCalls w → Scope → List Ident → Type 0
AreVariables w knows s [] = Unit {0}
AreVariables w knows s (name ∷ names) = knows.IsVariable s name × AreVariables w knows s names

-- A call or uncall on the current object of the method in a slot, with arguments at these storage
-- slots. It stops with fault 14 if one more call may not be open, and with fault 15 if an argument
-- does not move back. The class of the object determines which method it is.
pub record OwnCallCode (back : Bool) (slot : ℕ) (spots : List Spot) (all : List Symbol) : Type 0
  where
    pub law : (place : Place) (routine : ℕ → Ident → ℕ) (s : Scope) (at : ℕ) (name : Ident)
        (args : List Ident)
        → FrameFacts (world_of place) (known_calls_of place routine)
        → HasMethod place.setting.program s s.class name args
        → method_slot_of place.setting.program s.class name ≡ slot
        → AreVariables (world_of place) (known_calls_of place routine) s args
        → map (spot_in place.setting.program s) args ≡ spots
        → NamesApart (world_of place) (known_calls_of place routine) s args
        → StmtLaw (world_of place) s (Call at back None name args) all

-- A call or uncall on the object of a variable at a storage slot: fault 5 comes before fault 14, if
-- the variable is nil, and fault 15 if it does not move back.
pub record CallOnCode (back : Bool) (spot : Spot) (slot : ℕ) (spots : List Spot)
    (all : List Symbol) : Type 0 where
  pub law : (place : Place) (routine : ℕ → Ident → ℕ) (s : Scope) (at : ℕ) (x name : Ident)
      (args : List Ident)
      → FrameFacts (world_of place) (known_calls_of place routine)
      → ReceiverFacts (world_of place) (known_calls_of place routine) (receivers_of place)
      → IsReceiver place.setting.program s x name args
      → method_slot_of place.setting.program (class_number_named place.setting.program s x) name ≡ slot
      → AreVariables (world_of place) (known_calls_of place routine) s args
      → spot_in place.setting.program s x ≡ spot
      → map (spot_in place.setting.program s) args ≡ spots
      → NamesApart (world_of place) (known_calls_of place routine) s (x ∷ args)
      → StmtLaw (world_of place) s (Call at back (Some (Whole x)) name args) all

-- ---- methods and main

-- a method's body: the link and the place are saved around its block
pub record MethodCode (p all : List Symbol) : Type 0 where
  pub law : (place : Place) (routine : ℕ → Ident → ℕ) (s : Scope) (method : Procedure)
      → FrameFacts (world_of place) (known_calls_of place routine)
      → BlockLaw (world_of place) s method.body p → MethodLaw (world_of place) s method all

-- a memory whose registers are 0
abbrev pub quiet : List ℕ → Memory
quiet cells = record { regs = registers 0 0 0 0 0 0 0 0; cells = cells }

-- the main fragment begins with the loaded memory
abbrev pub main_start : World → List ℕ → List FieldWord → Memory
main_start w statics input = quiet (loaded statics w.setting.limits input)

-- where the body of a routine begins in the code
abbrev pub body_start : World → ℕ → ℕ
body_start w r = w.routines.top r + 1 + 1 + 1

-- the position after it
abbrev pub body_end : World → ℕ → ℕ
body_end w r = body_start w r + length (w.routines.body r)

-- The main fragment, from cell i on. Nine steps lead from its start to the first cell of main's
-- body, where the first frame is current in the state with which the source starts. If the body
-- leaves that frame current after it, ten more steps lead past the fragment, with the layout and
-- zero registers.
pub record EntersMain (w : World) (statics : List ℕ) (input : List FieldWord)
    (main : MainFacts w statics input) (i : ℕ) (all : List Symbol) : Type 0 where
  -- the word by which the body returns, and the memory in which it begins
  pub link : ℕ
  pub is_place : 0 < link
  pub is_word : link < 2 ^ 32
  pub first : Memory
  pub entered : Entered w (w.routines.scope main.main) main.first link 0
      (starting w.setting.program input) first
  pub enters : Path w.im code_line i (i + length all) 9
      0 (at code_line false i (main_start w statics input))
      1 (at code_line false (body_start w main.main) first)
  pub returns : (st : State) (m : Memory) (k : ℕ)
      → Entered w (w.routines.scope main.main) main.first link 0 st m
      → Way w.im code_line false (body_start w main.main) (body_end w main.main) k
      (body_start w main.main) first (body_end w main.main) m
      → Way w.im code_line false i (i + length all) (9 + k + 10)
      i (main_start w statics input) (i + length all)
      (quiet (layout w.setting.program w.setting.limits statics st.store st.log))

-- The main fragment, from the loaded memory: it runs main's body in the first frame, so does what
-- the source says of `main`, and leaves the layout with zero registers.
pub record MainCode (number : ℕ) (all : List Symbol) : Type 0 where
  pub enters : (place : Place) (routine : ℕ → Ident → ℕ) (input : List FieldWord)
      → FrameFacts (world_of place) (known_calls_of place routine)
      → (main : MainFacts (world_of place) place.statics input)
      → place.routines.number main.main ≡ number
      → (i : ℕ) → i + length all < 2 ^ 30 → Stands place.im code_line i all
      → EntersMain (world_of place) place.statics input main i all
  pub law : (place : Place) (routine : ℕ → Ident → ℕ) (input : List FieldWord)
      → FrameFacts (world_of place) (known_calls_of place routine)
      → (main : MainFacts (world_of place) place.statics input)
      → place.routines.number main.main ≡ number → AllMethods (world_of place)
      → (n : ℕ) → Will place.im all false (quiet (loaded place.statics place.setting.limits input))
      (Meets (λ st m. m ≡ quiet (layout place.setting.program place.setting.limits place.statics
      st.store st.log)) (rates_of place.setting) n 900
      (run_result (exec place.setting n (main_body place.setting.program)
      (starting place.setting.program input))))
