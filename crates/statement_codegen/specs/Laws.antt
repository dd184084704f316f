-- What the code of blocks with a local variable does, in every scope of the names that it was made
-- for, if the codes of its parts do what they must do. Also what the code of `skip`, of
-- `construct`, of calls and of methods does in each image that is linked of its program.
use Rattle.std.specs.Prelude.{◌≡◌, ℕ, ◌<◌, Bool, List, ◌++◌, length, Option, Some}
use Rattle.std.specs.Option.{option_map}
use Rattle.refine_objects.specs.rpp_tree.declared.tree.Ident.{Ident}
use Rattle.refine_objects.specs.rpp_tree.declared.tree.Var.{Var}
use Rattle.refine_objects.specs.rpp_tree.declared.tree.VarType.{VarType}
use Rattle.refine_objects.specs.rpp_tree.declared.tree.VarType.TheVariants as type
use Rattle.refine_objects.specs.rpp_tree.Tree.{Expression, Null, Lvalue, Whole, Item, Object, Statements}
use Rattle.refine_objects.specs.rpp_tree.Tree.{Local, Construct, New, Call, Skip, Procedure}
use Rattle.branch_codegen.specs.paired_code.declared.part.Symbol.{Symbol}
use Rattle.branch_codegen.specs.roopl_semantics.Execution.{constructed, element_call, element_name}
use Rattle.branch_codegen.specs.meaning_sound.Plain.{ReceiverIsPlain}
use Rattle.branch_codegen.specs.code_conventions.declared.memory.TheConstants.{MOST_VARIABLES}
use Rattle.branch_codegen.specs.code_scope.Visible.{Known, Visible, spot_of, free_words_of, kind_named, known_in}
use Rattle.branch_codegen.specs.register_expressions.Code.{words}
use Rattle.branch_codegen.specs.expr_uncompute.Promises.{SwapLaw}
use Rattle.refine_form.specs.Form.{Scope, with_var, BlockLaw, StmtLaw}
use Rattle.refine_form.specs.Worlds.{Place, world_of}
use Rattle.branch_codegen.specs.method_calls.Names.{IsInit}
use Rattle.branch_codegen.specs.refine_expressions.Typing.{known_of, HasFrameSpace}
use Rattle.branch_codegen.specs.refine_expressions.Laws.{IsLaidOut}
use Rattle.statement_codegen.specs.Codes.{with_variable, IsStatementCode, IsBlockCode, IsMethodCode}
use Rattle.statement_codegen.specs.Codes.{Passes, IsAllowed}

-- A block with a local variable: its two values may be those of the variable. If they are nil,
-- so are the blocks that `construct` and calls on elements mean.
pub record LocalLaw (known : Known) (var : Var) (value last : Expression)
    (p all : List Symbol) : Type 0 where
  pub law : (place : Place) → IsLaidOut place → (s : Scope)
      → known_of place.setting.program s ≡ known
      → (at : ℕ) (body : Statements) (end_var : Var) → end_var.name.text ≡ var.name.text
      → IsInit place.setting.program s var value → IsInit place.setting.program s var last
      → HasFrameSpace place.setting.program s (words value) → HasFrameSpace place.setting.program s (words last)
      → BlockLaw (world_of place) (with_var s var) body p
      → StmtLaw (world_of place) s (Local at var value body end_var last) all
  pub construct : (place : Place) → IsLaidOut place → (s : Scope)
      → known_of place.setting.program s ≡ known
      → (at : ℕ) (class : Ident) (body : Statements) (end : Ident) → value ≡ Null at
      → last ≡ Null at
      → IsInit place.setting.program s var (Null at)
      → BlockLaw (world_of place) (with_var s var) (constructed at class var.name body) p
      → StmtLaw (world_of place) s (Construct at class var.name body end) all
  pub element : (place : Place) → IsLaidOut place → (s : Scope)
      → known_of place.setting.program s ≡ known
      → (at : ℕ) (back : Bool) (array : Ident) (index : Expression) (method : Ident)
      (args : List Ident)
      → var.name ≡ element_name at → value ≡ Null at → last ≡ Null at
      → IsInit place.setting.program s var (Null at)
      → BlockLaw (world_of place) (with_var s var) (element_call at back array index method args) p
      → StmtLaw (world_of place) s (Call at back (Some (Item array index)) method args) all

-- nothing is done, at any code address
pub record SkipLaw (all : List Symbol) : Type 0 where
  pub law : (v : Visible) (at : ℕ) → IsStatementCode v (Skip at) all

-- a call or uncall on the current object, or on the object of a variable, that the rules of types
-- pass
pub record CallLaw (v : Visible) (back : Bool) (receiver : Option Ident) (method : Ident)
    (args : List Ident) (all : List Symbol) : Type 0 where
  pub law : (at : ℕ) → Passes v (Call at back (option_map Whole receiver) method args)
      → IsStatementCode v (Call at back (option_map Whole receiver) method args) all

-- a method, if p is the code of its block
pub record RoutineLaw (v : Visible) (p all : List Symbol) : Type 0 where
  pub law : (method : Procedure) → IsBlockCode v method.body p → IsMethodCode v method all

-- `construct`: the first fragment is the code of `new`, and p that of its block. The inverse of the
-- first fragment comes after the block, and so it is the code of `delete`.
pub record ConstructLaw (v : Visible) (at : ℕ) (var : Var) (making p all : List Symbol) : Type 0
  where
    pub law : (class : Ident) (body : Statements) (end : Ident) → var.kind ≡ type.Class class
        → length v.variables < MOST_VARIABLES
        → IsStatementCode (with_variable v var) (New at (Object class) (Whole var.name)) making
        → IsBlockCode (with_variable v var) body p
        → IsStatementCode v (Construct at class var.name body end) all

-- ---- calls on elements

-- the type of the elements of an array of references
abbrev pub element_type : Option VarType → VarType
element_type (Some (type.ClassArray class)) = type.Class class
element_type _ = type.Int

-- the variable that holds an element of this array while a method is called on it
abbrev pub element_var : Visible → ℕ → Ident → Var
element_var v at array =
    record { kind = element_type (kind_named (known_in v) array.text); name = element_name at }

-- what is inside of it: the element moves into the variable, the method is called, and the element
-- moves back
pub record ExchangedCall (v : Visible) (at : ℕ) (back : Bool) (element : Lvalue) (method : Ident)
    (args : List Ident) (all : List Symbol) : Type 0 where
  pub first : List Symbol
  pub call : List Symbol
  pub last : List Symbol
  pub cells : all ≡ first ++ (call ++ last)
  pub swaps_in : SwapLaw (spot_of (known_in v)) (free_words_of (known_in v)) (Whole (element_name at))
      element first
  pub calls : CallLaw v back (Some (element_name at)) method args call
  pub swaps_out : SwapLaw (spot_of (known_in v)) (free_words_of (known_in v)) (Whole (element_name at))
      element last

-- a call or uncall on an element, whose names are not empty, that the rules of types pass
pub record ElementLaw (v : Visible) (at : ℕ) (back : Bool) (element : Lvalue) (method : Ident)
    (args : List Ident) (all : List Symbol) : Type 0 where
  pub law : (array : Ident) (index : Expression) → element ≡ Item array index
      → ReceiverIsPlain (Some element) args → IsAllowed v (Call at back (Some element) method args)
      → IsStatementCode v (Call at back (Some element) method args) all
