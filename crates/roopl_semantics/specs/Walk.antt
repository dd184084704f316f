-- The heap traversal: what a list of cells says about the blocks of its heap.
use Rattle.std.specs.Prelude.{ℕ, zero, suc, ◌+◌, ◌^◌, Bool, true, false, not, ◌&&◌, nat_eq, nat_lt}
use Rattle.std.specs.Prelude.{nat_le, List, [], ◌∷◌, ◌++◌, length, map, replicate, position, Option}
use Rattle.std.specs.Prelude.{Some, None, if◌then◌else◌}
use Rattle.std.specs.List.{list_any}
use Rattle.std.specs.Option.{unwrap_or}
use Rattle.inverse_rules.specs.rpp_tree.declared.tree.Var.{Var}
use Rattle.inverse_rules.specs.rpp_tree.declared.tree.VarType.{VarType}
use Rattle.inverse_rules.specs.rpp_tree.declared.tree.VarType.TheVariants as kind
use Rattle.inverse_rules.specs.rpp_tree.Tree.{Source}
use Rattle.class_rules.specs.Classes.{class_fields}
use Rattle.roopl_semantics.specs.Store.{Store}
use Rattle.roopl_semantics.specs.Source.{main_fields}
use Rattle.roopl_semantics.specs.Execution.{order_of_cells}
use Rattle.roopl_semantics.specs.Report.{Text, objects_shown, live_line, live_count}
use Rattle.code_conventions.specs.pisa_isa.declared.fixed.TheConstants.{ORDER_CELL, HEAP_CELL, STACK_CELL}
use Rattle.code_conventions.specs.pisa_isa.Machine.{word_at}
use Rattle.code_conventions.specs.pisa_isa.Loaded.{statics_at, head_cell}
use Rattle.code_conventions.specs.declared.memory.TheConstants.{HEADER_WORDS}
use Rattle.roopl_semantics.specs.Layout.{table_addresses, is_plain}

-- the order of the heap, its base and its end, as the fixed cells hold them
abbrev pub highest_order : List ℕ → ℕ
highest_order cells = word_at cells ORDER_CELL

abbrev pub heap_start : List ℕ → ℕ
heap_start cells = word_at cells HEAP_CELL

abbrev pub heap_end : List ℕ → ℕ
heap_end cells = word_at cells STACK_CELL

-- the addresses in a free list from this one on, at most so many
abbrev pub list_from : ℕ → List ℕ → ℕ → List ℕ
list_from zero cells address = []
list_from (suc steps) cells address =
    if nat_eq address 0 then [] else address ∷ list_from steps cells (word_at cells address)

-- the order of the list in which a block is free, among so many orders from this one on
abbrev pub free_order_from : ℕ → ℕ → List ℕ → ℕ → Option ℕ
free_order_from zero order cells address = None
free_order_from (suc orders) order cells address =
    if list_any (nat_eq address) (list_from (length cells) cells (word_at cells (head_cell order)))
    then Some order
    else free_order_from orders (order + 1) cells address

-- the order of the list in which a block is free
abbrev pub free_order : List ℕ → ℕ → Option ℕ
free_order cells address = free_order_from (highest_order cells) 1 cells address

-- the class whose table is at an address
abbrev pub class_with_table : Source → ℕ → Option ℕ
class_with_table program address = position (nat_eq address) (table_addresses program)

-- a reference: the address of a block, and the type by which it is reached
pub record Reference : Type 0 where
  pub at : ℕ
  pub type : VarType

abbrev pub types_of : List Var → List VarType
types_of vars = map (λ var. var.kind) vars

-- the types of the cells of what a reference of this type leads to, by its head word
abbrev pub cell_types : Source → VarType → ℕ → List VarType
cell_types program kind.Int head = []
cell_types program (kind.Class class) head =
    types_of (class_fields program (unwrap_or (class_with_table program head) 0))
cell_types program kind.IntArray head = replicate head kind.Int
cell_types program (kind.ClassArray class) head = replicate head (kind.Class class)

abbrev pub types_at : Source → List ℕ → Reference → List VarType
types_at program cells reference = cell_types program reference.type (word_at cells reference.at)

abbrev pub is_reference_type : VarType → Bool
is_reference_type kind.Int = false
is_reference_type _ = true

-- whether a cell of this type holds a reference to a block that is not yet met
abbrev pub is_new : List Reference → VarType → ℕ → Bool
is_new met type word = is_reference_type type && not (nat_eq word 0)
    && not (list_any (λ reference. nat_eq reference.at word) met)

-- the references in cells of these types from an address on to blocks that are not yet met, each
-- once
abbrev pub newly_reached : List ℕ → List Reference → ℕ → List VarType → List Reference
newly_reached cells met address [] = []
newly_reached cells met address (type ∷ types) =
    let reference : Reference = record { at = word_at cells address; type = type } in
    if is_new met type reference.at
    then reference ∷ newly_reached cells (reference ∷ met) (address + 1) types
    else newly_reached cells met (address + 1) types

-- the references met by walking the cells of the pending ones in turn, in at most so many steps
abbrev pub reached_within : ℕ → Source → List ℕ → List Reference → List Reference → List Reference
reached_within zero program cells met pending = met
reached_within (suc steps) program cells met [] = met
reached_within (suc steps) program cells met (reference ∷ pending) =
    let new =
    newly_reached cells met (reference.at + HEADER_WORDS) (types_at program cells reference) in
    reached_within steps program cells (met ++ new) (pending ++ new)

-- the references that are reached from the main object, in the order of their numbers
abbrev pub reached : Source → List ℕ → List Reference
reached program cells =
    let first =
    newly_reached cells [] (statics_at + HEADER_WORDS) (types_of (main_fields program)) in
    reached_within (length cells) program cells first first

-- the order that the type of a reached block needs
abbrev pub reached_order : Source → List ℕ → List Reference → ℕ → Option ℕ
reached_order program cells [] address = None
reached_order program cells (reference ∷ references) address =
    if nat_eq reference.at address
    then Some (order_of_cells (length (types_at program cells reference)))
    else reached_order program cells references address

-- the order that a head word needs: a class's table's address is an object's, any other word an
-- array's length
abbrev pub order_by_class : Source → ℕ → Option ℕ → ℕ
order_by_class program head (Some class) = order_of_cells (length (class_fields program class))
order_by_class program head None = order_of_cells head

abbrev pub head_order : Source → ℕ → ℕ
head_order program head = order_by_class program head (class_with_table program head)

-- a block that the walk meets
pub record Block : Type 0 where
  pub at : ℕ
  pub order : ℕ
  pub is_free : Bool

abbrev pub block_by : ℕ → Option ℕ → ℕ → Block
block_by address (Some order) other = record { at = address; order = order; is_free = true }
block_by address None other = record { at = address; order = other; is_free = false }

-- the block at an address: free, or of the order that its type needs, or that its head word needs
abbrev pub block_at : Source → List ℕ → ℕ → Block
block_at program cells address =
    block_by address (free_order cells address)
    (unwrap_or (reached_order program cells (reached program cells) address)
    (head_order program (word_at cells address)))

-- goes on after a block, unless its order is above the heap's
abbrev pub meets : List ℕ → Block → (ℕ → List Block) → List Block
meets cells block next = if nat_lt (highest_order cells) block.order then []
    else block ∷ next (block.at + 2 ^ block.order)

-- the blocks that the walk meets from an address on, at most so many
abbrev pub met_from : ℕ → Source → List ℕ → ℕ → List Block
met_from zero program cells address = []
met_from (suc steps) program cells address =
    if nat_le (heap_end cells) address then []
    else meets cells (block_at program cells address) (met_from steps program cells)

-- the blocks that the walk meets: it goes over the heap from its base, block by block
abbrev pub met_blocks : Source → List ℕ → List Block
met_blocks program cells = met_from (length cells) program cells (heap_start cells)

abbrev pub count_taken_blocks : List Block → ℕ
count_taken_blocks [] = 0
count_taken_blocks (block ∷ blocks) = (if block.is_free then 0 else 1) + count_taken_blocks blocks

-- how many blocks that are not free the walk meets
abbrev pub counted_live : Source → List ℕ → ℕ
counted_live program cells = count_taken_blocks (met_blocks program cells)

-- the number in the last line of a run's report: of live objects, or what the cells allow to count
-- if they hide an array
abbrev pub live_shown : Source → Store → List ℕ → ℕ
live_shown program store cells = if is_plain program store then live_count store
    else counted_live program cells

-- the report of a run that ended with this store and these cells
abbrev pub run_report : Source → Store → List ℕ → Text
run_report program store cells = objects_shown program store
    ++ live_line (live_shown program store cells)
