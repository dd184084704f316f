-- The cells of `copy` and `uncopy`, `new` and `delete`: one fragment for both directions.
use Rattle.std.specs.Prelude.{ℕ, zero, suc, ◌+◌, ◌-◌, ◌^◌, false, List, [], ◌∷◌, ◌++◌, nat_le}
use Rattle.std.specs.Prelude.{if◌then◌else◌}
use Rattle.refine_heap.specs.rpp_words.Words.{negated}
use Rattle.refine_heap.specs.pisa_isa.declared.cell.Op.TheVariants.{Rl, Srlvx, Andix}
use Rattle.refine_heap.specs.code_conventions.declared.faults.TheConstants.{NOT_NIL, NIL, COUNT, NOT_EMPTY}
use Rattle.refine_heap.specs.code_conventions.declared.faults.TheConstants.{NOT_SAME, CLASS_DIFFERS}
use Rattle.refine_heap.specs.code_conventions.declared.faults.TheConstants.{LENGTH_DIFFERS, LENGTH}
use Rattle.refine_heap.specs.code_conventions.declared.memory.TheConstants.{COUNT_WORD, HEADER_WORDS}
use Rattle.refine_heap.specs.code_conventions.declared.registers.TheConstants.{VALUE, BLOCK, AMOUNT, CONTENT}
use Rattle.refine_heap.specs.code_conventions.declared.registers.TheConstants.{FIRST_WORD, LEFT_TRUTH, NOUGHT}
use Rattle.refine_heap.specs.code_conventions.declared.registers.TheConstants.{OTHER_PLACE, OUTCOME, PLACE}
use Rattle.refine_heap.specs.code_conventions.declared.registers.TheConstants.{RIGHT_TRUTH, AT_LENGTH, AT_PLACE}
use Rattle.refine_heap.specs.paired_code.declared.part.Symbol.{Symbol}
use Rattle.refine_heap.specs.paired_code.declared.part.Symbol.TheVariants.{Own, Enter}
use Rattle.refine_heap.specs.paired_code.Layout.{mirror_cells, check_equal_cells, check_differ_cells}
use Rattle.refine_heap.specs.paired_code.Layout.{check_positive_cells, loop_cells}
use Rattle.object_codegen.specs.declared.news.TheConstants.{FEW_FIELDS}
use Rattle.object_codegen.specs.declared.shape.Shape.{Shape}
use Rattle.object_codegen.specs.declared.shape.Shape.TheVariants.{Fixed, Lengthy}
use Rattle.expr_uncompute.specs.register_expressions.Code.{with_word, three, xor, add}
use Rattle.expr_uncompute.specs.register_expressions.Code.{exch, addi, xori, sltx, around}

-- ---- checks of a place

-- the word at the address in r is nil, or the fault
abbrev pub nil_place : (r code : ℕ) → List Symbol
nil_place r code = around (exch CONTENT r ∷ []) (check_equal_cells CONTENT NOUGHT code)

-- it is not nil, or the fault
abbrev pub some_place : (r code : ℕ) → List Symbol
some_place r code = around (exch CONTENT r ∷ []) (check_positive_cells CONTENT code)

-- ---- copies

-- the word at the address in r xored into `FIRST_WORD`
abbrev pub load_cells : ℕ → List Symbol
load_cells r = around (exch CONTENT r ∷ []) (xor FIRST_WORD CONTENT ∷ [])

-- the words at the two places are the same, and the places are two
abbrev pub same_words : List Symbol
same_words = around (load_cells PLACE ++ load_cells OTHER_PLACE)
    (check_equal_cells FIRST_WORD NOUGHT NOT_SAME)

abbrev pub two_places : List Symbol
two_places = check_differ_cells PLACE OTHER_PLACE NOT_SAME

-- what is tried before a copy, and before its inverse
abbrev pub copy_checks : List Symbol
copy_checks = some_place PLACE NIL ++ nil_place OTHER_PLACE NOT_NIL

abbrev pub uncopy_checks : List Symbol
uncopy_checks = some_place PLACE NIL ++ (same_words ++ two_places)

-- the reference xored into the second place
abbrev pub refer_cells : List Symbol
refer_cells = around (exch CONTENT OTHER_PLACE ∷ []) (xor CONTENT FIRST_WORD ∷ [])

-- one more variable has it
abbrev pub count_cells : List Symbol
count_cells = around (addi FIRST_WORD COUNT_WORD ∷ [])
    (around (exch CONTENT FIRST_WORD ∷ []) (addi CONTENT 1 ∷ []))

abbrev pub copy_alter : List Symbol
copy_alter = around (load_cells PLACE) (refer_cells ++ count_cells)

abbrev pub copy_mid : List Symbol
copy_mid = copy_checks ++ (copy_alter ++ mirror_cells uncopy_checks)

-- ---- objects and arrays

-- the first word of its block, xored into `CONTENT`; a length is in register r
abbrev pub mark_cell : ℕ → Shape → Symbol
mark_cell r (Fixed table fields) = xori CONTENT table
mark_cell r Lengthy = xor CONTENT r

abbrev pub mark_fault : Shape → ℕ
mark_fault (Fixed table fields) = CLASS_DIFFERS
mark_fault Lengthy = LENGTH_DIFFERS

-- the number of its cells added to register d
abbrev pub grow_cell : ℕ → Shape → Symbol
grow_cell d (Fixed table fields) = addi d fields
grow_cell d Lengthy = add d AMOUNT

-- the reference is not nil
abbrev pub some_reference : List Symbol
some_reference = check_positive_cells FIRST_WORD NIL

-- the first word of the block is what it is to be
abbrev pub same_mark : Shape → List Symbol
same_mark shape = around (exch CONTENT FIRST_WORD ∷ mark_cell AMOUNT shape ∷ [])
    (check_equal_cells CONTENT NOUGHT (mark_fault shape))

-- one variable has it
abbrev pub single : List Symbol
single = around (addi FIRST_WORD COUNT_WORD ∷ exch CONTENT FIRST_WORD ∷ xori CONTENT 1 ∷ [])
    (check_equal_cells CONTENT NOUGHT COUNT)

-- the flag turns if the word is past the first one, and if it is before the end
abbrev pub walk_head : List Symbol
walk_head = sltx OUTCOME LEFT_TRUTH FIRST_WORD ∷ sltx OUTCOME FIRST_WORD RIGHT_TRUTH ∷ []

abbrev pub walk_tail : List Symbol
walk_tail = nil_place FIRST_WORD NOT_EMPTY ++ addi FIRST_WORD 1 ∷ []

abbrev pub walk_cells : List Symbol
walk_cells = loop_cells OUTCOME walk_head walk_tail

-- where the cells begin and end
abbrev pub ends_cells : Shape → List Symbol
ends_cells shape =
    addi FIRST_WORD HEADER_WORDS ∷ xor LEFT_TRUTH FIRST_WORD ∷ xor RIGHT_TRUTH FIRST_WORD
    ∷ grow_cell RIGHT_TRUTH shape ∷ []

-- all cells are 0, in a walk
abbrev pub walked_cells : Shape → List Symbol
walked_cells shape = around (ends_cells shape)
    (around (xori OUTCOME 1 ∷ []) walk_cells ++ mirror_cells (grow_cell FIRST_WORD shape ∷ []))

-- a field is 0, by its number
abbrev pub field_cells : ℕ → List Symbol
field_cells number = around (addi FIRST_WORD (HEADER_WORDS + number) ∷ [])
    (nil_place FIRST_WORD NOT_EMPTY)

-- so many fields are 0, one after the other
abbrev pub fields_cells : ℕ → List Symbol
fields_cells zero = []
fields_cells (suc n) = fields_cells n ++ field_cells n

-- all cells are 0: few fields are tried one after the other, and others in a walk
abbrev pub zeros_cells : Shape → List Symbol
zeros_cells (Fixed table fields) = if nat_le fields FEW_FIELDS then fields_cells fields
    else walked_cells (Fixed table fields)
zeros_cells Lengthy = walked_cells Lengthy

-- what is tried before a delete
abbrev pub delete_checks : Shape → List Symbol
delete_checks shape = around (load_cells PLACE)
    (some_reference ++ (same_mark shape ++ (single ++ zeros_cells shape)))

-- the length is above 0
abbrev pub positive : List Symbol
positive = check_positive_cells AMOUNT LENGTH

-- what is tried before a new
abbrev pub new_checks : Shape → List Symbol
new_checks (Fixed table fields) = nil_place PLACE NOT_NIL
new_checks Lengthy = nil_place PLACE NOT_NIL ++ positive

-- the first word of a block, and the number of its cells, if a length is v
abbrev pub mark_of : ℕ → Shape → ℕ
mark_of v (Fixed table fields) = table
mark_of v Lengthy = v

abbrev pub block_size_of : ℕ → Shape → ℕ
block_size_of v (Fixed table fields) = fields
block_size_of v Lengthy = v

-- ---- the change

-- the allocator's registers, the place and the length while it is called
abbrev pub order : ℕ
order = VALUE

abbrev pub block : ℕ
block = BLOCK

-- the place and the length leave the registers that the allocator uses
abbrev pub move_cells : Shape → List Symbol
move_cells (Fixed table fields) = xor AT_PLACE PLACE ∷ xor PLACE AT_PLACE ∷ []
move_cells Lengthy = xor AT_PLACE PLACE ∷ xor PLACE AT_PLACE ∷ xor AT_LENGTH AMOUNT
    ∷ xor AMOUNT AT_LENGTH ∷ []

-- the block gets its first word and its count, and the place its address
abbrev pub fill_cells : Shape → List Symbol
fill_cells shape =
    mark_cell AT_LENGTH shape ∷ exch CONTENT block
    ∷ (around (addi block COUNT_WORD ∷ []) (xori CONTENT 1 ∷ exch CONTENT block ∷ [])
    ++ exch block AT_PLACE ∷ [])

-- the allocator is routine 0
abbrev pub new_alter : Shape → List Symbol → List Symbol
new_alter shape orders = around (move_cells shape ++ orders) (Enter 0 false ∷ fill_cells shape)

-- `new` along, `delete` back, with what finds the order
abbrev pub new_mid : Shape → List Symbol → List Symbol
new_mid shape orders = new_checks shape ++ (new_alter shape orders
    ++ mirror_cells (delete_checks shape))

-- ---- the order of an array's block

-- the length shifted right, and one bit of the order
abbrev pub shifted : ℕ
shifted = LEFT_TRUTH

abbrev pub one_bit : ℕ
one_bit = RIGHT_TRUTH

abbrev pub turn_left : (d n : ℕ) → Symbol
turn_left d n = with_word Rl d n

abbrev pub srlvx : (d s t : ℕ) → Symbol
srlvx d s t = three Srlvx d s t

abbrev pub andix : (d s w : ℕ) → Symbol
andix d s w = Own (record { op = Andix; a = d; b = s; c = 0; imm = w })

-- bit k of the order: whether the length is not below 2 to the order with this bit
abbrev pub order_bit : (k : ℕ) → List Symbol
order_bit k =
    around (addi order (2 ^ k) ∷ srlvx shifted AT_LENGTH order ∷ [])
    (sltx one_bit NOUGHT shifted ∷ [])
    ++ turn_left one_bit k ∷ add order one_bit ∷ andix one_bit order (2 ^ k) ∷ []

-- 1 and the logarithm of the block's last word's number, bit by bit
abbrev pub order_cells : List Symbol
order_cells =
    addi AT_LENGTH (HEADER_WORDS - 1) ∷ (order_bit 4
    ++ (order_bit 3 ++ (order_bit 2
    ++ (order_bit 1 ++ (order_bit 0
    ++ addi order 1 ∷ addi AT_LENGTH (negated (HEADER_WORDS - 1)) ∷ [])))))
