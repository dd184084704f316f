-- The cells of words, operators and checks, and of expressions whose subexpressions are in
-- registers.
use Rattle.std.specs.Prelude.{ℕ, ◌+◌, ◌<◌, ◌⊎◌, Bool, true, false, if◌then◌else◌, List, [], ◌∷◌}
use Rattle.std.specs.Prelude.{◌++◌}
use Rattle.code_scope.specs.rpp_tree.declared.tree.BinOp.{BinOp}
use Rattle.code_scope.specs.rpp_tree.declared.tree.BinOp.TheVariants as op
use Rattle.code_scope.specs.rpp_words.Words.{difference_of}
use Rattle.code_scope.specs.rpp_tree.Tree.{Expression, Number, Null, Variable, Element, Binary}
use Rattle.code_scope.specs.pisa_isa.declared.cell.Op.{Op}
use Rattle.code_scope.specs.pisa_isa.declared.cell.Op.TheVariants.{Add, Sub, Xor, Addi, Xori, Andx, Orx, Sltx}
use Rattle.code_scope.specs.pisa_isa.declared.cell.Op.TheVariants.{Exch}
use Rattle.code_scope.specs.code_conventions.declared.registers.TheConstants.{CONTENT, LEFT, LEFT_TRUTH}
use Rattle.code_scope.specs.code_conventions.declared.registers.TheConstants.{LINK, NOUGHT, OUTCOME}
use Rattle.code_scope.specs.code_conventions.declared.registers.TheConstants.{RIGHT, RIGHT_TRUTH, TRUTH}
use Rattle.code_scope.specs.paired_code.declared.part.Symbol.{Symbol}
use Rattle.code_scope.specs.paired_code.declared.part.Symbol.TheVariants.{Own}
use Rattle.code_scope.specs.paired_code.Layout.{check_equal_cells, check_positive_cells}
use Rattle.code_scope.specs.code_conventions.declared.memory.TheConstants.{HEADER_WORDS}
use Rattle.code_scope.specs.code_conventions.declared.faults.TheConstants.{NIL, INDEX}
use Rattle.code_scope.specs.refine_form.declared.spot.Spot.{Spot}
use Rattle.code_scope.specs.Visible.{offset_of}
use Rattle.register_expressions.specs.declared.held.Kind.{Kind}
use Rattle.register_expressions.specs.declared.held.Kind.TheVariants.{Changes, Gives, Joins}
use Rattle.register_expressions.specs.declared.held.Kind.TheVariants.{Neither}
use Rattle.register_expressions.specs.Held.{kind, past, need, told_need, left_at, right_at}
use Rattle.register_expressions.specs.Held.{is_variable, is_literal, literal_in, is_zero_literal, expression_spot}
use Rattle.register_expressions.specs.Held.{is_truth}
pub use Rattle.code_scope.specs.refine_form.Cells.{around, base_of}

-- a register that no code of expressions uses for itself
abbrev pub Target : ℕ → Type 0
Target r = (r < LINK) ⊎ (((OUTCOME < r) × (r < LEFT)) ⊎ ((TRUTH < r) × (r < 32)))

-- ---- cells

abbrev pub two : Op → (a b : ℕ) → Symbol
two op a b = Own (record { op = op; a = a; b = b; c = 0; imm = 0 })

abbrev pub three : Op → (a b c : ℕ) → Symbol
three op a b c = Own (record { op = op; a = a; b = b; c = c; imm = 0 })

abbrev pub with_word : Op → (a i : ℕ) → Symbol
with_word op a i = Own (record { op = op; a = a; b = 0; c = 0; imm = i })

abbrev pub add : (d s : ℕ) → Symbol
add d s = two Add d s

abbrev pub sub : (d s : ℕ) → Symbol
sub d s = two Sub d s

abbrev pub xor : (d s : ℕ) → Symbol
xor d s = two Xor d s

abbrev pub exch : (d s : ℕ) → Symbol
exch d s = two Exch d s

abbrev pub addi : (d w : ℕ) → Symbol
addi d w = with_word Addi d w

abbrev pub xori : (d w : ℕ) → Symbol
xori d w = with_word Xori d w

abbrev pub andx : (d s t : ℕ) → Symbol
andx d s t = three Andx d s t

abbrev pub orx : (d s t : ℕ) → Symbol
orx d s t = three Orx d s t

abbrev pub sltx : (d s t : ℕ) → Symbol
sltx d s t = three Sltx d s t

-- ---- words of memory

-- the base goes to a storage slot, whose word is then in `CONTENT`
abbrev pub reach_cells : Spot → List Symbol
reach_cells s = addi (base_of s) (offset_of s) ∷ exch CONTENT (base_of s) ∷ []

abbrev pub copy_cells : Spot → ℕ → List Symbol
copy_cells s into = around (reach_cells s) (xor into CONTENT ∷ [])

-- register r xored into the word
abbrev pub store_cells : Spot → ℕ → List Symbol
store_cells s r = around (reach_cells s) (xor CONTENT r ∷ [])

-- ---- one node

-- how many words of the frame an expression needs: one for each element and operator
abbrev pub words : Expression → ℕ
words (Number at word) = 0
words (Null at) = 0
words (Variable name) = 0
words (Element name index) = 1 + words index
words (Binary at op left right) = 1 + (words left + words right)

-- the truth value of register a in register t
abbrev pub truth_cells : (t a : ℕ) → List Symbol
truth_cells t a = sltx t NOUGHT a ∷ sltx t a NOUGHT ∷ []

-- an operator's result, from its operands
abbrev pub operator_cells : BinOp → List Symbol
operator_cells op.Add = add LEFT RIGHT ∷ []
operator_cells op.Sub = sub LEFT RIGHT ∷ []
operator_cells op.Xor = xor LEFT RIGHT ∷ []
operator_cells op.And = andx OUTCOME LEFT RIGHT ∷ []
operator_cells op.Or = orx OUTCOME LEFT RIGHT ∷ []
operator_cells op.AndAlso = truth_cells LEFT_TRUTH LEFT
    ++ (truth_cells RIGHT_TRUTH RIGHT ++ andx OUTCOME LEFT_TRUTH RIGHT_TRUTH ∷ [])
operator_cells op.OrElse = truth_cells LEFT_TRUTH LEFT
    ++ (truth_cells RIGHT_TRUTH RIGHT ++ orx OUTCOME LEFT_TRUTH RIGHT_TRUTH ∷ [])
operator_cells op.Less = sltx OUTCOME LEFT RIGHT ∷ []
operator_cells op.Greater = sltx OUTCOME RIGHT LEFT ∷ []
operator_cells op.AtMost = sltx OUTCOME RIGHT LEFT ∷ xori OUTCOME 1 ∷ []
operator_cells op.AtLeast = sltx OUTCOME LEFT RIGHT ∷ xori OUTCOME 1 ∷ []
operator_cells op.Equal = sltx OUTCOME LEFT RIGHT
    ∷ sltx OUTCOME RIGHT LEFT ∷ xori OUTCOME 1 ∷ []
operator_cells op.NotEqual = sltx OUTCOME LEFT RIGHT
    ∷ sltx OUTCOME RIGHT LEFT ∷ []
operator_cells op.Mul = []
operator_cells op.Div = []
operator_cells op.Rem = []

-- the register that has it
abbrev pub operator_result : BinOp → ℕ
operator_result op.Add = LEFT
operator_result op.Sub = LEFT
operator_result op.Xor = LEFT
operator_result _ = OUTCOME

-- a check that passed leaves its flag 0, so that nothing is to be undone after it

-- fault 5 if the array, an address, is nil
abbrev pub nil_check_of : (array : ℕ) → List Symbol
nil_check_of array = check_positive_cells array NIL

abbrev pub nil_check : List Symbol
nil_check = nil_check_of RIGHT

-- fault 9 if the index, without sign, is not below the array's length
abbrev pub index_check_of : (array index : ℕ) → List Symbol
index_check_of array index =
    around (exch CONTENT array ∷ []) (sltx OUTCOME index CONTENT
    ∷ sltx OUTCOME index NOUGHT ∷ xori OUTCOME 1 ∷ [] ++ check_equal_cells OUTCOME NOUGHT INDEX)

abbrev pub index_check : List Symbol
index_check = index_check_of RIGHT LEFT

-- the address of the element in the array's register
abbrev pub point_of : (array index : ℕ) → List Symbol
point_of array index = add array index ∷ addi array HEADER_WORDS ∷ []

abbrev pub point_cells : List Symbol
point_cells = point_of RIGHT LEFT

-- ---- parts in registers, over memory that stays as it is

-- the registers of parts, in order
abbrev pub part : ℕ → ℕ
part k = LEFT + k

abbrev pub change_cells : BinOp → (d s : ℕ) → List Symbol
change_cells op.Add d s = add d s ∷ []
change_cells op.Sub d s = sub d s ∷ []
change_cells _ d s = xor d s ∷ []

-- the same by a number
abbrev pub literal_cells : BinOp → (d word : ℕ) → List Symbol
literal_cells op.Add d word = addi d word ∷ []
literal_cells op.Sub d word = addi d (difference_of 0 word) ∷ []
literal_cells _ d word = xori d word ∷ []

-- the result xored into a register
abbrev pub give_cells : BinOp → (d a s : ℕ) → List Symbol
give_cells op.And d a s = andx d a s ∷ []
give_cells op.Or d a s = orx d a s ∷ []
give_cells op.AndAlso d a s = andx d a s ∷ []
give_cells op.OrElse d a s = orx d a s ∷ []
give_cells op.Less d a s = sltx d a s ∷ []
give_cells op.Greater d a s = sltx d s a ∷ []
give_cells op.AtMost d a s = sltx d s a ∷ xori d 1 ∷ []
give_cells op.AtLeast d a s = sltx d a s ∷ xori d 1 ∷ []
give_cells op.Equal d a s = sltx d a s ∷ sltx d s a ∷ xori d 1 ∷ []
give_cells op.NotEqual d a s = sltx d a s ∷ sltx d s a ∷ []
give_cells _ d a s = []

-- what comes before an operator, by the cells that open its operands: whether the right one is a
-- number that needs no register, and whether each is a variable
abbrev pub before : (z l r : Bool) → (w v : List Symbol) → List Symbol
before z l r w v = if z then (if l then [] else w)
    else (if r then w else (if l then v else w ++ v))

-- and the operator's cells with its operands: their spots and their registers
abbrev pub core : (z l r : Bool) → (x y : Spot) → (a s : ℕ) → (ℕ → ℕ → List Symbol) → List Symbol
core z l r x y a s mid =
    if z then (if l then around (reach_cells x) (mid CONTENT NOUGHT) else mid a NOUGHT)
    else (if r then around (reach_cells y) (mid a CONTENT)
    else (if l then around (reach_cells x) (mid CONTENT s) else mid a s))

-- the truth value of what was opened past register k, in that register; a truth is in it already
abbrev pub told_cells : Bool → List Symbol → (k : ℕ) → List Symbol
told_cells true w k = w
told_cells false w k = w ++ truth_cells (part k) (part (k + 1))

-- what opens an operator's operands over register k, by their cells
abbrev pub before_cells : Kind → (left right : Expression) → (w v : List Symbol) → (k : ℕ)
    → List Symbol
before_cells Changes left right w v k =
    before (is_literal right) false (is_variable right) w v
before_cells Gives left right w v k =
    before (is_zero_literal right) (is_variable left) (is_variable right) w v
before_cells Joins left right w v k = told_cells (is_truth left) w (k + 1)
    ++ told_cells (is_truth right) v (k + 1 + told_need left)
before_cells Neither left right w v k = []

abbrev pub operands_cells : Expression → (w v : List Symbol) → (k : ℕ) → List Symbol
operands_cells (Binary at o left right) w v k = before_cells (kind o) left right w v k
operands_cells _ w v k = []

module _ (spot : List ℕ → Spot) where
  -- the operator itself over register k
  abbrev pub core_cells : Kind → BinOp → (left right : Expression) → (k : ℕ) → List Symbol
  core_cells Changes o left right k =
      if is_literal right then literal_cells o (part k) (literal_in right)
      else core false false (is_variable right) (expression_spot spot left) (expression_spot spot right) (part k)
      (part (k + need left)) (λ a s. change_cells o a s)
  core_cells Gives o left right k = core (is_zero_literal right) (is_variable left) (is_variable right)
      (expression_spot spot left) (expression_spot spot right) (part (k + 1)) (part (k + 1 + need left))
      (λ a s. give_cells o (part k) a s)
  core_cells Joins o left right k =
      give_cells o (part k) (part (k + 1)) (part (k + 1 + told_need left))
  core_cells Neither o left right k = []

  abbrev pub operated_cells : Kind → BinOp → (left right : Expression) → (w v : List Symbol)
      → (k : ℕ) → List Symbol
  operated_cells c o left right w v k = before_cells c left right w v k
      ++ core_cells c o left right k

  -- the address of an element in register k + 1, by the cells that open its index in register k + 2
  abbrev pub element_cells : List ℕ → List Symbol → (k : ℕ) → List Symbol
  element_cells name w k = ((w ++ copy_cells (spot name) (part (k + 1)))
      ++ (nil_check_of (part (k + 1)) ++ index_check_of (part (k + 1)) (part (k + 2))))
      ++ point_of (part (k + 1)) (part (k + 2))

  -- the value of an expression in register k, which was 0 as those above it
  abbrev pub held_cells : Expression → (k : ℕ) → List Symbol
  held_cells (Number at word) k = xori (part k) word ∷ []
  held_cells (Null at) k = xori (part k) 0 ∷ []
  held_cells (Variable name) k = copy_cells (spot name.text) (part k)
  held_cells (Element name index) k = element_cells name.text (held_cells index (k + 2)) k
      ++ around (exch CONTENT (part (k + 1)) ∷ []) (xor (part k) CONTENT ∷ [])
  held_cells (Binary at o left right) k = operated_cells (kind o) o left right
      (held_cells left (left_at (kind o) (is_truth left) k))
      (held_cells right (right_at (kind o) (is_truth left) (is_truth right) (need left) k)) k

  -- ---- the value xored into a register: a leaf, or what an operator gives, goes there straight

  abbrev pub given_cells : Kind → BinOp → (left right : Expression) → Expression → (into : ℕ)
      → List Symbol
  given_cells Gives o left right e into =
      around (before (is_zero_literal right) (is_variable left) (is_variable right) (held_cells left 0)
      (held_cells right (need left)))
      (core (is_zero_literal right) (is_variable left) (is_variable right) (expression_spot spot left)
      (expression_spot spot right) (part 0) (part (need left)) (λ a s. give_cells o into a s))
  given_cells Joins o left right e into =
      around (told_cells (is_truth left) (held_cells left (past (is_truth left) 0)) 0
      ++ told_cells (is_truth right) (held_cells right (past (is_truth right) (told_need left)))
      (told_need left)) (give_cells o into (part 0) (part (told_need left)))
  given_cells _ o left right e into = around (held_cells e 0) (xor into (part 0) ∷ [])

  abbrev pub held_value_cells : Expression → (into : ℕ) → List Symbol
  held_value_cells (Binary at o left right) into =
      given_cells (kind o) o left right (Binary at o left right) into
  held_value_cells (Number at word) into = xori into word ∷ []
  held_value_cells (Variable name) into = copy_cells (spot name.text) into
  held_value_cells e into = around (held_cells e 0) (xor into (part 0) ∷ [])

  -- the truth value of a value: that of a variable while its word is out
  abbrev pub held_truth_cells : Expression → (into : ℕ) → List Symbol
  held_truth_cells e into = if is_variable e
      then around (reach_cells (expression_spot spot e)) (truth_cells into CONTENT)
      else around (held_cells e 0) (truth_cells into (part 0))

  -- and of any expression
  abbrev pub held_test_cells : Expression → (into : ℕ) → List Symbol
  held_test_cells e into = if is_truth e then held_value_cells e into else held_truth_cells e into
