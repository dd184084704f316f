-- How many steps and cells expressions have whose subexpressions are in registers.
use Rattle.std.proofs.Common.{◌≡◌, ℕ, ◌+◌, ◌*◌, ◌<◌, ◌≤◌, Bool, true, false, List, [], ◌∷◌, ◌++◌, length, length-append}
use Rattle.std.proofs.Common.{refl, arith}
use Rattle.std.specs.Prelude.{nat_eq, nat_lt, ◌&&◌, ◌||◌, not, if◌then◌else◌}
use Rattle.std.proofs.lemmas.Bool.Decides.{nat_tests}
use Rattle.code_scope.specs.rpp_tree.declared.tree.BinOp.{BinOp}
use Rattle.code_scope.specs.rpp_tree.declared.tree.BinOp.TheVariants as op
use Rattle.code_scope.specs.rpp_tree.Tree.{Expression, Number, Null, Variable, Element, Binary, nodes}
use Rattle.code_scope.specs.paired_code.declared.part.Symbol.{Symbol}
use Rattle.code_scope.specs.paired_code.Layout.{mirror_cells}
use Rattle.code_scope.proofs.paired_code_laws.Mirrored.{length_mirror}
use Rattle.code_scope.specs.refine_form.declared.spot.Spot.{Spot}
use Rattle.register_expressions.specs.Code
use Rattle.register_expressions.specs.declared.held.Kind.{Kind}
use Rattle.register_expressions.specs.declared.held.Kind.TheVariants.{Changes, Gives, Joins, Neither}
use Rattle.register_expressions.specs.Held.{kind, own, need, told_need, left_at, right_at, is_held, is_near}
use Rattle.register_expressions.specs.Held.{is_variable, has_parts, has_element, is_opened_once, is_near_index}
use Rattle.register_expressions.specs.Held.{is_literal, literal_in, is_zero_literal, expression_spot, past, is_truth}
use Rattle.register_expressions.specs.Steps.{operator_steps, before_steps, core_steps, told_steps, operated_steps}
use Rattle.register_expressions.specs.Steps.{held_steps, given_steps}
use Rattle.register_expressions.specs.Steps.{held_value_steps, held_truth_steps, held_test_steps, token_count}
use Rattle.code_scope.specs.code_conventions.declared.registers.TheConstants.{CONTENT, NOUGHT}

pub some_nodes : (e : Expression) → 1 ≤ nodes e
some_nodes (Number at word) = omega arith
some_nodes (Null at) = omega arith
some_nodes (Variable name) = omega arith
some_nodes (Element name index) = omega arith
some_nodes (Binary at o left right) = omega arith

pub operator_most : (o : BinOp) → operator_steps o ≤ 5
operator_most op.Add = omega arith
operator_most op.Sub = omega arith
operator_most op.Xor = omega arith
operator_most op.And = omega arith
operator_most op.Or = omega arith
operator_most op.AndAlso = omega arith
operator_most op.OrElse = omega arith
operator_most op.Less = omega arith
operator_most op.Greater = omega arith
operator_most op.AtMost = omega arith
operator_most op.AtLeast = omega arith
operator_most op.Equal = omega arith
operator_most op.NotEqual = omega arith
operator_most _ = omega arith

pub length_around : (w mid : List Symbol) → length (Code.around w mid) ≡ length w + (length mid + length w)
length_around w mid = omega (
  arith,
  length-append w (mid ++ mirror_cells w),
  length-append mid (mirror_cells w),
  length_mirror w,
)

-- an operand needs a register
pub need_least : (e : Expression) → 1 ≤ need e
need_least (Number at word) = omega arith
need_least (Null at) = omega arith
need_least (Variable name) = omega arith
need_least (Element name index) = omega arith
need_least (Binary at o left right) = let a = need_least left in omega arith

-- if there are enough registers
pub held_few : (e : Expression) → is_held e ≡ true → need e < 10
held_few (Number at word) q = omega arith
held_few (Null at) q = absurd (cc)
held_few (Variable name) q = omega arith
held_few (Element name index) q = by (nat_lt (need (Element name index)) 10) (has_parts index) refl q
  where
    by : (p r : Bool) → nat_lt (need (Element name index)) 10 ≡ p → p && r ≡ true → need (Element name index) < 10
    by true r u z = grind (arith, nat_tests)
    by false r u z = absurd (cc)
held_few (Binary at o left right) q = grind (arith, nat_tests)

pub neither_left : (p q : Bool) → p || q ≡ false → p ≡ false
neither_left true q e = absurd (cc)
neither_left false q e = refl

pub neither_right : (p q : Bool) → p || q ≡ false → q ≡ false
neither_right true q e = absurd (cc)
neither_right false q e = e

pub once_few : (e : Expression) → is_opened_once e ≡ true → (need e < 10) × (has_element e ≡ false)
once_few e q = by (is_held e) (has_element e) refl refl q
  where
    by : (p r : Bool) → is_held e ≡ p → has_element e ≡ r → p && not r ≡ true → (need e < 10) × (has_element e ≡ false)
    by true false u w z = (held_few e u, w)
    by true true u w z = absurd (cc)
    by false r u w z = absurd (cc)

pub near_few : (index e : Expression) → is_near index e ≡ true
    → (2 + need index + need e < 10) × (has_element e ≡ false) × (has_element index ≡ false)
near_few index e q = by (nat_lt (2 + need index + need e) 10) (has_element e) (has_element index) refl refl refl q
  where
    by : (p r t : Bool) → nat_lt (2 + need index + need e) 10 ≡ p → has_element e ≡ r → has_element index ≡ t
        → (p && not r) && not t ≡ true
        → (2 + need index + need e < 10) × (has_element e ≡ false) × (has_element index ≡ false)
    by true false false u w v z = (grind (arith, nat_tests), w, v)
    by true false true u w v z = absurd (cc)
    by true true t u w v z = absurd (cc)
    by false r t u w v z = absurd (cc)

pub near_index_few : (index : Expression) → is_near_index index ≡ true → has_element index ≡ false
near_index_few index q = by (has_element index) refl q
  where
    by : (t : Bool) → has_element index ≡ t → not t ≡ true → has_element index ≡ false
    by true e z = absurd (cc)
    by false e z = e

-- ---- steps at most

before_most : (z l r : Bool) (w v : ℕ) → before_steps z l r w v ≤ w + v
before_most true true r w v = omega arith
before_most true false r w v = omega arith
before_most false true true w v = omega arith
before_most false false true w v = omega arith
before_most false true false w v = omega arith
before_most false false false w v = omega arith

core_most : (z l r : Bool) (m : ℕ) → core_steps z l r m ≤ m + 4
core_most true true r m = omega arith
core_most true false r m = omega arith
core_most false true true m = omega arith
core_most false false true m = omega arith
core_most false true false m = omega arith
core_most false false false m = omega arith

literal_most : (z : Bool) (m : ℕ) → (if z then 1 else m) ≤ m + 1
literal_most true m = omega arith
literal_most false m = omega arith

told_most : (p : Bool) (w : ℕ) → told_steps p w ≤ w + 2
told_most true w = omega arith
told_most false w = omega arith

told_least : (p : Bool) (w : ℕ) → w ≤ told_steps p w
told_least true w = omega arith
told_least false w = omega arith

pub operated_most : (c : Kind) (o : BinOp) (left right : Expression) (w v : ℕ)
    → operated_steps c o left right w v ≤ w + v + 10
operated_most Joins o left right w v =
    let a = told_most (is_truth left) w in let c = told_most (is_truth right) v in omega arith
operated_most Changes o left right w v =
    let a = operator_most o in
    let c = before_most (is_literal right) false (is_variable right) w v in
    let e = core_most false false (is_variable right) (operator_steps o) in
    let d = literal_most (is_literal right) (core_steps false false (is_variable right) (operator_steps o)) in
    omega arith
operated_most Gives o left right w v =
    let a = operator_most o in
    let c = before_most (is_zero_literal right) (is_variable left) (is_variable right) w v in
    let e = core_most (is_zero_literal right) (is_variable left) (is_variable right) (operator_steps o) in
    omega arith
operated_most Neither o left right w v = omega arith

pub held_most : (e : Expression) → held_steps e ≤ 26 * nodes e
held_most (Number at word) = omega arith
held_most (Null at) = omega arith
held_most (Variable name) = omega arith
held_most (Element name index) = let a = held_most index in omega arith
held_most (Binary at o left right) =
    let a = held_most left in
    let c = held_most right in
    let p = operated_most (kind o) o left right (held_steps left) (held_steps right) in
    omega arith

given_most : (at : ℕ) (c : Kind) (o : BinOp) (left right : Expression)
    → given_steps c o left right (held_steps (Binary at o left right)) ≤ 52 * nodes (Binary at o left right) + 9
given_most at Changes o left right = let a = held_most (Binary at o left right) in omega arith
given_most at Neither o left right = let a = held_most (Binary at o left right) in omega arith
given_most at Joins o left right =
    let a = held_most left in
    let c = held_most right in
    let d = told_most (is_truth left) (held_steps left) in
    let e = told_most (is_truth right) (held_steps right) in
    omega arith
given_most at Gives o left right =
    let a = held_most left in
    let c = held_most right in
    let d = operator_most o in
    let p = before_most (is_zero_literal right) (is_variable left) (is_variable right) (held_steps left)
    (held_steps right) in
    let q = core_most (is_zero_literal right) (is_variable left) (is_variable right) (operator_steps o) in
    omega arith

value_most : (e : Expression) → held_value_steps e ≤ 52 * nodes e + 9
value_most (Number at word) = omega arith
value_most (Null at) = omega arith
value_most (Variable name) = omega arith
value_most (Element name index) = let a = held_most (Element name index) in omega arith
value_most (Binary at o left right) = given_most at (kind o) o left right

pub held_value_most : (e : Expression) → held_value_steps e ≤ 162 * nodes e
held_value_most e = let a = value_most e in let c = some_nodes e in omega arith

pub held_test_most : (e : Expression) → held_test_steps e ≤ 162 * nodes e
held_test_most e = by (is_truth e)
  where
    told : (t : Bool) → (if t then 6 else (held_steps e + (2 + held_steps e))) ≤ 162 * nodes e
    told true = let c = some_nodes e in omega arith
    told false = let a = held_most e in let c = some_nodes e in omega arith

    by : (t : Bool) → (if t then held_value_steps e else held_truth_steps e) ≤ 162 * nodes e
    by true = held_value_most e
    by false = told (is_variable e)

-- ---- and at least: one for two nodes, so one for each there and back

-- an operand that needs no cells is one node
abbrev one_node : (t : Bool) (n : ℕ) → Type 0
one_node true n = n ≡ 1
one_node false n = Unit {0}

variable_node : (e : Expression) → one_node (is_variable e) (nodes e)
variable_node (Number at word) = tt
variable_node (Null at) = tt
variable_node (Variable name) = refl
variable_node (Element name index) = tt
variable_node (Binary at o left right) = tt

literal_node : (e : Expression) → one_node (is_literal e) (nodes e)
literal_node (Number at word) = refl
literal_node (Null at) = tt
literal_node (Variable name) = tt
literal_node (Element name index) = tt
literal_node (Binary at o left right) = tt

zero_node : (e : Expression) → one_node (is_zero_literal e) (nodes e)
zero_node (Number at word) = by (nat_eq word 0)
  where
    by : (t : Bool) → one_node t 1
    by true = refl
    by false = tt
zero_node (Null at) = refl
zero_node (Variable name) = tt
zero_node (Element name index) = tt
zero_node (Binary at o left right) = tt

both_least : (z l r : Bool) (w v a c m : ℕ) → one_node z c → one_node l a → one_node r c → a + 1 ≤ 2 * w
    → c + 1 ≤ 2 * v → 1 ≤ m → a + c + 2 ≤ 2 * (before_steps z l r w v + core_steps z l r m)
both_least true true r w v a c m i j k g h n = omega arith
both_least true false r w v a c m i j k g h n = omega arith
both_least false true true w v a c m i j k g h n = omega arith
both_least false false true w v a c m i j k g h n = omega arith
both_least false true false w v a c m i j k g h n = omega arith
both_least false false false w v a c m i j k g h n = omega arith

-- there and back, with a middle
around_least : (z l r : Bool) (w v a c m : ℕ) → one_node z c → one_node l a → one_node r c → a + 1 ≤ 2 * w
    → c + 1 ≤ 2 * v → 1 ≤ m
    → a + c + 1 ≤ before_steps z l r w v + (core_steps z l r m + before_steps z l r w v)
around_least true true r w v a c m i j k g h n = omega arith
around_least true false r w v a c m i j k g h n = omega arith
around_least false true true w v a c m i j k g h n = omega arith
around_least false false true w v a c m i j k g h n = omega arith
around_least false true false w v a c m i j k g h n = omega arith
around_least false false false w v a c m i j k g h n = omega arith

literal_least : (z r : Bool) (w v a c m : ℕ) → one_node z c → one_node r c → a + 1 ≤ 2 * w → c + 1 ≤ 2 * v → 1 ≤ m
    → a + c + 2 ≤ 2 * (before_steps z false r w v + (if z then 1 else core_steps false false r m))
literal_least true r w v a c m i k g h n = omega arith
literal_least false r w v a c m i k g h n = both_least false false r w v a c m tt tt k g h n

operator_least : (o : BinOp) → own (kind o) true true < 10 → 1 ≤ operator_steps o
operator_least op.Add h = omega arith
operator_least op.Sub h = omega arith
operator_least op.Xor h = omega arith
operator_least op.And h = omega arith
operator_least op.Or h = omega arith
operator_least op.AndAlso h = omega arith
operator_least op.OrElse h = omega arith
operator_least op.Less h = omega arith
operator_least op.Greater h = omega arith
operator_least op.AtMost h = omega arith
operator_least op.AtLeast h = omega arith
operator_least op.Equal h = omega arith
operator_least op.NotEqual h = omega arith
operator_least op.Mul h = absurd (omega arith)
operator_least op.Div h = absurd (omega arith)
operator_least op.Rem h = absurd (omega arith)

-- no such operator needs more registers than there are
own_some : (c : Kind) (p q : Bool) → own c p q < 10 → own c true true < 10
own_some Changes p q h = omega arith
own_some Gives p q h = omega arith
own_some Joins p q h = omega arith
own_some Neither p q h = absurd (omega arith)

operated_least : (c : Kind) (o : BinOp) (left right : Expression) (w v : ℕ) → own c true true < 10
    → 1 ≤ operator_steps o → nodes left + 1 ≤ 2 * w → nodes right + 1 ≤ 2 * v
    → nodes left + nodes right + 2 ≤ 2 * operated_steps c o left right w v
operated_least Changes o left right w v f l h k = literal_least (is_literal right) (is_variable right) w v (nodes left)
    (nodes right) (operator_steps o) (literal_node right) (variable_node right) h k l
operated_least Gives o left right w v f l h k = both_least (is_zero_literal right) (is_variable left)
    (is_variable right) w v
    (nodes left) (nodes right) (operator_steps o) (zero_node right) (variable_node left) (variable_node right) h k l
operated_least Joins o left right w v f l h k =
    let a = told_least (is_truth left) w in
    let c = told_least (is_truth right) v in
    omega arith
operated_least Neither o left right w v f l h k = absurd (omega arith)

pub held_least : (e : Expression) → need e < 10 → nodes e + 1 ≤ 2 * held_steps e
held_least (Number at word) h = omega arith
held_least (Null at) h = omega arith
held_least (Variable name) h = omega arith
held_least (Element name index) h = let a = held_least index (omega arith) in omega arith
held_least (Binary at o left right) h =
    let s = own_some (kind o) (is_truth left) (is_truth right) (omega arith) in
    let a = operated_least (kind o) o left right (held_steps left) (held_steps right) s
    (operator_least o s) (held_least left (omega arith)) (held_least right (omega arith)) in
    omega arith

given_least : (at : ℕ) (o : BinOp) (left right : Expression) → need (Binary at o left right) < 10 → (c : Kind)
    → nodes (Binary at o left right) ≤ given_steps c o left right (held_steps (Binary at o left right))
given_least at o left right h Changes = let a = held_least (Binary at o left right) h in omega arith
given_least at o left right h Neither = let a = held_least (Binary at o left right) h in omega arith
given_least at o left right h Joins =
    let a = held_least left (omega arith) in
    let c = held_least right (omega arith) in
    let d = told_least (is_truth left) (held_steps left) in
    let e = told_least (is_truth right) (held_steps right) in
    omega arith
given_least at o left right h Gives =
    let s = own_some (kind o) (is_truth left) (is_truth right) (omega arith) in
    let a = around_least (is_zero_literal right) (is_variable left) (is_variable right) (held_steps left)
    (held_steps right)
    (nodes left) (nodes right) (operator_steps o) (zero_node right) (variable_node left) (variable_node right)
    (held_least left (omega arith)) (held_least right (omega arith)) (operator_least o s) in
    omega arith

pub held_value_least : (e : Expression) → need e < 10 → nodes e ≤ held_value_steps e
held_value_least (Number at word) h = omega arith
held_value_least (Null at) h = omega arith
held_value_least (Variable name) h = omega arith
held_value_least (Element name index) h =
    let a = held_least (Element name index) h in omega arith
held_value_least (Binary at o left right) h = given_least at o left right h (kind o)

pub held_test_least : (e : Expression) → need e < 10 → nodes e ≤ held_test_steps e
held_test_least e h = by (is_truth e)
  where
    told : (t : Bool) → one_node t (nodes e) → nodes e ≤ (if t then 6 else (held_steps e + (2 + held_steps e)))
    told true one = omega arith
    told false one = let a = held_least e h in omega arith

    by : (t : Bool) → nodes e ≤ (if t then held_value_steps e else held_truth_steps e)
    by true = held_value_least e h
    by false = told (is_variable e) (variable_node e)

-- ---- cells

some_tokens : (e : Expression) → 1 ≤ token_count e
some_tokens (Number at word) = omega arith
some_tokens (Null at) = omega arith
some_tokens (Variable name) = omega arith
some_tokens (Element name index) = omega arith
some_tokens (Binary at o left right) = omega arith

change_length : (o : BinOp) (d s : ℕ) → length (Code.change_cells o d s) ≤ 3
change_length op.Add d s = omega arith
change_length op.Sub d s = omega arith
change_length _ d s = omega arith

give_length : (o : BinOp) (d a s : ℕ) → length (Code.give_cells o d a s) ≤ 3
give_length op.And d a s = omega arith
give_length op.Or d a s = omega arith
give_length op.AndAlso d a s = omega arith
give_length op.OrElse d a s = omega arith
give_length op.Less d a s = omega arith
give_length op.Greater d a s = omega arith
give_length op.AtMost d a s = omega arith
give_length op.AtLeast d a s = omega arith
give_length op.Equal d a s = omega arith
give_length op.NotEqual d a s = omega arith
give_length _ d a s = omega arith

literal_length : (o : BinOp) (d word : ℕ) → length (Code.literal_cells o d word) ≤ 3
literal_length op.Add d word = omega arith
literal_length op.Sub d word = omega arith
literal_length _ d word = omega arith

before_length : (z l r : Bool) (w v : List Symbol) → length (Code.before z l r w v) ≤ length w + length v
before_length true true r w v = omega arith
before_length true false r w v = omega arith
before_length false true true w v = omega arith
before_length false false true w v = omega arith
before_length false true false w v = omega arith
before_length false false false w v = omega (arith, length-append w v)

told_length : (p : Bool) (w : List Symbol) (k : ℕ) → length (Code.told_cells p w k) ≤ length w + 2
told_length true w k = omega arith
told_length false w k = omega (arith, length-append w (Code.truth_cells (Code.part k) (Code.part (k + 1))))

module _ (spot : List ℕ → Spot) where
  core_length : (z l r : Bool) (x y : Spot) (a s : ℕ) (mid : ℕ → ℕ → List Symbol)
      → ((a s : ℕ) → length (mid a s) ≤ 3) → length (Code.core z l r x y a s mid) ≤ 7
  core_length true true r x y a s mid h = let k = h CONTENT NOUGHT in
      omega (arith, length_around (Code.reach_cells x) (mid CONTENT NOUGHT))
  core_length true false r x y a s mid h = let k = h a NOUGHT in omega arith
  core_length false true true x y a s mid h = let k = h a CONTENT in
      omega (arith, length_around (Code.reach_cells y) (mid a CONTENT))
  core_length false false true x y a s mid h = let k = h a CONTENT in
      omega (arith, length_around (Code.reach_cells y) (mid a CONTENT))
  core_length false true false x y a s mid h = let k = h CONTENT s in
      omega (arith, length_around (Code.reach_cells x) (mid CONTENT s))
  core_length false false false x y a s mid h = let k = h a s in omega arith

  changed_length : (z : Bool) (o : BinOp) (d word : ℕ) (rest : List Symbol) → length rest ≤ 7
      → length (if z then Code.literal_cells o d word else rest) ≤ 7
  changed_length true o d word rest h = let a = literal_length o d word in omega arith
  changed_length false o d word rest h = h

  operated_length : (c : Kind) (o : BinOp) (left right : Expression) (w v : List Symbol) (k : ℕ)
      → length (Code.operated_cells spot c o left right w v k) ≤ length w + length v + 7
  operated_length Changes o left right w v k =
      let p = Code.before (is_literal right) false (is_variable right) w v in
      let c = Code.core false false (is_variable right) (expression_spot spot left) (expression_spot spot right)
      (Code.part k)
      (Code.part (k + need left)) (λ a s. Code.change_cells o a s) in
      let q = if is_literal right then Code.literal_cells o (Code.part k) (literal_in right) else c in
      let a = before_length (is_literal right) false (is_variable right) w v in
      let d = changed_length (is_literal right) o (Code.part k) (literal_in right) c
      (core_length false false (is_variable right) (expression_spot spot left) (expression_spot spot right)
      (Code.part k)
      (Code.part (k + need left)) (λ a s. Code.change_cells o a s) (λ a s. change_length o a s)) in
      omega (arith, length-append p q)
  operated_length Gives o left right w v k =
      let p = Code.before (is_zero_literal right) (is_variable left) (is_variable right) w v in
      let q = Code.core (is_zero_literal right) (is_variable left) (is_variable right) (expression_spot spot left)
      (expression_spot spot right)
      (Code.part (k + 1)) (Code.part (k + 1 + need left)) (λ a s. Code.give_cells o (Code.part k) a s) in
      let a = before_length (is_zero_literal right) (is_variable left) (is_variable right) w v in
      let c = core_length (is_zero_literal right) (is_variable left) (is_variable right) (expression_spot spot left)
      (expression_spot spot right) (Code.part (k + 1)) (Code.part (k + 1 + need left))
      (λ a s. Code.give_cells o (Code.part k) a s) (λ a s. give_length o (Code.part k) a s) in
      omega (arith, length-append p q)
  operated_length Joins o left right w v k =
      let x = Code.told_cells (is_truth left) w (k + 1) in
      let y = Code.told_cells (is_truth right) v (k + 1 + told_need left) in
      let z = Code.give_cells o (Code.part k) (Code.part (k + 1)) (Code.part (k + 1 + told_need left)) in
      let a = told_length (is_truth left) w (k + 1) in
      let c = told_length (is_truth right) v (k + 1 + told_need left) in
      let d = give_length o (Code.part k) (Code.part (k + 1)) (Code.part (k + 1 + told_need left)) in
      omega (arith, length-append (x ++ y) z, length-append x y)
  operated_length Neither o left right w v k = omega arith

  -- the address of an element
  pub element_length : (name : List ℕ) (w : List Symbol) (k : ℕ)
      → length (Code.element_cells spot name w k) ≡ length w + 18
  element_length name w k =
      let i = Code.part (k + 2) in
      let a = Code.part (k + 1) in
      let c = Code.copy_cells (spot name) a in
      let x = Code.nil_check_of a in
      let y = Code.index_check_of a i in
      omega (
        arith,
        length-append ((w ++ c) ++ (x ++ y)) (Code.point_of a i),
        length-append (w ++ c) (x ++ y),
        length-append w c,
        length-append x y,
        length_around (Code.reach_cells (spot name)) (Code.xor a CONTENT ∷ []),
      )

  pub held_length : (e : Expression) (k : ℕ) → length (Code.held_cells spot e k) ≤ 12 * token_count e
  held_length (Number at word) k = omega arith
  held_length (Null at) k = omega arith
  held_length (Variable name) k = omega (
    arith,
    length_around (Code.reach_cells (spot name.text))
        (Code.xor (Code.part k) CONTENT ∷ []),
  )
  held_length (Element name index) k =
      let w = Code.held_cells spot index (k + 2) in
      let a = Code.part (k + 1) in
      let last = Code.around (Code.exch CONTENT a ∷ []) (Code.xor (Code.part k) CONTENT ∷ []) in
      let h = held_length index (k + 2) in
      omega (
        arith,
        length-append (Code.element_cells spot name.text w k) last,
        element_length name.text w k,
        length_around (Code.exch CONTENT a ∷ []) (Code.xor (Code.part k) CONTENT ∷ []),
      )
  held_length (Binary at o left right) k =
      let i : ℕ = left_at (kind o) (is_truth left) k in
      let j : ℕ = right_at (kind o) (is_truth left) (is_truth right) (need left) k in
      let a = held_length left i in
      let c = held_length right j in
      let p = operated_length (kind o) o left right (Code.held_cells spot left i) (Code.held_cells spot right j) k in
      omega arith

  plain_length : (e : Expression) (into : ℕ)
      → length (Code.around (Code.held_cells spot e 0) (Code.xor into (Code.part 0) ∷ [])) ≤ 58 * token_count e
  plain_length e into =
      let a = held_length e 0 in
      let t = some_tokens e in
      omega (arith, length_around (Code.held_cells spot e 0) (Code.xor into (Code.part 0) ∷ []))

  given_length : (at : ℕ) (c : Kind) (o : BinOp) (left right : Expression) (into : ℕ)
      → length (Code.given_cells spot c o left right (Binary at o left right) into)
      ≤ 58 * token_count (Binary at o left right)
  given_length at Changes o left right into = plain_length (Binary at o left right) into
  given_length at Neither o left right into = plain_length (Binary at o left right) into
  given_length at Joins o left right into =
      let w = Code.held_cells spot left (past (is_truth left) 0) in
      let v = Code.held_cells spot right (past (is_truth right) (told_need left)) in
      let x = Code.told_cells (is_truth left) w 0 in
      let y = Code.told_cells (is_truth right) v (told_need left) in
      let z = Code.give_cells o into (Code.part 0) (Code.part (told_need left)) in
      let a = held_length left (past (is_truth left) 0) in
      let c = held_length right (past (is_truth right) (told_need left)) in
      let d = told_length (is_truth left) w 0 in
      let e = told_length (is_truth right) v (told_need left) in
      let g = give_length o into (Code.part 0) (Code.part (told_need left)) in
      omega (arith, length_around (x ++ y) z, length-append x y)
  given_length at Gives o left right into =
      let w = Code.held_cells spot left 0 in
      let v = Code.held_cells spot right (need left) in
      let p = Code.before (is_zero_literal right) (is_variable left) (is_variable right) w v in
      let q = Code.core (is_zero_literal right) (is_variable left) (is_variable right) (expression_spot spot left)
      (expression_spot spot right)
      (Code.part 0) (Code.part (need left)) (λ a s. Code.give_cells o into a s) in
      let a = held_length left 0 in
      let c = held_length right (need left) in
      let d = before_length (is_zero_literal right) (is_variable left) (is_variable right) w v in
      let e = core_length (is_zero_literal right) (is_variable left) (is_variable right) (expression_spot spot left)
      (expression_spot spot right) (Code.part 0) (Code.part (need left)) (λ a s. Code.give_cells o into a s)
      (λ a s. give_length o into a s) in
      omega (arith, length_around p q)

  pub held_value_length : (e : Expression) (into : ℕ)
      → length (Code.held_value_cells spot e into) ≤ 58 * token_count e
  held_value_length (Number at word) into = omega arith
  held_value_length (Null at) into = plain_length (Null at) into
  held_value_length (Variable name) into = omega (
    arith,
    length_around (Code.reach_cells (spot name.text)) (Code.xor into CONTENT ∷ []),
  )
  held_value_length (Element name index) into = plain_length (Element name index) into
  held_value_length (Binary at o left right) into = given_length at (kind o) o left right into

  pub held_test_length : (e : Expression) (into : ℕ) → length (Code.held_test_cells spot e into) ≤ 58 * token_count e
  held_test_length e into = by (is_truth e)
    where
      told : (t : Bool) → length (if t
          then Code.around (Code.reach_cells (expression_spot spot e)) (Code.truth_cells into CONTENT)
          else Code.around (Code.held_cells spot e 0) (Code.truth_cells into (Code.part 0))) ≤ 58 * token_count e
      told true =
          let t = some_tokens e in
          omega (arith, length_around (Code.reach_cells (expression_spot spot e)) (Code.truth_cells into CONTENT))
      told false =
          let a = held_length e 0 in
          let t = some_tokens e in
          omega (arith, length_around (Code.held_cells spot e 0) (Code.truth_cells into (Code.part 0)))

      by : (t : Bool) → length (if t then Code.held_value_cells spot e into
          else Code.held_truth_cells spot e into) ≤ 58 * token_count e
      by true = held_value_length e into
      by false = told (is_variable e)
