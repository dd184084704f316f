-- Worked programs with copied arrays: the elements that a statement changes and those that it reads.
use Rattle.std.specs.Prelude.{◌≡◌, false, [], ◌∷◌, Some, None, codes}
use Rattle.std.specs.Fmt.{digits}
use Rattle.std.proofs.Common.{refl}
use Rattle.inverse_rules.specs.rpp_tree.declared.tree.VarType.TheVariants as kind
use Rattle.inverse_rules.specs.rpp_tree.declared.tree.UpdateOp.TheVariants as update
use Rattle.inverse_rules.specs.rpp_tree.declared.tree.BinOp.TheVariants as op
use Rattle.inverse_rules.specs.rpp_tree.Tree.{Number, Null, Element, Binary, Whole, Item, Object as AnObject, Ints, Objects, Update}
use Rattle.inverse_rules.specs.rpp_tree.Tree.{Swap, New, Delete, Copy, Uncopy, Call, Source}
use Rattle.roopl_semantics.proofs.Testing.{named, var, procedure, class_text, block, program, Finished, Faulted}
use Rattle.roopl_semantics.proofs.Testing.{Unfinished, lines, ending}

-- `class P int[] a int[] b method main() new int[2] a copy int[] a b a[0] += 3 b[1] += 4`
abbrev pub two_names-text : Source
two_names-text = program (class_text (named 6 (codes "P")) None
    ((var kind.IntArray (named 14 (codes "a"))) ∷ (var kind.IntArray (named 22 (codes "b"))) ∷ [])
    (procedure (named 31 (codes "main")) [] (block ((New 38 (Ints (Number 46 2)) (Whole (named 49 (codes "a"))))
    ∷ (Copy 51 kind.IntArray (Whole (named 62 (codes "a"))) (Whole (named 64 (codes "b"))))
    ∷ (Update 66 update.Add (Item (named 66 (codes "a")) (Number 68 0)) (Number 74 3))
    ∷ (Update 76 update.Add (Item (named 76 (codes "b")) (Number 78 1)) (Number 84 4)) ∷ [])) ∷ []) ∷ [])

two_names : ending two_names-text 2 1 [] 2000 ≡ Finished
    (lines (codes "a = #1" ∷ codes "b = #1" ∷ codes "#1 int[2] count 2" ∷ codes "  [0] = 3" ∷ codes "  [1] = 4"
    ∷ codes "live 1" ∷ [])) 14
unfolding digits
two_names = refl

-- `class P int[] a int[] b method main() new int[2] a copy int[] a b a[0] += b[1]`
abbrev pub value_shares-text : Source
value_shares-text = program (class_text (named 6 (codes "P")) None
    ((var kind.IntArray (named 14 (codes "a"))) ∷ (var kind.IntArray (named 22 (codes "b"))) ∷ [])
    (procedure (named 31 (codes "main")) [] (block ((New 38 (Ints (Number 46 2)) (Whole (named 49 (codes "a"))))
    ∷ (Copy 51 kind.IntArray (Whole (named 62 (codes "a"))) (Whole (named 64 (codes "b"))))
    ∷ (Update 66 update.Add (Item (named 66 (codes "a")) (Number 68 0))
    (Element (named 74 (codes "b")) (Number 76 1))) ∷ [])) ∷ []) ∷ [])

value_shares : ending value_shares-text 2 1 [] 2000 ≡ Faulted 16 13
value_shares = refl

-- `class P int[] a int[] b method main() new int[2] a copy int[] a b a[b[0]] += 1`
abbrev pub index_shares-text : Source
index_shares-text = program (class_text (named 6 (codes "P")) None
    ((var kind.IntArray (named 14 (codes "a"))) ∷ (var kind.IntArray (named 22 (codes "b"))) ∷ [])
    (procedure (named 31 (codes "main")) [] (block ((New 38 (Ints (Number 46 2)) (Whole (named 49 (codes "a"))))
    ∷ (Copy 51 kind.IntArray (Whole (named 62 (codes "a"))) (Whole (named 64 (codes "b"))))
    ∷ (Update 66 update.Add (Item (named 66 (codes "a")) (Element (named 68 (codes "b")) (Number 70 0)))
    (Number 77 1)) ∷ [])) ∷ []) ∷ [])

index_shares : ending index_shares-text 2 1 [] 2000 ≡ Faulted 16 13
index_shares = refl

-- `class P int[] a int[] b method main() new int[2] a copy int[] a b a[0] += 3 a[0] <=> b[1]`
abbrev pub swap_shares_nothing-text : Source
swap_shares_nothing-text = program (class_text (named 6 (codes "P")) None
    ((var kind.IntArray (named 14 (codes "a"))) ∷ (var kind.IntArray (named 22 (codes "b"))) ∷ [])
    (procedure (named 31 (codes "main")) [] (block ((New 38 (Ints (Number 46 2)) (Whole (named 49 (codes "a"))))
    ∷ (Copy 51 kind.IntArray (Whole (named 62 (codes "a"))) (Whole (named 64 (codes "b"))))
    ∷ (Update 66 update.Add (Item (named 66 (codes "a")) (Number 68 0)) (Number 74 3))
    ∷ (Swap 76 (Item (named 76 (codes "a")) (Number 78 0)) (Item (named 85 (codes "b")) (Number 87 1))) ∷ []))
    ∷ []) ∷ [])

swap_shares_nothing : ending swap_shares_nothing-text 2 1 [] 2000
    ≡ Finished (lines (codes "a = #1" ∷ codes "b = #1" ∷ codes "#1 int[2] count 2" ∷ codes "  [0] = 0"
    ∷ codes "  [1] = 3" ∷ codes "live 1" ∷ [])) 14
unfolding digits
swap_shares_nothing = refl

-- `class P int[] a int[] b method main() new int[2] a copy int[] a b delete int[2] a`
abbrev pub delete-shared_array-text : Source
delete-shared_array-text = program (class_text (named 6 (codes "P")) None
    ((var kind.IntArray (named 14 (codes "a"))) ∷ (var kind.IntArray (named 22 (codes "b"))) ∷ [])
    (procedure (named 31 (codes "main")) [] (block ((New 38 (Ints (Number 46 2)) (Whole (named 49 (codes "a"))))
    ∷ (Copy 51 kind.IntArray (Whole (named 62 (codes "a"))) (Whole (named 64 (codes "b"))))
    ∷ (Delete 66 (Ints (Number 77 2)) (Whole (named 80 (codes "a")))) ∷ [])) ∷ []) ∷ [])

delete-shared_array : ending delete-shared_array-text 2 1 [] 2000 ≡ Faulted 6 10
delete-shared_array = refl

-- `class P int[] a int[] b method main() new int[2] a copy int[] a b uncopy int[] a b delete int[2]
-- a`
abbrev pub delete-no_longer_shared-text : Source
delete-no_longer_shared-text = program (class_text (named 6 (codes "P")) None
    ((var kind.IntArray (named 14 (codes "a"))) ∷ (var kind.IntArray (named 22 (codes "b"))) ∷ [])
    (procedure (named 31 (codes "main")) [] (block ((New 38 (Ints (Number 46 2)) (Whole (named 49 (codes "a"))))
    ∷ (Copy 51 kind.IntArray (Whole (named 62 (codes "a"))) (Whole (named 64 (codes "b"))))
    ∷ (Uncopy 66 kind.IntArray (Whole (named 79 (codes "a"))) (Whole (named 81 (codes "b"))))
    ∷ (Delete 83 (Ints (Number 94 2)) (Whole (named 97 (codes "a")))) ∷ [])) ∷ []) ∷ [])

delete-no_longer_shared : ending delete-no_longer_shared-text 2 1 [] 2000
    ≡ Finished (lines (codes "a = nil" ∷ codes "b = nil" ∷ codes "live 0" ∷ [])) 16
unfolding digits
delete-no_longer_shared = refl

-- `class P int[] a int[] b int[] c Q[] u Q[] v Q p int x method main() new int[2] a copy int[] a b
-- new int[2] c new Q[2] u copy Q[] u v c[0] += a[1] + b[0] class Q int f method inc() f += 1`
abbrev pub update-of_another_array-text : Source
update-of_another_array-text = program (class_text (named 6 (codes "P")) None
    ((var kind.IntArray (named 14 (codes "a"))) ∷ (var kind.IntArray (named 22 (codes "b")))
    ∷ (var kind.IntArray (named 30 (codes "c"))) ∷ (var (kind.ClassArray (named 32 (codes "Q")))
    (named 36 (codes "u"))) ∷ (var (kind.ClassArray (named 38 (codes "Q"))) (named 42 (codes "v")))
    ∷ (var (kind.Class (named 44 (codes "Q"))) (named 46 (codes "p"))) ∷ (var kind.Int (named 52 (codes "x"))) ∷ [])
    (procedure (named 61 (codes "main")) [] (block ((New 68 (Ints (Number 76 2)) (Whole (named 79 (codes "a"))))
    ∷ (Copy 81 kind.IntArray (Whole (named 92 (codes "a"))) (Whole (named 94 (codes "b"))))
    ∷ (New 96 (Ints (Number 104 2)) (Whole (named 107 (codes "c"))))
    ∷ (New 109 (Objects (named 113 (codes "Q")) (Number 115 2)) (Whole (named 118 (codes "u"))))
    ∷ (Copy 120 (kind.ClassArray (named 125 (codes "Q"))) (Whole (named 129 (codes "u")))
    (Whole (named 131 (codes "v")))) ∷ (Update 133 update.Add (Item (named 133 (codes "c")) (Number 135 0))
    (Binary 146 op.Add (Element (named 141 (codes "a")) (Number 143 1))
    (Element (named 148 (codes "b")) (Number 150 0)))) ∷ [])) ∷ [])
    ∷ class_text (named 159 (codes "Q")) None ((var kind.Int (named 165 (codes "f"))) ∷ [])
    (procedure (named 174 (codes "inc")) [] (block ((Update 180 update.Add (Whole (named 180 (codes "f")))
    (Number 185 1)) ∷ [])) ∷ []) ∷ [])

update-of_another_array : ending update-of_another_array-text 4 4 [] 2000
    ≡ Finished (lines (codes "a = #1" ∷ codes "b = #1" ∷ codes "c = #2" ∷ codes "u = #3" ∷ codes "v = #3"
    ∷ codes "p = nil" ∷ codes "x = 0" ∷ codes "#1 int[2] count 2" ∷ codes "  [0] = 0" ∷ codes "  [1] = 0"
    ∷ codes "#2 int[2] count 1" ∷ codes "  [0] = 0" ∷ codes "  [1] = 0" ∷ codes "#3 Q[2] count 2"
    ∷ codes "  [0] = nil" ∷ codes "  [1] = nil" ∷ codes "live 3" ∷ [])) 38
unfolding digits
update-of_another_array = refl

-- `class P int[] a int[] b int[] c Q[] u Q[] v Q p int x method main() new int[2] a copy int[] a b
-- new int[2] c new Q[2] u copy Q[] u v c[1] -= 1 a[0] -= c[b[1]] class Q int f method inc() f += 1`
abbrev pub update-in_index_of_value-text : Source
update-in_index_of_value-text = program (class_text (named 6 (codes "P")) None
    ((var kind.IntArray (named 14 (codes "a"))) ∷ (var kind.IntArray (named 22 (codes "b")))
    ∷ (var kind.IntArray (named 30 (codes "c"))) ∷ (var (kind.ClassArray (named 32 (codes "Q")))
    (named 36 (codes "u"))) ∷ (var (kind.ClassArray (named 38 (codes "Q"))) (named 42 (codes "v")))
    ∷ (var (kind.Class (named 44 (codes "Q"))) (named 46 (codes "p"))) ∷ (var kind.Int (named 52 (codes "x"))) ∷ [])
    (procedure (named 61 (codes "main")) [] (block ((New 68 (Ints (Number 76 2)) (Whole (named 79 (codes "a"))))
    ∷ (Copy 81 kind.IntArray (Whole (named 92 (codes "a"))) (Whole (named 94 (codes "b"))))
    ∷ (New 96 (Ints (Number 104 2)) (Whole (named 107 (codes "c"))))
    ∷ (New 109 (Objects (named 113 (codes "Q")) (Number 115 2)) (Whole (named 118 (codes "u"))))
    ∷ (Copy 120 (kind.ClassArray (named 125 (codes "Q"))) (Whole (named 129 (codes "u")))
    (Whole (named 131 (codes "v")))) ∷ (Update 133 update.Sub (Item (named 133 (codes "c")) (Number 135 1))
    (Number 141 1)) ∷ (Update 143 update.Sub (Item (named 143 (codes "a")) (Number 145 0))
    (Element (named 151 (codes "c")) (Element (named 153 (codes "b")) (Number 155 1)))) ∷ [])) ∷ [])
    ∷ class_text (named 165 (codes "Q")) None ((var kind.Int (named 171 (codes "f"))) ∷ [])
    (procedure (named 180 (codes "inc")) [] (block ((Update 186 update.Add (Whole (named 186 (codes "f")))
    (Number 191 1)) ∷ [])) ∷ []) ∷ [])

update-in_index_of_value : ending update-in_index_of_value-text 4 4 [] 2000 ≡ Faulted 16 39
update-in_index_of_value = refl

-- `class P int[] a int[] b int[] c Q[] u Q[] v Q p int x method main() new int[2] a copy int[] a b
-- new int[2] c new Q[2] u copy Q[] u v a[0] ^= 1 + b[0] class Q int f method inc() f += 1`
abbrev pub update-xored-text : Source
update-xored-text = program (class_text (named 6 (codes "P")) None
    ((var kind.IntArray (named 14 (codes "a"))) ∷ (var kind.IntArray (named 22 (codes "b")))
    ∷ (var kind.IntArray (named 30 (codes "c"))) ∷ (var (kind.ClassArray (named 32 (codes "Q")))
    (named 36 (codes "u"))) ∷ (var (kind.ClassArray (named 38 (codes "Q"))) (named 42 (codes "v")))
    ∷ (var (kind.Class (named 44 (codes "Q"))) (named 46 (codes "p"))) ∷ (var kind.Int (named 52 (codes "x"))) ∷ [])
    (procedure (named 61 (codes "main")) [] (block ((New 68 (Ints (Number 76 2)) (Whole (named 79 (codes "a"))))
    ∷ (Copy 81 kind.IntArray (Whole (named 92 (codes "a"))) (Whole (named 94 (codes "b"))))
    ∷ (New 96 (Ints (Number 104 2)) (Whole (named 107 (codes "c"))))
    ∷ (New 109 (Objects (named 113 (codes "Q")) (Number 115 2)) (Whole (named 118 (codes "u"))))
    ∷ (Copy 120 (kind.ClassArray (named 125 (codes "Q"))) (Whole (named 129 (codes "u")))
    (Whole (named 131 (codes "v")))) ∷ (Update 133 update.Xor (Item (named 133 (codes "a")) (Number 135 0))
    (Binary 143 op.Add (Number 141 1) (Element (named 145 (codes "b")) (Number 147 0)))) ∷ [])) ∷ [])
    ∷ class_text (named 156 (codes "Q")) None ((var kind.Int (named 162 (codes "f"))) ∷ [])
    (procedure (named 171 (codes "inc")) [] (block ((Update 177 update.Add (Whole (named 177 (codes "f")))
    (Number 182 1)) ∷ [])) ∷ []) ∷ [])

update-xored : ending update-xored-text 4 4 [] 2000 ≡ Faulted 16 36
update-xored = refl

-- `class P int[] a int[] b int[] c Q[] u Q[] v Q p int x method main() new int[2] a copy int[] a b
-- new int[2] c new Q[2] u copy Q[] u v x += a[0] + b[1] class Q int f method inc() f += 1`
abbrev pub update-of_variable-text : Source
update-of_variable-text = program (class_text (named 6 (codes "P")) None
    ((var kind.IntArray (named 14 (codes "a"))) ∷ (var kind.IntArray (named 22 (codes "b")))
    ∷ (var kind.IntArray (named 30 (codes "c"))) ∷ (var (kind.ClassArray (named 32 (codes "Q")))
    (named 36 (codes "u"))) ∷ (var (kind.ClassArray (named 38 (codes "Q"))) (named 42 (codes "v")))
    ∷ (var (kind.Class (named 44 (codes "Q"))) (named 46 (codes "p"))) ∷ (var kind.Int (named 52 (codes "x"))) ∷ [])
    (procedure (named 61 (codes "main")) [] (block ((New 68 (Ints (Number 76 2)) (Whole (named 79 (codes "a"))))
    ∷ (Copy 81 kind.IntArray (Whole (named 92 (codes "a"))) (Whole (named 94 (codes "b"))))
    ∷ (New 96 (Ints (Number 104 2)) (Whole (named 107 (codes "c"))))
    ∷ (New 109 (Objects (named 113 (codes "Q")) (Number 115 2)) (Whole (named 118 (codes "u"))))
    ∷ (Copy 120 (kind.ClassArray (named 125 (codes "Q"))) (Whole (named 129 (codes "u")))
    (Whole (named 131 (codes "v")))) ∷ (Update 133 update.Add (Whole (named 133 (codes "x")))
    (Binary 143 op.Add (Element (named 138 (codes "a")) (Number 140 0))
    (Element (named 145 (codes "b")) (Number 147 1)))) ∷ [])) ∷ [])
    ∷ class_text (named 156 (codes "Q")) None ((var kind.Int (named 162 (codes "f"))) ∷ [])
    (procedure (named 171 (codes "inc")) [] (block ((Update 177 update.Add (Whole (named 177 (codes "f")))
    (Number 182 1)) ∷ [])) ∷ []) ∷ [])

update-of_variable : ending update-of_variable-text 4 4 [] 2000
    ≡ Finished (lines (codes "a = #1" ∷ codes "b = #1" ∷ codes "c = #2" ∷ codes "u = #3" ∷ codes "v = #3"
    ∷ codes "p = nil" ∷ codes "x = 0" ∷ codes "#1 int[2] count 2" ∷ codes "  [0] = 0" ∷ codes "  [1] = 0"
    ∷ codes "#2 int[2] count 1" ∷ codes "  [0] = 0" ∷ codes "  [1] = 0" ∷ codes "#3 Q[2] count 2"
    ∷ codes "  [0] = nil" ∷ codes "  [1] = nil" ∷ codes "live 3" ∷ [])) 35
unfolding digits
update-of_variable = refl

-- `class P int[] a int[] b int[] c Q[] u Q[] v Q p int x method main() new int[2] a copy int[] a b
-- new int[2] c new Q[2] u copy Q[] u v a[0] += b[5] class Q int f method inc() f += 1`
abbrev pub update-index_past_end-before-shared-text : Source
update-index_past_end-before-shared-text = program (class_text (named 6 (codes "P")) None
    ((var kind.IntArray (named 14 (codes "a"))) ∷ (var kind.IntArray (named 22 (codes "b")))
    ∷ (var kind.IntArray (named 30 (codes "c"))) ∷ (var (kind.ClassArray (named 32 (codes "Q")))
    (named 36 (codes "u"))) ∷ (var (kind.ClassArray (named 38 (codes "Q"))) (named 42 (codes "v")))
    ∷ (var (kind.Class (named 44 (codes "Q"))) (named 46 (codes "p"))) ∷ (var kind.Int (named 52 (codes "x"))) ∷ [])
    (procedure (named 61 (codes "main")) [] (block ((New 68 (Ints (Number 76 2)) (Whole (named 79 (codes "a"))))
    ∷ (Copy 81 kind.IntArray (Whole (named 92 (codes "a"))) (Whole (named 94 (codes "b"))))
    ∷ (New 96 (Ints (Number 104 2)) (Whole (named 107 (codes "c"))))
    ∷ (New 109 (Objects (named 113 (codes "Q")) (Number 115 2)) (Whole (named 118 (codes "u"))))
    ∷ (Copy 120 (kind.ClassArray (named 125 (codes "Q"))) (Whole (named 129 (codes "u")))
    (Whole (named 131 (codes "v")))) ∷ (Update 133 update.Add (Item (named 133 (codes "a")) (Number 135 0))
    (Element (named 141 (codes "b")) (Number 143 5))) ∷ [])) ∷ [])
    ∷ class_text (named 152 (codes "Q")) None ((var kind.Int (named 158 (codes "f"))) ∷ [])
    (procedure (named 167 (codes "inc")) [] (block ((Update 173 update.Add (Whole (named 173 (codes "f")))
    (Number 178 1)) ∷ [])) ∷ []) ∷ [])

update-index_past_end-before-shared : ending update-index_past_end-before-shared-text 4 4 [] 2000 ≡ Faulted 9 33
update-index_past_end-before-shared = refl

-- `class P int[] a int[] b int[] c method main() new int[2] a copy int[] a b a[b[0]] += c[0] class
-- Q int f`
abbrev pub update-nil-before-shared-text : Source
update-nil-before-shared-text = program (class_text (named 6 (codes "P")) None
    ((var kind.IntArray (named 14 (codes "a"))) ∷ (var kind.IntArray (named 22 (codes "b")))
    ∷ (var kind.IntArray (named 30 (codes "c"))) ∷ []) (procedure (named 39 (codes "main")) []
    (block ((New 46 (Ints (Number 54 2)) (Whole (named 57 (codes "a"))))
    ∷ (Copy 59 kind.IntArray (Whole (named 70 (codes "a"))) (Whole (named 72 (codes "b"))))
    ∷ (Update 74 update.Add (Item (named 74 (codes "a")) (Element (named 76 (codes "b")) (Number 78 0)))
    (Element (named 85 (codes "c")) (Number 87 0))) ∷ [])) ∷ [])
    ∷ class_text (named 96 (codes "Q")) None ((var kind.Int (named 102 (codes "f"))) ∷ []) [] ∷ [])

update-nil-before-shared : ending update-nil-before-shared-text 4 4 [] 2000 ≡ Faulted 5 15
update-nil-before-shared = refl

-- `class P int[] a int[] b int[] c Q[] u Q[] v Q p int x method main() new int[2] a copy int[] a b
-- new int[2] c new Q[2] u copy Q[] u v a[b[0]] <=> c[0] class Q int f method inc() f += 1`
abbrev pub swap-left_index-text : Source
swap-left_index-text = program (class_text (named 6 (codes "P")) None
    ((var kind.IntArray (named 14 (codes "a"))) ∷ (var kind.IntArray (named 22 (codes "b")))
    ∷ (var kind.IntArray (named 30 (codes "c"))) ∷ (var (kind.ClassArray (named 32 (codes "Q")))
    (named 36 (codes "u"))) ∷ (var (kind.ClassArray (named 38 (codes "Q"))) (named 42 (codes "v")))
    ∷ (var (kind.Class (named 44 (codes "Q"))) (named 46 (codes "p"))) ∷ (var kind.Int (named 52 (codes "x"))) ∷ [])
    (procedure (named 61 (codes "main")) [] (block ((New 68 (Ints (Number 76 2)) (Whole (named 79 (codes "a"))))
    ∷ (Copy 81 kind.IntArray (Whole (named 92 (codes "a"))) (Whole (named 94 (codes "b"))))
    ∷ (New 96 (Ints (Number 104 2)) (Whole (named 107 (codes "c"))))
    ∷ (New 109 (Objects (named 113 (codes "Q")) (Number 115 2)) (Whole (named 118 (codes "u"))))
    ∷ (Copy 120 (kind.ClassArray (named 125 (codes "Q"))) (Whole (named 129 (codes "u")))
    (Whole (named 131 (codes "v")))) ∷ (Swap 133 (Item (named 133 (codes "a"))
    (Element (named 135 (codes "b")) (Number 137 0))) (Item (named 145 (codes "c")) (Number 147 0))) ∷ []))
    ∷ []) ∷ class_text (named 156 (codes "Q")) None ((var kind.Int (named 162 (codes "f"))) ∷ [])
    (procedure (named 171 (codes "inc")) [] (block ((Update 177 update.Add (Whole (named 177 (codes "f")))
    (Number 182 1)) ∷ [])) ∷ []) ∷ [])

swap-left_index : ending swap-left_index-text 4 4 [] 2000 ≡ Faulted 16 34
swap-left_index = refl

-- `class P int[] a int[] b int[] c Q[] u Q[] v Q p int x method main() new int[2] a copy int[] a b
-- new int[2] c new Q[2] u copy Q[] u v c[0] <=> a[b[0]] class Q int f method inc() f += 1`
abbrev pub swap-right_index-text : Source
swap-right_index-text = program (class_text (named 6 (codes "P")) None
    ((var kind.IntArray (named 14 (codes "a"))) ∷ (var kind.IntArray (named 22 (codes "b")))
    ∷ (var kind.IntArray (named 30 (codes "c"))) ∷ (var (kind.ClassArray (named 32 (codes "Q")))
    (named 36 (codes "u"))) ∷ (var (kind.ClassArray (named 38 (codes "Q"))) (named 42 (codes "v")))
    ∷ (var (kind.Class (named 44 (codes "Q"))) (named 46 (codes "p"))) ∷ (var kind.Int (named 52 (codes "x"))) ∷ [])
    (procedure (named 61 (codes "main")) [] (block ((New 68 (Ints (Number 76 2)) (Whole (named 79 (codes "a"))))
    ∷ (Copy 81 kind.IntArray (Whole (named 92 (codes "a"))) (Whole (named 94 (codes "b"))))
    ∷ (New 96 (Ints (Number 104 2)) (Whole (named 107 (codes "c"))))
    ∷ (New 109 (Objects (named 113 (codes "Q")) (Number 115 2)) (Whole (named 118 (codes "u"))))
    ∷ (Copy 120 (kind.ClassArray (named 125 (codes "Q"))) (Whole (named 129 (codes "u")))
    (Whole (named 131 (codes "v")))) ∷ (Swap 133 (Item (named 133 (codes "c")) (Number 135 0))
    (Item (named 142 (codes "a")) (Element (named 144 (codes "b")) (Number 146 0)))) ∷ [])) ∷ [])
    ∷ class_text (named 156 (codes "Q")) None ((var kind.Int (named 162 (codes "f"))) ∷ [])
    (procedure (named 171 (codes "inc")) [] (block ((Update 177 update.Add (Whole (named 177 (codes "f")))
    (Number 182 1)) ∷ [])) ∷ []) ∷ [])

swap-right_index : ending swap-right_index-text 4 4 [] 2000 ≡ Faulted 16 34
swap-right_index = refl

-- `class P int[] a int[] b int[] c Q[] u Q[] v Q p int x method main() new int[2] a copy int[] a b
-- new int[2] c new Q[2] u copy Q[] u v a[0] <=> c[b[0]] class Q int f method inc() f += 1`
abbrev pub swap-other_index-text : Source
swap-other_index-text = program (class_text (named 6 (codes "P")) None
    ((var kind.IntArray (named 14 (codes "a"))) ∷ (var kind.IntArray (named 22 (codes "b")))
    ∷ (var kind.IntArray (named 30 (codes "c"))) ∷ (var (kind.ClassArray (named 32 (codes "Q")))
    (named 36 (codes "u"))) ∷ (var (kind.ClassArray (named 38 (codes "Q"))) (named 42 (codes "v")))
    ∷ (var (kind.Class (named 44 (codes "Q"))) (named 46 (codes "p"))) ∷ (var kind.Int (named 52 (codes "x"))) ∷ [])
    (procedure (named 61 (codes "main")) [] (block ((New 68 (Ints (Number 76 2)) (Whole (named 79 (codes "a"))))
    ∷ (Copy 81 kind.IntArray (Whole (named 92 (codes "a"))) (Whole (named 94 (codes "b"))))
    ∷ (New 96 (Ints (Number 104 2)) (Whole (named 107 (codes "c"))))
    ∷ (New 109 (Objects (named 113 (codes "Q")) (Number 115 2)) (Whole (named 118 (codes "u"))))
    ∷ (Copy 120 (kind.ClassArray (named 125 (codes "Q"))) (Whole (named 129 (codes "u")))
    (Whole (named 131 (codes "v")))) ∷ (Swap 133 (Item (named 133 (codes "a")) (Number 135 0))
    (Item (named 142 (codes "c")) (Element (named 144 (codes "b")) (Number 146 0)))) ∷ [])) ∷ [])
    ∷ class_text (named 156 (codes "Q")) None ((var kind.Int (named 162 (codes "f"))) ∷ [])
    (procedure (named 171 (codes "inc")) [] (block ((Update 177 update.Add (Whole (named 177 (codes "f")))
    (Number 182 1)) ∷ [])) ∷ []) ∷ [])

swap-other_index : ending swap-other_index-text 4 4 [] 2000 ≡ Faulted 16 34
swap-other_index = refl

-- `class P int[] a int[] b int[] c Q[] u Q[] v Q p int x method main() new int[2] a copy int[] a b
-- new int[2] c new Q[2] u copy Q[] u v x <=> a[b[0]] class Q int f method inc() f += 1`
abbrev pub swap-variable-text : Source
swap-variable-text = program (class_text (named 6 (codes "P")) None
    ((var kind.IntArray (named 14 (codes "a"))) ∷ (var kind.IntArray (named 22 (codes "b")))
    ∷ (var kind.IntArray (named 30 (codes "c"))) ∷ (var (kind.ClassArray (named 32 (codes "Q")))
    (named 36 (codes "u"))) ∷ (var (kind.ClassArray (named 38 (codes "Q"))) (named 42 (codes "v")))
    ∷ (var (kind.Class (named 44 (codes "Q"))) (named 46 (codes "p"))) ∷ (var kind.Int (named 52 (codes "x"))) ∷ [])
    (procedure (named 61 (codes "main")) [] (block ((New 68 (Ints (Number 76 2)) (Whole (named 79 (codes "a"))))
    ∷ (Copy 81 kind.IntArray (Whole (named 92 (codes "a"))) (Whole (named 94 (codes "b"))))
    ∷ (New 96 (Ints (Number 104 2)) (Whole (named 107 (codes "c"))))
    ∷ (New 109 (Objects (named 113 (codes "Q")) (Number 115 2)) (Whole (named 118 (codes "u"))))
    ∷ (Copy 120 (kind.ClassArray (named 125 (codes "Q"))) (Whole (named 129 (codes "u")))
    (Whole (named 131 (codes "v")))) ∷ (Swap 133 (Whole (named 133 (codes "x")))
    (Item (named 139 (codes "a")) (Element (named 141 (codes "b")) (Number 143 0)))) ∷ [])) ∷ [])
    ∷ class_text (named 153 (codes "Q")) None ((var kind.Int (named 159 (codes "f"))) ∷ [])
    (procedure (named 168 (codes "inc")) [] (block ((Update 174 update.Add (Whole (named 174 (codes "f")))
    (Number 179 1)) ∷ [])) ∷ []) ∷ [])

swap-variable : ending swap-variable-text 4 4 [] 2000 ≡ Faulted 16 33
swap-variable = refl

-- `class P int[] a int[] b int[] c Q[] u Q[] v Q p int x method main() new int[2] a copy int[] a b
-- new int[2] c new Q[2] u copy Q[] u v x += 3 a[c[0]] <=> x class Q int f method inc() f += 1`
abbrev pub swap-index_of_another-text : Source
swap-index_of_another-text = program (class_text (named 6 (codes "P")) None
    ((var kind.IntArray (named 14 (codes "a"))) ∷ (var kind.IntArray (named 22 (codes "b")))
    ∷ (var kind.IntArray (named 30 (codes "c"))) ∷ (var (kind.ClassArray (named 32 (codes "Q")))
    (named 36 (codes "u"))) ∷ (var (kind.ClassArray (named 38 (codes "Q"))) (named 42 (codes "v")))
    ∷ (var (kind.Class (named 44 (codes "Q"))) (named 46 (codes "p"))) ∷ (var kind.Int (named 52 (codes "x"))) ∷ [])
    (procedure (named 61 (codes "main")) [] (block ((New 68 (Ints (Number 76 2)) (Whole (named 79 (codes "a"))))
    ∷ (Copy 81 kind.IntArray (Whole (named 92 (codes "a"))) (Whole (named 94 (codes "b"))))
    ∷ (New 96 (Ints (Number 104 2)) (Whole (named 107 (codes "c"))))
    ∷ (New 109 (Objects (named 113 (codes "Q")) (Number 115 2)) (Whole (named 118 (codes "u"))))
    ∷ (Copy 120 (kind.ClassArray (named 125 (codes "Q"))) (Whole (named 129 (codes "u")))
    (Whole (named 131 (codes "v")))) ∷ (Update 133 update.Add (Whole (named 133 (codes "x"))) (Number 138 3))
    ∷ (Swap 140 (Item (named 140 (codes "a")) (Element (named 142 (codes "c")) (Number 144 0)))
    (Whole (named 152 (codes "x")))) ∷ [])) ∷ []) ∷ class_text (named 160 (codes "Q")) None
    ((var kind.Int (named 166 (codes "f"))) ∷ []) (procedure (named 175 (codes "inc")) []
    (block ((Update 181 update.Add (Whole (named 181 (codes "f"))) (Number 186 1)) ∷ [])) ∷ []) ∷ [])

swap-index_of_another : ending swap-index_of_another-text 4 4 [] 2000
    ≡ Finished (lines (codes "a = #1" ∷ codes "b = #1" ∷ codes "c = #2" ∷ codes "u = #3" ∷ codes "v = #3"
    ∷ codes "p = nil" ∷ codes "x = 0" ∷ codes "#1 int[2] count 2" ∷ codes "  [0] = 3" ∷ codes "  [1] = 0"
    ∷ codes "#2 int[2] count 1" ∷ codes "  [0] = 0" ∷ codes "  [1] = 0" ∷ codes "#3 Q[2] count 2"
    ∷ codes "  [0] = nil" ∷ codes "  [1] = nil" ∷ codes "live 3" ∷ [])) 35
unfolding digits
swap-index_of_another = refl

-- `class P int[] a int[] b int[] c Q[] u Q[] v Q p int x method main() new int[2] a copy int[] a b
-- new int[2] c new Q[2] u copy Q[] u v new Q u[0] new Q u[v[0] = nil] class Q int f method inc() f
-- += 1`
abbrev pub new-shared-text : Source
new-shared-text = program (class_text (named 6 (codes "P")) None
    ((var kind.IntArray (named 14 (codes "a"))) ∷ (var kind.IntArray (named 22 (codes "b")))
    ∷ (var kind.IntArray (named 30 (codes "c"))) ∷ (var (kind.ClassArray (named 32 (codes "Q")))
    (named 36 (codes "u"))) ∷ (var (kind.ClassArray (named 38 (codes "Q"))) (named 42 (codes "v")))
    ∷ (var (kind.Class (named 44 (codes "Q"))) (named 46 (codes "p"))) ∷ (var kind.Int (named 52 (codes "x"))) ∷ [])
    (procedure (named 61 (codes "main")) [] (block ((New 68 (Ints (Number 76 2)) (Whole (named 79 (codes "a"))))
    ∷ (Copy 81 kind.IntArray (Whole (named 92 (codes "a"))) (Whole (named 94 (codes "b"))))
    ∷ (New 96 (Ints (Number 104 2)) (Whole (named 107 (codes "c"))))
    ∷ (New 109 (Objects (named 113 (codes "Q")) (Number 115 2)) (Whole (named 118 (codes "u"))))
    ∷ (Copy 120 (kind.ClassArray (named 125 (codes "Q"))) (Whole (named 129 (codes "u")))
    (Whole (named 131 (codes "v")))) ∷ (New 133 (AnObject (named 137 (codes "Q")))
    (Item (named 139 (codes "u")) (Number 141 0))) ∷
    (New 144 (AnObject (named 148 (codes "Q"))) (Item (named 150 (codes "u"))
    (Binary 157 op.Equal (Element (named 152 (codes "v")) (Number 154 0)) (Null 159)))) ∷ [])) ∷ [])
    ∷ class_text (named 170 (codes "Q")) None ((var kind.Int (named 176 (codes "f"))) ∷ [])
    (procedure (named 185 (codes "inc")) [] (block ((Update 191 update.Add (Whole (named 191 (codes "f")))
    (Number 196 1)) ∷ [])) ∷ []) ∷ [])

new-shared : ending new-shared-text 5 4 [] 2000 ≡ Faulted 16 46
new-shared = refl

-- `class P int[] a int[] b int[] c Q[] u Q[] v Q p int x method main() new int[2] a copy int[] a b
-- new int[2] c new Q[2] u copy Q[] u v new Q u[1] new Q u[v[0] = nil] class Q int f method inc() f
-- += 1`
abbrev pub new-shared-before-filled-text : Source
new-shared-before-filled-text = program (class_text (named 6 (codes "P")) None
    ((var kind.IntArray (named 14 (codes "a"))) ∷ (var kind.IntArray (named 22 (codes "b")))
    ∷ (var kind.IntArray (named 30 (codes "c"))) ∷ (var (kind.ClassArray (named 32 (codes "Q")))
    (named 36 (codes "u"))) ∷ (var (kind.ClassArray (named 38 (codes "Q"))) (named 42 (codes "v")))
    ∷ (var (kind.Class (named 44 (codes "Q"))) (named 46 (codes "p"))) ∷ (var kind.Int (named 52 (codes "x"))) ∷ [])
    (procedure (named 61 (codes "main")) [] (block ((New 68 (Ints (Number 76 2)) (Whole (named 79 (codes "a"))))
    ∷ (Copy 81 kind.IntArray (Whole (named 92 (codes "a"))) (Whole (named 94 (codes "b"))))
    ∷ (New 96 (Ints (Number 104 2)) (Whole (named 107 (codes "c"))))
    ∷ (New 109 (Objects (named 113 (codes "Q")) (Number 115 2)) (Whole (named 118 (codes "u"))))
    ∷ (Copy 120 (kind.ClassArray (named 125 (codes "Q"))) (Whole (named 129 (codes "u")))
    (Whole (named 131 (codes "v")))) ∷ (New 133 (AnObject (named 137 (codes "Q")))
    (Item (named 139 (codes "u")) (Number 141 1))) ∷
    (New 144 (AnObject (named 148 (codes "Q"))) (Item (named 150 (codes "u"))
    (Binary 157 op.Equal (Element (named 152 (codes "v")) (Number 154 0)) (Null 159)))) ∷ [])) ∷ [])
    ∷ class_text (named 170 (codes "Q")) None ((var kind.Int (named 176 (codes "f"))) ∷ [])
    (procedure (named 185 (codes "inc")) [] (block ((Update 191 update.Add (Whole (named 191 (codes "f")))
    (Number 196 1)) ∷ [])) ∷ []) ∷ [])

new-shared-before-filled : ending new-shared-before-filled-text 5 4 [] 2000 ≡ Faulted 16 46
new-shared-before-filled = refl

-- `class P int[] a int[] b int[] c Q[] u Q[] v Q p int x method main() new int[2] a copy int[] a b
-- new int[2] c new Q[2] u copy Q[] u v new Q u[a[0]] class Q int f method inc() f += 1`
abbrev pub new-not_shared-text : Source
new-not_shared-text = program (class_text (named 6 (codes "P")) None
    ((var kind.IntArray (named 14 (codes "a"))) ∷ (var kind.IntArray (named 22 (codes "b")))
    ∷ (var kind.IntArray (named 30 (codes "c"))) ∷ (var (kind.ClassArray (named 32 (codes "Q")))
    (named 36 (codes "u"))) ∷ (var (kind.ClassArray (named 38 (codes "Q"))) (named 42 (codes "v")))
    ∷ (var (kind.Class (named 44 (codes "Q"))) (named 46 (codes "p"))) ∷ (var kind.Int (named 52 (codes "x"))) ∷ [])
    (procedure (named 61 (codes "main")) [] (block ((New 68 (Ints (Number 76 2)) (Whole (named 79 (codes "a"))))
    ∷ (Copy 81 kind.IntArray (Whole (named 92 (codes "a"))) (Whole (named 94 (codes "b"))))
    ∷ (New 96 (Ints (Number 104 2)) (Whole (named 107 (codes "c"))))
    ∷ (New 109 (Objects (named 113 (codes "Q")) (Number 115 2)) (Whole (named 118 (codes "u"))))
    ∷ (Copy 120 (kind.ClassArray (named 125 (codes "Q"))) (Whole (named 129 (codes "u")))
    (Whole (named 131 (codes "v")))) ∷ (New 133 (AnObject (named 137 (codes "Q")))
    (Item (named 139 (codes "u")) (Element (named 141 (codes "a")) (Number 143 0)))) ∷ [])) ∷ [])
    ∷ class_text (named 153 (codes "Q")) None ((var kind.Int (named 159 (codes "f"))) ∷ [])
    (procedure (named 168 (codes "inc")) [] (block ((Update 174 update.Add (Whole (named 174 (codes "f")))
    (Number 179 1)) ∷ [])) ∷ []) ∷ [])

new-not_shared : ending new-not_shared-text 5 4 [] 2000
    ≡ Finished (lines (codes "a = #1" ∷ codes "b = #1" ∷ codes "c = #2" ∷ codes "u = #3" ∷ codes "v = #3"
    ∷ codes "p = nil" ∷ codes "x = 0" ∷ codes "#1 int[2] count 2" ∷ codes "  [0] = 0" ∷ codes "  [1] = 0"
    ∷ codes "#2 int[2] count 1" ∷ codes "  [0] = 0" ∷ codes "  [1] = 0" ∷ codes "#3 Q[2] count 2"
    ∷ codes "  [0] = #4" ∷ codes "  [1] = nil" ∷ codes "#4 Q count 1" ∷ codes "  f = 0" ∷ codes "live 4" ∷ [])) 42
unfolding digits
new-not_shared = refl

-- `class P int[] a int[] b int[] c Q[] u Q[] v Q p int x method main() new int[2] a copy int[] a b
-- new int[2] c new Q[2] u copy Q[] u v a[1] += 2 uncopy int[] a b new int[a[1]] b class Q int f
-- method inc() f += 1`
abbrev pub new-length_of_array-text : Source
new-length_of_array-text = program (class_text (named 6 (codes "P")) None
    ((var kind.IntArray (named 14 (codes "a"))) ∷ (var kind.IntArray (named 22 (codes "b")))
    ∷ (var kind.IntArray (named 30 (codes "c"))) ∷ (var (kind.ClassArray (named 32 (codes "Q")))
    (named 36 (codes "u"))) ∷ (var (kind.ClassArray (named 38 (codes "Q"))) (named 42 (codes "v")))
    ∷ (var (kind.Class (named 44 (codes "Q"))) (named 46 (codes "p"))) ∷ (var kind.Int (named 52 (codes "x"))) ∷ [])
    (procedure (named 61 (codes "main")) [] (block ((New 68 (Ints (Number 76 2)) (Whole (named 79 (codes "a"))))
    ∷ (Copy 81 kind.IntArray (Whole (named 92 (codes "a"))) (Whole (named 94 (codes "b"))))
    ∷ (New 96 (Ints (Number 104 2)) (Whole (named 107 (codes "c"))))
    ∷ (New 109 (Objects (named 113 (codes "Q")) (Number 115 2)) (Whole (named 118 (codes "u"))))
    ∷ (Copy 120 (kind.ClassArray (named 125 (codes "Q"))) (Whole (named 129 (codes "u")))
    (Whole (named 131 (codes "v")))) ∷ (Update 133 update.Add (Item (named 133 (codes "a")) (Number 135 1))
    (Number 141 2)) ∷ (Uncopy 143 kind.IntArray (Whole (named 156 (codes "a")))
    (Whole (named 158 (codes "b")))) ∷ (New 160 (Ints (Element (named 168 (codes "a")) (Number 170 1)))
    (Whole (named 174 (codes "b")))) ∷ [])) ∷ []) ∷ class_text (named 182 (codes "Q")) None
    ((var kind.Int (named 188 (codes "f"))) ∷ []) (procedure (named 197 (codes "inc")) []
    (block ((Update 203 update.Add (Whole (named 203 (codes "f"))) (Number 208 1)) ∷ [])) ∷ []) ∷ [])

new-length_of_array : ending new-length_of_array-text 5 4 [] 2000
    ≡ Finished (lines (codes "a = #1" ∷ codes "b = #2" ∷ codes "c = #3" ∷ codes "u = #4" ∷ codes "v = #4"
    ∷ codes "p = nil" ∷ codes "x = 0" ∷ codes "#1 int[2] count 1" ∷ codes "  [0] = 0" ∷ codes "  [1] = 2"
    ∷ codes "#2 int[2] count 1" ∷ codes "  [0] = 0" ∷ codes "  [1] = 0" ∷ codes "#3 int[2] count 1"
    ∷ codes "  [0] = 0" ∷ codes "  [1] = 0" ∷ codes "#4 Q[2] count 2" ∷ codes "  [0] = nil" ∷ codes "  [1] = nil"
    ∷ codes "live 4" ∷ [])) 47
unfolding digits
new-length_of_array = refl

-- `class P int[] a int[] b int[] c Q[] u Q[] v Q p int x method main() new int[2] a copy int[] a b
-- new int[2] c new Q[2] u copy Q[] u v new Q u[0] delete Q u[v[1] != nil] class Q int f method
-- inc() f += 1`
abbrev pub delete-shared-text : Source
delete-shared-text = program (class_text (named 6 (codes "P")) None
    ((var kind.IntArray (named 14 (codes "a"))) ∷ (var kind.IntArray (named 22 (codes "b")))
    ∷ (var kind.IntArray (named 30 (codes "c"))) ∷ (var (kind.ClassArray (named 32 (codes "Q")))
    (named 36 (codes "u"))) ∷ (var (kind.ClassArray (named 38 (codes "Q"))) (named 42 (codes "v")))
    ∷ (var (kind.Class (named 44 (codes "Q"))) (named 46 (codes "p"))) ∷ (var kind.Int (named 52 (codes "x"))) ∷ [])
    (procedure (named 61 (codes "main")) [] (block ((New 68 (Ints (Number 76 2)) (Whole (named 79 (codes "a"))))
    ∷ (Copy 81 kind.IntArray (Whole (named 92 (codes "a"))) (Whole (named 94 (codes "b"))))
    ∷ (New 96 (Ints (Number 104 2)) (Whole (named 107 (codes "c"))))
    ∷ (New 109 (Objects (named 113 (codes "Q")) (Number 115 2)) (Whole (named 118 (codes "u"))))
    ∷ (Copy 120 (kind.ClassArray (named 125 (codes "Q"))) (Whole (named 129 (codes "u")))
    (Whole (named 131 (codes "v")))) ∷ (New 133 (AnObject (named 137 (codes "Q")))
    (Item (named 139 (codes "u")) (Number 141 0))) ∷
    (Delete 144 (AnObject (named 151 (codes "Q"))) (Item (named 153 (codes "u"))
    (Binary 160 op.NotEqual (Element (named 155 (codes "v")) (Number 157 1)) (Null 163)))) ∷ [])) ∷ [])
    ∷ class_text (named 174 (codes "Q")) None ((var kind.Int (named 180 (codes "f"))) ∷ [])
    (procedure (named 189 (codes "inc")) [] (block ((Update 195 update.Add (Whole (named 195 (codes "f")))
    (Number 200 1)) ∷ [])) ∷ []) ∷ [])

delete-shared : ending delete-shared-text 5 4 [] 2000 ≡ Faulted 16 46
delete-shared = refl

-- `class P int[] a int[] b int[] c Q[] u Q[] v Q p int x method main() new int[2] a copy int[] a b
-- new int[2] c new Q[2] u copy Q[] u v delete Q u[v[1] = nil] class Q int f method inc() f += 1`
abbrev pub delete-shared-before-nil-text : Source
delete-shared-before-nil-text = program (class_text (named 6 (codes "P")) None
    ((var kind.IntArray (named 14 (codes "a"))) ∷ (var kind.IntArray (named 22 (codes "b")))
    ∷ (var kind.IntArray (named 30 (codes "c"))) ∷ (var (kind.ClassArray (named 32 (codes "Q")))
    (named 36 (codes "u"))) ∷ (var (kind.ClassArray (named 38 (codes "Q"))) (named 42 (codes "v")))
    ∷ (var (kind.Class (named 44 (codes "Q"))) (named 46 (codes "p"))) ∷ (var kind.Int (named 52 (codes "x"))) ∷ [])
    (procedure (named 61 (codes "main")) [] (block ((New 68 (Ints (Number 76 2)) (Whole (named 79 (codes "a"))))
    ∷ (Copy 81 kind.IntArray (Whole (named 92 (codes "a"))) (Whole (named 94 (codes "b"))))
    ∷ (New 96 (Ints (Number 104 2)) (Whole (named 107 (codes "c"))))
    ∷ (New 109 (Objects (named 113 (codes "Q")) (Number 115 2)) (Whole (named 118 (codes "u"))))
    ∷ (Copy 120 (kind.ClassArray (named 125 (codes "Q"))) (Whole (named 129 (codes "u")))
    (Whole (named 131 (codes "v")))) ∷ (Delete 133 (AnObject (named 140 (codes "Q")))
    (Item (named 142 (codes "u")) (Binary 149 op.Equal (Element (named 144 (codes "v")) (Number 146 1))
    (Null 151)))) ∷ [])) ∷ []) ∷ class_text (named 162 (codes "Q")) None
    ((var kind.Int (named 168 (codes "f"))) ∷ []) (procedure (named 177 (codes "inc")) []
    (block ((Update 183 update.Add (Whole (named 183 (codes "f"))) (Number 188 1)) ∷ [])) ∷ []) ∷ [])

delete-shared-before-nil : ending delete-shared-before-nil-text 5 4 [] 2000 ≡ Faulted 16 38
delete-shared-before-nil = refl

-- `class P int[] a int[] b int[] c Q[] u Q[] v Q p int x method main() new int[2] a copy int[] a b
-- new int[2] c new Q[2] u copy Q[] u v new Q u[0] delete Q v[c[0]] class Q int f method inc() f +=
-- 1`
abbrev pub delete-not_shared-text : Source
delete-not_shared-text = program (class_text (named 6 (codes "P")) None
    ((var kind.IntArray (named 14 (codes "a"))) ∷ (var kind.IntArray (named 22 (codes "b")))
    ∷ (var kind.IntArray (named 30 (codes "c"))) ∷ (var (kind.ClassArray (named 32 (codes "Q")))
    (named 36 (codes "u"))) ∷ (var (kind.ClassArray (named 38 (codes "Q"))) (named 42 (codes "v")))
    ∷ (var (kind.Class (named 44 (codes "Q"))) (named 46 (codes "p"))) ∷ (var kind.Int (named 52 (codes "x"))) ∷ [])
    (procedure (named 61 (codes "main")) [] (block ((New 68 (Ints (Number 76 2)) (Whole (named 79 (codes "a"))))
    ∷ (Copy 81 kind.IntArray (Whole (named 92 (codes "a"))) (Whole (named 94 (codes "b"))))
    ∷ (New 96 (Ints (Number 104 2)) (Whole (named 107 (codes "c"))))
    ∷ (New 109 (Objects (named 113 (codes "Q")) (Number 115 2)) (Whole (named 118 (codes "u"))))
    ∷ (Copy 120 (kind.ClassArray (named 125 (codes "Q"))) (Whole (named 129 (codes "u")))
    (Whole (named 131 (codes "v")))) ∷ (New 133 (AnObject (named 137 (codes "Q")))
    (Item (named 139 (codes "u")) (Number 141 0))) ∷
    (Delete 144 (AnObject (named 151 (codes "Q"))) (Item (named 153 (codes "v"))
    (Element (named 155 (codes "c")) (Number 157 0)))) ∷ [])) ∷ [])
    ∷ class_text (named 167 (codes "Q")) None ((var kind.Int (named 173 (codes "f"))) ∷ [])
    (procedure (named 182 (codes "inc")) [] (block ((Update 188 update.Add (Whole (named 188 (codes "f")))
    (Number 193 1)) ∷ [])) ∷ []) ∷ [])

delete-not_shared : ending delete-not_shared-text 5 4 [] 2000
    ≡ Finished (lines (codes "a = #1" ∷ codes "b = #1" ∷ codes "c = #2" ∷ codes "u = #3" ∷ codes "v = #3"
    ∷ codes "p = nil" ∷ codes "x = 0" ∷ codes "#1 int[2] count 2" ∷ codes "  [0] = 0" ∷ codes "  [1] = 0"
    ∷ codes "#2 int[2] count 1" ∷ codes "  [0] = 0" ∷ codes "  [1] = 0" ∷ codes "#3 Q[2] count 2"
    ∷ codes "  [0] = nil" ∷ codes "  [1] = nil" ∷ codes "live 3" ∷ [])) 50
unfolding digits
delete-not_shared = refl

-- `class P int[] a int[] b int[] c Q[] u Q[] v Q p int x method main() new int[2] a copy int[] a b
-- new int[2] c new Q[2] u copy Q[] u v new Q p copy Q p u[v[0] != nil] class Q int f method inc() f
-- += 1`
abbrev pub copy-second_place-text : Source
copy-second_place-text = program (class_text (named 6 (codes "P")) None
    ((var kind.IntArray (named 14 (codes "a"))) ∷ (var kind.IntArray (named 22 (codes "b")))
    ∷ (var kind.IntArray (named 30 (codes "c"))) ∷ (var (kind.ClassArray (named 32 (codes "Q")))
    (named 36 (codes "u"))) ∷ (var (kind.ClassArray (named 38 (codes "Q"))) (named 42 (codes "v")))
    ∷ (var (kind.Class (named 44 (codes "Q"))) (named 46 (codes "p"))) ∷ (var kind.Int (named 52 (codes "x"))) ∷ [])
    (procedure (named 61 (codes "main")) [] (block ((New 68 (Ints (Number 76 2)) (Whole (named 79 (codes "a"))))
    ∷ (Copy 81 kind.IntArray (Whole (named 92 (codes "a"))) (Whole (named 94 (codes "b"))))
    ∷ (New 96 (Ints (Number 104 2)) (Whole (named 107 (codes "c"))))
    ∷ (New 109 (Objects (named 113 (codes "Q")) (Number 115 2)) (Whole (named 118 (codes "u"))))
    ∷ (Copy 120 (kind.ClassArray (named 125 (codes "Q"))) (Whole (named 129 (codes "u")))
    (Whole (named 131 (codes "v")))) ∷ (New 133 (AnObject (named 137 (codes "Q")))
    (Whole (named 139 (codes "p")))) ∷ (Copy 141 (kind.Class (named 146 (codes "Q")))
    (Whole (named 148 (codes "p"))) (Item (named 150 (codes "u"))
    (Binary 157 op.NotEqual (Element (named 152 (codes "v")) (Number 154 0)) (Null 160)))) ∷ [])) ∷ [])
    ∷ class_text (named 171 (codes "Q")) None ((var kind.Int (named 177 (codes "f"))) ∷ [])
    (procedure (named 186 (codes "inc")) [] (block ((Update 192 update.Add (Whole (named 192 (codes "f")))
    (Number 197 1)) ∷ [])) ∷ []) ∷ [])

copy-second_place : ending copy-second_place-text 5 4 [] 2000 ≡ Faulted 16 45
copy-second_place = refl

-- `class P int[] a int[] b int[] c Q[] u Q[] v Q p int x method main() new int[2] a copy int[] a b
-- new int[2] c new Q[2] u copy Q[] u v new Q p copy Q u[v[0] = nil] u[0] class Q int f method inc()
-- f += 1`
abbrev pub copy-first_index-text : Source
copy-first_index-text = program (class_text (named 6 (codes "P")) None
    ((var kind.IntArray (named 14 (codes "a"))) ∷ (var kind.IntArray (named 22 (codes "b")))
    ∷ (var kind.IntArray (named 30 (codes "c"))) ∷ (var (kind.ClassArray (named 32 (codes "Q")))
    (named 36 (codes "u"))) ∷ (var (kind.ClassArray (named 38 (codes "Q"))) (named 42 (codes "v")))
    ∷ (var (kind.Class (named 44 (codes "Q"))) (named 46 (codes "p"))) ∷ (var kind.Int (named 52 (codes "x"))) ∷ [])
    (procedure (named 61 (codes "main")) [] (block ((New 68 (Ints (Number 76 2)) (Whole (named 79 (codes "a"))))
    ∷ (Copy 81 kind.IntArray (Whole (named 92 (codes "a"))) (Whole (named 94 (codes "b"))))
    ∷ (New 96 (Ints (Number 104 2)) (Whole (named 107 (codes "c"))))
    ∷ (New 109 (Objects (named 113 (codes "Q")) (Number 115 2)) (Whole (named 118 (codes "u"))))
    ∷ (Copy 120 (kind.ClassArray (named 125 (codes "Q"))) (Whole (named 129 (codes "u")))
    (Whole (named 131 (codes "v")))) ∷ (New 133 (AnObject (named 137 (codes "Q")))
    (Whole (named 139 (codes "p")))) ∷ (Copy 141 (kind.Class (named 146 (codes "Q")))
    (Item (named 148 (codes "u")) (Binary 155 op.Equal (Element (named 150 (codes "v")) (Number 152 0))
    (Null 157))) (Item (named 162 (codes "u")) (Number 164 0))) ∷ [])) ∷ [])
    ∷ class_text (named 173 (codes "Q")) None ((var kind.Int (named 179 (codes "f"))) ∷ [])
    (procedure (named 188 (codes "inc")) [] (block ((Update 194 update.Add (Whole (named 194 (codes "f")))
    (Number 199 1)) ∷ [])) ∷ []) ∷ [])

copy-first_index : ending copy-first_index-text 5 4 [] 2000 ≡ Faulted 16 46
copy-first_index = refl

-- `class P int[] a int[] b int[] c Q[] u Q[] v Q p int x method main() new int[2] a copy int[] a b
-- new int[2] c new Q[2] u copy Q[] u v copy Q p u[v[0] = nil] class Q int f method inc() f += 1`
abbrev pub copy-shared-before-nil-text : Source
copy-shared-before-nil-text = program (class_text (named 6 (codes "P")) None
    ((var kind.IntArray (named 14 (codes "a"))) ∷ (var kind.IntArray (named 22 (codes "b")))
    ∷ (var kind.IntArray (named 30 (codes "c"))) ∷ (var (kind.ClassArray (named 32 (codes "Q")))
    (named 36 (codes "u"))) ∷ (var (kind.ClassArray (named 38 (codes "Q"))) (named 42 (codes "v")))
    ∷ (var (kind.Class (named 44 (codes "Q"))) (named 46 (codes "p"))) ∷ (var kind.Int (named 52 (codes "x"))) ∷ [])
    (procedure (named 61 (codes "main")) [] (block ((New 68 (Ints (Number 76 2)) (Whole (named 79 (codes "a"))))
    ∷ (Copy 81 kind.IntArray (Whole (named 92 (codes "a"))) (Whole (named 94 (codes "b"))))
    ∷ (New 96 (Ints (Number 104 2)) (Whole (named 107 (codes "c"))))
    ∷ (New 109 (Objects (named 113 (codes "Q")) (Number 115 2)) (Whole (named 118 (codes "u"))))
    ∷ (Copy 120 (kind.ClassArray (named 125 (codes "Q"))) (Whole (named 129 (codes "u")))
    (Whole (named 131 (codes "v")))) ∷ (Copy 133 (kind.Class (named 138 (codes "Q")))
    (Whole (named 140 (codes "p"))) (Item (named 142 (codes "u"))
    (Binary 149 op.Equal (Element (named 144 (codes "v")) (Number 146 0)) (Null 151)))) ∷ [])) ∷ [])
    ∷ class_text (named 162 (codes "Q")) None ((var kind.Int (named 168 (codes "f"))) ∷ [])
    (procedure (named 177 (codes "inc")) [] (block ((Update 183 update.Add (Whole (named 183 (codes "f")))
    (Number 188 1)) ∷ [])) ∷ []) ∷ [])

copy-shared-before-nil : ending copy-shared-before-nil-text 5 4 [] 2000 ≡ Faulted 16 38
copy-shared-before-nil = refl

-- `class P int[] a int[] b int[] c Q[] u Q[] v Q p int x method main() new int[2] a copy int[] a b
-- new int[2] c new Q[2] u copy Q[] u v new Q u[0] copy Q u[0] v[1] class Q int f method inc() f +=
-- 1`
abbrev pub copy-first_place_is_no_read-text : Source
copy-first_place_is_no_read-text = program (class_text (named 6 (codes "P")) None
    ((var kind.IntArray (named 14 (codes "a"))) ∷ (var kind.IntArray (named 22 (codes "b")))
    ∷ (var kind.IntArray (named 30 (codes "c"))) ∷ (var (kind.ClassArray (named 32 (codes "Q")))
    (named 36 (codes "u"))) ∷ (var (kind.ClassArray (named 38 (codes "Q"))) (named 42 (codes "v")))
    ∷ (var (kind.Class (named 44 (codes "Q"))) (named 46 (codes "p"))) ∷ (var kind.Int (named 52 (codes "x"))) ∷ [])
    (procedure (named 61 (codes "main")) [] (block ((New 68 (Ints (Number 76 2)) (Whole (named 79 (codes "a"))))
    ∷ (Copy 81 kind.IntArray (Whole (named 92 (codes "a"))) (Whole (named 94 (codes "b"))))
    ∷ (New 96 (Ints (Number 104 2)) (Whole (named 107 (codes "c"))))
    ∷ (New 109 (Objects (named 113 (codes "Q")) (Number 115 2)) (Whole (named 118 (codes "u"))))
    ∷ (Copy 120 (kind.ClassArray (named 125 (codes "Q"))) (Whole (named 129 (codes "u")))
    (Whole (named 131 (codes "v")))) ∷ (New 133 (AnObject (named 137 (codes "Q")))
    (Item (named 139 (codes "u")) (Number 141 0))) ∷
    (Copy 144 (kind.Class (named 149 (codes "Q"))) (Item (named 151 (codes "u")) (Number 153 0))
    (Item (named 156 (codes "v")) (Number 158 1))) ∷ [])) ∷ [])
    ∷ class_text (named 167 (codes "Q")) None ((var kind.Int (named 173 (codes "f"))) ∷ [])
    (procedure (named 182 (codes "inc")) [] (block ((Update 188 update.Add (Whole (named 188 (codes "f")))
    (Number 193 1)) ∷ [])) ∷ []) ∷ [])

copy-first_place_is_no_read : ending copy-first_place_is_no_read-text 5 4 [] 2000
    ≡ Finished (lines (codes "a = #1" ∷ codes "b = #1" ∷ codes "c = #2" ∷ codes "u = #3" ∷ codes "v = #3"
    ∷ codes "p = nil" ∷ codes "x = 0" ∷ codes "#1 int[2] count 2" ∷ codes "  [0] = 0" ∷ codes "  [1] = 0"
    ∷ codes "#2 int[2] count 1" ∷ codes "  [0] = 0" ∷ codes "  [1] = 0" ∷ codes "#3 Q[2] count 2"
    ∷ codes "  [0] = #4" ∷ codes "  [1] = #4" ∷ codes "#4 Q count 2" ∷ codes "  f = 0" ∷ codes "live 4" ∷ [])) 43
unfolding digits
copy-first_place_is_no_read = refl

-- `class P int[] a int[] b int[] c Q[] u Q[] v Q p int x method main() new int[2] a copy int[] a b
-- new int[2] c new Q[2] u copy Q[] u v new Q u[1] copy Q u[v[0] = nil] p class Q int f method inc()
-- f += 1`
abbrev pub copy-to_variable-text : Source
copy-to_variable-text = program (class_text (named 6 (codes "P")) None
    ((var kind.IntArray (named 14 (codes "a"))) ∷ (var kind.IntArray (named 22 (codes "b")))
    ∷ (var kind.IntArray (named 30 (codes "c"))) ∷ (var (kind.ClassArray (named 32 (codes "Q")))
    (named 36 (codes "u"))) ∷ (var (kind.ClassArray (named 38 (codes "Q"))) (named 42 (codes "v")))
    ∷ (var (kind.Class (named 44 (codes "Q"))) (named 46 (codes "p"))) ∷ (var kind.Int (named 52 (codes "x"))) ∷ [])
    (procedure (named 61 (codes "main")) [] (block ((New 68 (Ints (Number 76 2)) (Whole (named 79 (codes "a"))))
    ∷ (Copy 81 kind.IntArray (Whole (named 92 (codes "a"))) (Whole (named 94 (codes "b"))))
    ∷ (New 96 (Ints (Number 104 2)) (Whole (named 107 (codes "c"))))
    ∷ (New 109 (Objects (named 113 (codes "Q")) (Number 115 2)) (Whole (named 118 (codes "u"))))
    ∷ (Copy 120 (kind.ClassArray (named 125 (codes "Q"))) (Whole (named 129 (codes "u")))
    (Whole (named 131 (codes "v")))) ∷ (New 133 (AnObject (named 137 (codes "Q")))
    (Item (named 139 (codes "u")) (Number 141 1))) ∷
    (Copy 144 (kind.Class (named 149 (codes "Q"))) (Item (named 151 (codes "u"))
    (Binary 158 op.Equal (Element (named 153 (codes "v")) (Number 155 0)) (Null 160)))
    (Whole (named 165 (codes "p")))) ∷ [])) ∷ []) ∷ class_text (named 173 (codes "Q")) None
    ((var kind.Int (named 179 (codes "f"))) ∷ []) (procedure (named 188 (codes "inc")) []
    (block ((Update 194 update.Add (Whole (named 194 (codes "f"))) (Number 199 1)) ∷ [])) ∷ []) ∷ [])

copy-to_variable : ending copy-to_variable-text 5 4 [] 2000
    ≡ Finished (lines (codes "a = #1" ∷ codes "b = #1" ∷ codes "c = #2" ∷ codes "u = #3" ∷ codes "v = #3"
    ∷ codes "p = #4" ∷ codes "x = 0" ∷ codes "#1 int[2] count 2" ∷ codes "  [0] = 0" ∷ codes "  [1] = 0"
    ∷ codes "#2 int[2] count 1" ∷ codes "  [0] = 0" ∷ codes "  [1] = 0" ∷ codes "#3 Q[2] count 2"
    ∷ codes "  [0] = nil" ∷ codes "  [1] = #4" ∷ codes "#4 Q count 2" ∷ codes "  f = 0" ∷ codes "live 4" ∷ [])) 45
unfolding digits
copy-to_variable = refl

-- `class P int[] a int[] b int[] c Q[] u Q[] v Q p int x method main() new int[2] a copy int[] a b
-- new int[2] c new Q[2] u copy Q[] u v new Q p copy Q p u[0] uncopy Q p u[v[0] = nil] class Q int f
-- method inc() f += 1`
abbrev pub uncopy-second_place-text : Source
uncopy-second_place-text = program (class_text (named 6 (codes "P")) None
    ((var kind.IntArray (named 14 (codes "a"))) ∷ (var kind.IntArray (named 22 (codes "b")))
    ∷ (var kind.IntArray (named 30 (codes "c"))) ∷ (var (kind.ClassArray (named 32 (codes "Q")))
    (named 36 (codes "u"))) ∷ (var (kind.ClassArray (named 38 (codes "Q"))) (named 42 (codes "v")))
    ∷ (var (kind.Class (named 44 (codes "Q"))) (named 46 (codes "p"))) ∷ (var kind.Int (named 52 (codes "x"))) ∷ [])
    (procedure (named 61 (codes "main")) [] (block ((New 68 (Ints (Number 76 2)) (Whole (named 79 (codes "a"))))
    ∷ (Copy 81 kind.IntArray (Whole (named 92 (codes "a"))) (Whole (named 94 (codes "b"))))
    ∷ (New 96 (Ints (Number 104 2)) (Whole (named 107 (codes "c"))))
    ∷ (New 109 (Objects (named 113 (codes "Q")) (Number 115 2)) (Whole (named 118 (codes "u"))))
    ∷ (Copy 120 (kind.ClassArray (named 125 (codes "Q"))) (Whole (named 129 (codes "u")))
    (Whole (named 131 (codes "v")))) ∷ (New 133 (AnObject (named 137 (codes "Q")))
    (Whole (named 139 (codes "p")))) ∷ (Copy 141 (kind.Class (named 146 (codes "Q")))
    (Whole (named 148 (codes "p"))) (Item (named 150 (codes "u")) (Number 152 0)))
    ∷ (Uncopy 155 (kind.Class (named 162 (codes "Q"))) (Whole (named 164 (codes "p")))
    (Item (named 166 (codes "u")) (Binary 173 op.Equal (Element (named 168 (codes "v")) (Number 170 0))
    (Null 175)))) ∷ [])) ∷ []) ∷ class_text (named 186 (codes "Q")) None
    ((var kind.Int (named 192 (codes "f"))) ∷ []) (procedure (named 201 (codes "inc")) []
    (block ((Update 207 update.Add (Whole (named 207 (codes "f"))) (Number 212 1)) ∷ [])) ∷ []) ∷ [])

uncopy-second_place : ending uncopy-second_place-text 5 4 [] 2000 ≡ Faulted 16 47
uncopy-second_place = refl

-- `class P int[] a int[] b int[] c Q[] u Q[] v Q p int x method main() new int[2] a copy int[] a b
-- new int[2] c new Q[2] u copy Q[] u v new Q u[0] copy Q u[0] v[1] uncopy Q v[0] u[1] class Q int f
-- method inc() f += 1`
abbrev pub uncopy-first_place_is_no_read-text : Source
uncopy-first_place_is_no_read-text = program (class_text (named 6 (codes "P")) None
    ((var kind.IntArray (named 14 (codes "a"))) ∷ (var kind.IntArray (named 22 (codes "b")))
    ∷ (var kind.IntArray (named 30 (codes "c"))) ∷ (var (kind.ClassArray (named 32 (codes "Q")))
    (named 36 (codes "u"))) ∷ (var (kind.ClassArray (named 38 (codes "Q"))) (named 42 (codes "v")))
    ∷ (var (kind.Class (named 44 (codes "Q"))) (named 46 (codes "p"))) ∷ (var kind.Int (named 52 (codes "x"))) ∷ [])
    (procedure (named 61 (codes "main")) [] (block ((New 68 (Ints (Number 76 2)) (Whole (named 79 (codes "a"))))
    ∷ (Copy 81 kind.IntArray (Whole (named 92 (codes "a"))) (Whole (named 94 (codes "b"))))
    ∷ (New 96 (Ints (Number 104 2)) (Whole (named 107 (codes "c"))))
    ∷ (New 109 (Objects (named 113 (codes "Q")) (Number 115 2)) (Whole (named 118 (codes "u"))))
    ∷ (Copy 120 (kind.ClassArray (named 125 (codes "Q"))) (Whole (named 129 (codes "u")))
    (Whole (named 131 (codes "v")))) ∷ (New 133 (AnObject (named 137 (codes "Q")))
    (Item (named 139 (codes "u")) (Number 141 0))) ∷
    (Copy 144 (kind.Class (named 149 (codes "Q"))) (Item (named 151 (codes "u")) (Number 153 0))
    (Item (named 156 (codes "v")) (Number 158 1))) ∷
    (Uncopy 161 (kind.Class (named 168 (codes "Q"))) (Item (named 170 (codes "v")) (Number 172 0))
    (Item (named 175 (codes "u")) (Number 177 1))) ∷ [])) ∷ [])
    ∷ class_text (named 186 (codes "Q")) None ((var kind.Int (named 192 (codes "f"))) ∷ [])
    (procedure (named 201 (codes "inc")) [] (block ((Update 207 update.Add (Whole (named 207 (codes "f")))
    (Number 212 1)) ∷ [])) ∷ []) ∷ [])

uncopy-first_place_is_no_read : ending uncopy-first_place_is_no_read-text 5 4 [] 2000
    ≡ Finished (lines (codes "a = #1" ∷ codes "b = #1" ∷ codes "c = #2" ∷ codes "u = #3" ∷ codes "v = #3"
    ∷ codes "p = nil" ∷ codes "x = 0" ∷ codes "#1 int[2] count 2" ∷ codes "  [0] = 0" ∷ codes "  [1] = 0"
    ∷ codes "#2 int[2] count 1" ∷ codes "  [0] = 0" ∷ codes "  [1] = 0" ∷ codes "#3 Q[2] count 2"
    ∷ codes "  [0] = #4" ∷ codes "  [1] = nil" ∷ codes "#4 Q count 1" ∷ codes "  f = 0" ∷ codes "live 4" ∷ [])) 46
unfolding digits
uncopy-first_place_is_no_read = refl

-- `class P int[] a int[] b int[] c Q[] u Q[] v Q p int x method main() new int[2] a copy int[] a b
-- new int[2] c new Q[2] u copy Q[] u v new Q u[1] call u[v[0] = nil]::inc() class Q int f method
-- inc() f += 1`
abbrev pub element_call-shared-text : Source
element_call-shared-text = program (class_text (named 6 (codes "P")) None
    ((var kind.IntArray (named 14 (codes "a"))) ∷ (var kind.IntArray (named 22 (codes "b")))
    ∷ (var kind.IntArray (named 30 (codes "c"))) ∷ (var (kind.ClassArray (named 32 (codes "Q")))
    (named 36 (codes "u"))) ∷ (var (kind.ClassArray (named 38 (codes "Q"))) (named 42 (codes "v")))
    ∷ (var (kind.Class (named 44 (codes "Q"))) (named 46 (codes "p"))) ∷ (var kind.Int (named 52 (codes "x"))) ∷ [])
    (procedure (named 61 (codes "main")) [] (block ((New 68 (Ints (Number 76 2)) (Whole (named 79 (codes "a"))))
    ∷ (Copy 81 kind.IntArray (Whole (named 92 (codes "a"))) (Whole (named 94 (codes "b"))))
    ∷ (New 96 (Ints (Number 104 2)) (Whole (named 107 (codes "c"))))
    ∷ (New 109 (Objects (named 113 (codes "Q")) (Number 115 2)) (Whole (named 118 (codes "u"))))
    ∷ (Copy 120 (kind.ClassArray (named 125 (codes "Q"))) (Whole (named 129 (codes "u")))
    (Whole (named 131 (codes "v")))) ∷ (New 133 (AnObject (named 137 (codes "Q")))
    (Item (named 139 (codes "u")) (Number 141 1))) ∷
    (Call 144 false (Some (Item (named 149 (codes "u"))
    (Binary 156 op.Equal (Element (named 151 (codes "v")) (Number 153 0)) (Null 158))))
    (named 164 (codes "inc")) []) ∷ [])) ∷ []) ∷ class_text (named 176 (codes "Q")) None
    ((var kind.Int (named 182 (codes "f"))) ∷ []) (procedure (named 191 (codes "inc")) []
    (block ((Update 197 update.Add (Whole (named 197 (codes "f"))) (Number 202 1)) ∷ [])) ∷ []) ∷ [])

element_call-shared : ending element_call-shared-text 5 4 [] 2000 ≡ Faulted 16 48
element_call-shared = refl

-- `class P int[] a int[] b int[] c Q[] u Q[] v Q p int x method main() new int[2] a copy int[] a b
-- new int[2] c new Q[2] u copy Q[] u v new Q u[0] call v[a[1]]::inc() class Q int f method inc() f
-- += 1`
abbrev pub element_call-not_shared-text : Source
element_call-not_shared-text = program (class_text (named 6 (codes "P")) None
    ((var kind.IntArray (named 14 (codes "a"))) ∷ (var kind.IntArray (named 22 (codes "b")))
    ∷ (var kind.IntArray (named 30 (codes "c"))) ∷ (var (kind.ClassArray (named 32 (codes "Q")))
    (named 36 (codes "u"))) ∷ (var (kind.ClassArray (named 38 (codes "Q"))) (named 42 (codes "v")))
    ∷ (var (kind.Class (named 44 (codes "Q"))) (named 46 (codes "p"))) ∷ (var kind.Int (named 52 (codes "x"))) ∷ [])
    (procedure (named 61 (codes "main")) [] (block ((New 68 (Ints (Number 76 2)) (Whole (named 79 (codes "a"))))
    ∷ (Copy 81 kind.IntArray (Whole (named 92 (codes "a"))) (Whole (named 94 (codes "b"))))
    ∷ (New 96 (Ints (Number 104 2)) (Whole (named 107 (codes "c"))))
    ∷ (New 109 (Objects (named 113 (codes "Q")) (Number 115 2)) (Whole (named 118 (codes "u"))))
    ∷ (Copy 120 (kind.ClassArray (named 125 (codes "Q"))) (Whole (named 129 (codes "u")))
    (Whole (named 131 (codes "v")))) ∷ (New 133 (AnObject (named 137 (codes "Q")))
    (Item (named 139 (codes "u")) (Number 141 0))) ∷
    (Call 144 false (Some (Item (named 149 (codes "v")) (Element (named 151 (codes "a")) (Number 153 1))))
    (named 158 (codes "inc")) []) ∷ [])) ∷ []) ∷ class_text (named 170 (codes "Q")) None
    ((var kind.Int (named 176 (codes "f"))) ∷ []) (procedure (named 185 (codes "inc")) []
    (block ((Update 191 update.Add (Whole (named 191 (codes "f"))) (Number 196 1)) ∷ [])) ∷ []) ∷ [])

element_call-not_shared : ending element_call-not_shared-text 5 4 [] 2000
    ≡ Finished (lines (codes "a = #1" ∷ codes "b = #1" ∷ codes "c = #2" ∷ codes "u = #3" ∷ codes "v = #3"
    ∷ codes "p = nil" ∷ codes "x = 0" ∷ codes "#1 int[2] count 2" ∷ codes "  [0] = 0" ∷ codes "  [1] = 0"
    ∷ codes "#2 int[2] count 1" ∷ codes "  [0] = 0" ∷ codes "  [1] = 0" ∷ codes "#3 Q[2] count 2"
    ∷ codes "  [0] = #4" ∷ codes "  [1] = nil" ∷ codes "#4 Q count 1" ∷ codes "  f = 1" ∷ codes "live 4" ∷ [])) 54
unfolding digits
element_call-not_shared = refl

-- `class P int[] a int[] b int[] c Q[] u Q[] v Q p int x method main() new int[2] a copy int[] a b
-- new int[2] c new Q[2] u copy Q[] u v uncopy int[] a b copy int[] b a class Q int f method inc() f
-- += 1`
abbrev pub copies-nil_array-text : Source
copies-nil_array-text = program (class_text (named 6 (codes "P")) None
    ((var kind.IntArray (named 14 (codes "a"))) ∷ (var kind.IntArray (named 22 (codes "b")))
    ∷ (var kind.IntArray (named 30 (codes "c"))) ∷ (var (kind.ClassArray (named 32 (codes "Q")))
    (named 36 (codes "u"))) ∷ (var (kind.ClassArray (named 38 (codes "Q"))) (named 42 (codes "v")))
    ∷ (var (kind.Class (named 44 (codes "Q"))) (named 46 (codes "p"))) ∷ (var kind.Int (named 52 (codes "x"))) ∷ [])
    (procedure (named 61 (codes "main")) [] (block ((New 68 (Ints (Number 76 2)) (Whole (named 79 (codes "a"))))
    ∷ (Copy 81 kind.IntArray (Whole (named 92 (codes "a"))) (Whole (named 94 (codes "b"))))
    ∷ (New 96 (Ints (Number 104 2)) (Whole (named 107 (codes "c"))))
    ∷ (New 109 (Objects (named 113 (codes "Q")) (Number 115 2)) (Whole (named 118 (codes "u"))))
    ∷ (Copy 120 (kind.ClassArray (named 125 (codes "Q"))) (Whole (named 129 (codes "u")))
    (Whole (named 131 (codes "v")))) ∷ (Uncopy 133 kind.IntArray (Whole (named 146 (codes "a")))
    (Whole (named 148 (codes "b")))) ∷ (Copy 150 kind.IntArray (Whole (named 161 (codes "b")))
    (Whole (named 163 (codes "a")))) ∷ [])) ∷ []) ∷ class_text (named 171 (codes "Q")) None
    ((var kind.Int (named 177 (codes "f"))) ∷ []) (procedure (named 186 (codes "inc")) []
    (block ((Update 192 update.Add (Whole (named 192 (codes "f"))) (Number 197 1)) ∷ [])) ∷ []) ∷ [])

copies-nil_array : ending copies-nil_array-text 4 4 [] 2000 ≡ Faulted 5 31
copies-nil_array = refl

-- `class P int[] a int[] b int[] c Q[] u Q[] v Q p int x method main() new int[2] a copy int[] a b
-- new int[2] c new Q[2] u copy Q[] u v copy int[] a c class Q int f method inc() f += 1`
abbrev pub copies-filled_array-text : Source
copies-filled_array-text = program (class_text (named 6 (codes "P")) None
    ((var kind.IntArray (named 14 (codes "a"))) ∷ (var kind.IntArray (named 22 (codes "b")))
    ∷ (var kind.IntArray (named 30 (codes "c"))) ∷ (var (kind.ClassArray (named 32 (codes "Q")))
    (named 36 (codes "u"))) ∷ (var (kind.ClassArray (named 38 (codes "Q"))) (named 42 (codes "v")))
    ∷ (var (kind.Class (named 44 (codes "Q"))) (named 46 (codes "p"))) ∷ (var kind.Int (named 52 (codes "x"))) ∷ [])
    (procedure (named 61 (codes "main")) [] (block ((New 68 (Ints (Number 76 2)) (Whole (named 79 (codes "a"))))
    ∷ (Copy 81 kind.IntArray (Whole (named 92 (codes "a"))) (Whole (named 94 (codes "b"))))
    ∷ (New 96 (Ints (Number 104 2)) (Whole (named 107 (codes "c"))))
    ∷ (New 109 (Objects (named 113 (codes "Q")) (Number 115 2)) (Whole (named 118 (codes "u"))))
    ∷ (Copy 120 (kind.ClassArray (named 125 (codes "Q"))) (Whole (named 129 (codes "u")))
    (Whole (named 131 (codes "v")))) ∷ (Copy 133 kind.IntArray (Whole (named 144 (codes "a")))
    (Whole (named 146 (codes "c")))) ∷ [])) ∷ []) ∷ class_text (named 154 (codes "Q")) None
    ((var kind.Int (named 160 (codes "f"))) ∷ []) (procedure (named 169 (codes "inc")) []
    (block ((Update 175 update.Add (Whole (named 175 (codes "f"))) (Number 180 1)) ∷ [])) ∷ []) ∷ [])

copies-filled_array : ending copies-filled_array-text 4 4 [] 2000 ≡ Faulted 4 30
copies-filled_array = refl

-- `class P int[] a int[] b int[] c Q[] u Q[] v Q p int x method main() new int[2] a copy int[] a b
-- new int[2] c new Q[2] u copy Q[] u v uncopy int[] a c class Q int f method inc() f += 1`
abbrev pub uncopies-other_array-text : Source
uncopies-other_array-text = program (class_text (named 6 (codes "P")) None
    ((var kind.IntArray (named 14 (codes "a"))) ∷ (var kind.IntArray (named 22 (codes "b")))
    ∷ (var kind.IntArray (named 30 (codes "c"))) ∷ (var (kind.ClassArray (named 32 (codes "Q")))
    (named 36 (codes "u"))) ∷ (var (kind.ClassArray (named 38 (codes "Q"))) (named 42 (codes "v")))
    ∷ (var (kind.Class (named 44 (codes "Q"))) (named 46 (codes "p"))) ∷ (var kind.Int (named 52 (codes "x"))) ∷ [])
    (procedure (named 61 (codes "main")) [] (block ((New 68 (Ints (Number 76 2)) (Whole (named 79 (codes "a"))))
    ∷ (Copy 81 kind.IntArray (Whole (named 92 (codes "a"))) (Whole (named 94 (codes "b"))))
    ∷ (New 96 (Ints (Number 104 2)) (Whole (named 107 (codes "c"))))
    ∷ (New 109 (Objects (named 113 (codes "Q")) (Number 115 2)) (Whole (named 118 (codes "u"))))
    ∷ (Copy 120 (kind.ClassArray (named 125 (codes "Q"))) (Whole (named 129 (codes "u")))
    (Whole (named 131 (codes "v")))) ∷ (Uncopy 133 kind.IntArray (Whole (named 146 (codes "a")))
    (Whole (named 148 (codes "c")))) ∷ [])) ∷ []) ∷ class_text (named 156 (codes "Q")) None
    ((var kind.Int (named 162 (codes "f"))) ∷ []) (procedure (named 171 (codes "inc")) []
    (block ((Update 177 update.Add (Whole (named 177 (codes "f"))) (Number 182 1)) ∷ [])) ∷ []) ∷ [])

uncopies-other_array : ending uncopies-other_array-text 4 4 [] 2000 ≡ Faulted 10 30
uncopies-other_array = refl

-- the read elements count before the check
value_shares-unfinished : ending value_shares-text 2 1 [] 12 ≡ Unfinished
value_shares-unfinished = refl
