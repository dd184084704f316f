-- Worked programs with arrays.
use Rattle.std.specs.Prelude.{◌≡◌, true, false, [], ◌∷◌, Some, None, codes}
use Rattle.std.specs.Fmt.{digits}
use Rattle.std.proofs.Common.{refl}
use Rattle.inverse_rules.specs.rpp_tree.declared.tree.VarType.TheVariants as kind
use Rattle.inverse_rules.specs.rpp_tree.declared.tree.BinOp.TheVariants as op
use Rattle.inverse_rules.specs.rpp_tree.declared.tree.UpdateOp.TheVariants as update
use Rattle.inverse_rules.specs.rpp_tree.Tree.{Number, Binary, Whole, Item, Object as AnObject, Ints, Objects, Update, Swap, New}
use Rattle.inverse_rules.specs.rpp_tree.Tree.{Delete, Call, Source}
use Rattle.roopl_semantics.proofs.Testing.{named, var, procedure, class_text, block, program, Finished, Faulted, lines}
use Rattle.roopl_semantics.proofs.Testing.{ending}

-- `class P int[] a method main() new int[3] a a[3] += 1`
abbrev pub index-past_end-text : Source
index-past_end-text = program (class_text (named 6 (codes "P")) None ((var kind.IntArray (named 14 (codes "a"))) ∷ [])
    (procedure (named 23 (codes "main")) [] (block ((New 30 (Ints (Number 38 3)) (Whole (named 41 (codes "a"))))
    ∷ (Update 43 update.Add (Item (named 43 (codes "a")) (Number 45 3)) (Number 51 1)) ∷ [])) ∷ []) ∷ [])

index-past_end : ending index-past_end-text 3 1 [] 1000 ≡ Faulted 9 11
index-past_end = refl

-- `class P int[] a method main() new int[3] a a[0 - 1] += 1`
abbrev pub index-negative-text : Source
index-negative-text = program (class_text (named 6 (codes "P")) None ((var kind.IntArray (named 14 (codes "a"))) ∷ [])
    (procedure (named 23 (codes "main")) [] (block ((New 30 (Ints (Number 38 3)) (Whole (named 41 (codes "a"))))
    ∷ (Update 43 update.Add (Item (named 43 (codes "a")) (Binary 47 op.Sub (Number 45 0) (Number 49 1)))
    (Number 55 1)) ∷ [])) ∷ []) ∷ [])

index-negative : ending index-negative-text 3 1 [] 1000 ≡ Faulted 9 13
index-negative = refl

-- `class P int[] a method main() new int[0] a`
abbrev pub array-no_length-text : Source
array-no_length-text = program (class_text (named 6 (codes "P")) None ((var kind.IntArray (named 14 (codes "a"))) ∷ [])
    (procedure (named 23 (codes "main")) [] (block ((New 30 (Ints (Number 38 0)) (Whole (named 41 (codes "a"))))
    ∷ [])) ∷ []) ∷ [])

array-no_length : ending array-no_length-text 3 1 [] 1000 ≡ Faulted 13 2
array-no_length = refl

-- `class P int[] a method main() new int[7] a`
abbrev pub array-no_block-text : Source
array-no_block-text = program (class_text (named 6 (codes "P")) None ((var kind.IntArray (named 14 (codes "a"))) ∷ [])
    (procedure (named 23 (codes "main")) [] (block ((New 30 (Ints (Number 38 7)) (Whole (named 41 (codes "a"))))
    ∷ [])) ∷ []) ∷ [])

array-no_block : ending array-no_block-text 3 1 [] 1000 ≡ Faulted 8 6
array-no_block = refl

-- `class P int[] a method main() new int[3] a delete int[2] a`
abbrev pub array-other_length-text : Source
array-other_length-text = program (class_text (named 6 (codes "P")) None
    ((var kind.IntArray (named 14 (codes "a"))) ∷ []) (procedure (named 23 (codes "main")) []
    (block ((New 30 (Ints (Number 38 3)) (Whole (named 41 (codes "a"))))
    ∷ (Delete 43 (Ints (Number 54 2)) (Whole (named 57 (codes "a")))) ∷ [])) ∷ []) ∷ [])

array-other_length : ending array-other_length-text 3 1 [] 1000 ≡ Faulted 12 11
array-other_length = refl

-- `class P int[] a method main() new int[3] a a[1] <=> a[1]`
abbrev pub element-swapped_with_itself-text : Source
element-swapped_with_itself-text = program (class_text (named 6 (codes "P")) None
    ((var kind.IntArray (named 14 (codes "a"))) ∷ []) (procedure (named 23 (codes "main")) []
    (block ((New 30 (Ints (Number 38 3)) (Whole (named 41 (codes "a"))))
    ∷ (Swap 43 (Item (named 43 (codes "a")) (Number 45 1)) (Item (named 52 (codes "a")) (Number 54 1))) ∷ []))
    ∷ []) ∷ [])

element-swapped_with_itself : ending element-swapped_with_itself-text 3 1 [] 1000
    ≡ Finished (lines (codes "a = #1" ∷ codes "#1 int[3] count 1" ∷ codes "  [0] = 0" ∷ codes "  [1] = 0"
    ∷ codes "  [2] = 0" ∷ codes "live 1" ∷ [])) 12
unfolding digits
element-swapped_with_itself = refl

-- `class P Q[] qs int n method main() new Q[2] qs new Q qs[1] call qs[1]::inc(n) uncall
-- qs[1]::inc(n) delete Q qs[1] delete Q[2] qs class Q int f method inc(int m) f += 7 m += 3`
abbrev element-text : Source
element-text = program (class_text (named 6 (codes "P")) None
    ((var (kind.ClassArray (named 8 (codes "Q"))) (named 12 (codes "qs"))) ∷ (var kind.Int (named 19 (codes "n")))
    ∷ []) (procedure (named 28 (codes "main")) [] (block
    ((New 35 (Objects (named 39 (codes "Q")) (Number 41 2)) (Whole (named 44 (codes "qs"))))
    ∷ (New 47 (AnObject (named 51 (codes "Q"))) (Item (named 53 (codes "qs")) (Number 56 1)))
    ∷ (Call 59 false (Some (Item (named 64 (codes "qs")) (Number 67 1))) (named 71 (codes "inc"))
    ((named 75 (codes "n")) ∷ [])) ∷ (Call 78 true (Some (Item (named 85 (codes "qs")) (Number 88 1)))
    (named 92 (codes "inc")) ((named 96 (codes "n")) ∷ []))
    ∷ (Delete 99 (AnObject (named 106 (codes "Q"))) (Item (named 108 (codes "qs")) (Number 111 1)))
    ∷ (Delete 114 (Objects (named 121 (codes "Q")) (Number 123 2)) (Whole (named 126 (codes "qs")))) ∷ []))
    ∷ []) ∷ class_text (named 135 (codes "Q")) None ((var kind.Int (named 141 (codes "f"))) ∷ [])
    (procedure (named 150 (codes "inc")) ((var kind.Int (named 158 (codes "m"))) ∷ [])
    (block ((Update 161 update.Add (Whole (named 161 (codes "f"))) (Number 166 7))
    ∷ (Update 168 update.Add (Whole (named 168 (codes "m"))) (Number 173 3)) ∷ [])) ∷ []) ∷ [])

element : ending element-text 4 3 [] 1000 ≡ Finished (lines (codes "qs = nil" ∷ codes "n = 0" ∷ codes "live 0" ∷ [])) 58
unfolding digits
element = refl
