-- Runs of programs and of their inverse programs: one that leads back, and one whose inverse
-- program finds no block.
use Rattle.std.specs.Prelude.{◌≡◌, false, [], ◌∷◌, None, codes}
use Rattle.std.specs.Fmt.{digits}
use Rattle.std.proofs.Common.{refl}
use Rattle.meaning_reached.specs.rpp_tree.declared.tree.VarType.TheVariants as kind
use Rattle.meaning_reached.specs.rpp_tree.declared.tree.UpdateOp.TheVariants as update
use Rattle.meaning_reached.specs.rpp_tree.Tree.{Number, Variable, Whole, Ints, Update, New, Delete, Call, Source}
use Rattle.meaning_reached.specs.inverse_rules.Inverse.{inverse_program}
use Rattle.meaning_reached.proofs.roopl_semantics_laws.Testing.{named, var, procedure, class_text, block, program, Finished, Faulted, lines}
use Rattle.meaning_reached.proofs.roopl_semantics_laws.Testing.{ending, word_for}

-- `class P int x int y method main() call add() y += x method add() x += 3`
abbrev called-text : Source
called-text =
    program (class_text (named 6 (codes "P")) None (var kind.Int (named 12 (codes "x"))
    ∷ var kind.Int (named 18 (codes "y")) ∷ [])
    (procedure (named 27 (codes "main")) [] (block (Call 34 false None (named 39 (codes "add")) []
    ∷ Update 45 update.Add (Whole (named 45 (codes "y"))) (Variable (named 50 (codes "x"))) ∷ []))
    ∷ procedure (named 59 (codes "add")) [] (block (Update 65 update.Add (Whole (named 65 (codes "x"))) (Number 70 3)
    ∷ [])) ∷ []) ∷ [])

called : ending called-text 1 2 [] 1000 ≡ Finished (lines (codes "x = 3" ∷ codes "y = 3" ∷ codes "live 0" ∷ [])) 5
unfolding digits
called = refl

-- with the final fields as its input
called-inverse : ending (inverse_program called-text) 1 2 (word_for 0 3 ∷ word_for 1 3 ∷ []) 1000
    ≡ Finished (lines (codes "x = 0" ∷ codes "y = 0" ∷ codes "live 0" ∷ [])) 5
unfolding digits
called-inverse = refl

-- `class P int[] w int[] a int[] b method main() new int[14] w delete int[14] w new int[6] a new
-- int[6] b delete int[6] a delete int[6] b`
abbrev fragmented-text : Source
fragmented-text =
    program (class_text (named 6 (codes "P")) None (var kind.IntArray (named 14 (codes "w"))
    ∷ var kind.IntArray (named 22 (codes "a")) ∷ var kind.IntArray (named 30 (codes "b")) ∷ [])
    (procedure (named 39 (codes "main")) [] (block (New 46 (Ints (Number 54 14)) (Whole (named 58 (codes "w")))
    ∷ Delete 60 (Ints (Number 71 14)) (Whole (named 75 (codes "w")))
    ∷ New 77 (Ints (Number 85 6)) (Whole (named 88 (codes "a")))
    ∷ New 90 (Ints (Number 98 6)) (Whole (named 101 (codes "b")))
    ∷ Delete 103 (Ints (Number 114 6)) (Whole (named 117 (codes "a")))
    ∷ Delete 119 (Ints (Number 130 6)) (Whole (named 133 (codes "b"))) ∷ [])) ∷ []) ∷ [])

fragmented : ending fragmented-text 4 1 [] 1000 ≡ Finished
    (lines (codes "w = nil" ∷ codes "a = nil" ∷ codes "b = nil" ∷ codes "live 0" ∷ [])) 94
unfolding digits
fragmented = refl

-- the lower half was given back last, so the halves did not merge; run with the final fields from
-- an empty heap, `new int[14] w` finds no block
fragmented-inverse : ending (inverse_program fragmented-text) 4 1 [] 1000 ≡ Faulted 8 59
fragmented-inverse = refl
