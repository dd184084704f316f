-- Worked programs with only int fields.
use Rattle.std.specs.Prelude.{◌≡◌, [], ◌∷◌, None, codes}
use Rattle.std.specs.Fmt.{digits}
use Rattle.std.proofs.Common.{refl}
use Rattle.inverse_rules.specs.rpp_tree.declared.tree.VarType.TheVariants as kind
use Rattle.inverse_rules.specs.rpp_tree.declared.tree.BinOp.TheVariants as op
use Rattle.inverse_rules.specs.rpp_tree.declared.tree.UpdateOp.TheVariants as update
use Rattle.inverse_rules.specs.rpp_tree.Tree.{Number, Variable, Binary, Whole, Update, If, From, Local, Skip, Source}
use Rattle.roopl_semantics.proofs.Testing.{named, var, procedure, class_text, block, program, word_for, Finished}
use Rattle.roopl_semantics.proofs.Testing.{Faulted, Unfinished, lines, ending}

-- `class P int x method main() x += 5`
abbrev pub adds-text : Source
adds-text = program (class_text (named 6 (codes "P")) None ((var kind.Int (named 12 (codes "x"))) ∷ [])
    (procedure (named 21 (codes "main")) [] (block ((Update 28 update.Add (Whole (named 28 (codes "x")))
    (Number 33 5)) ∷ [])) ∷ []) ∷ [])

adds : ending adds-text 1 1 [] 2 ≡ Finished (lines (codes "x = 5" ∷ codes "live 0" ∷ [])) 2
unfolding digits
adds = refl

adds-too_few_turns : ending adds-text 1 1 [] 1 ≡ Unfinished
adds-too_few_turns = refl

-- `class P int x method main() x -= 1`
abbrev pub subtracts-text : Source
subtracts-text = program (class_text (named 6 (codes "P")) None ((var kind.Int (named 12 (codes "x"))) ∷ [])
    (procedure (named 21 (codes "main")) [] (block ((Update 28 update.Sub (Whole (named 28 (codes "x")))
    (Number 33 1)) ∷ [])) ∷ []) ∷ [])

subtracts : ending subtracts-text 1 1 [] 10 ≡ Finished (lines (codes "x = -1" ∷ codes "live 0" ∷ [])) 2
unfolding digits
subtracts = refl

-- `class P int x method main() x += 1`
abbrev pub wraps-text : Source
wraps-text = program (class_text (named 6 (codes "P")) None ((var kind.Int (named 12 (codes "x"))) ∷ [])
    (procedure (named 21 (codes "main")) [] (block ((Update 28 update.Add (Whole (named 28 (codes "x")))
    (Number 33 1)) ∷ [])) ∷ []) ∷ [])

wraps : ending wraps-text 1 1 (word_for 0 2147483647 ∷ []) 10
    ≡ Finished (lines (codes "x = -2147483648" ∷ codes "live 0" ∷ [])) 2
unfolding digits
wraps = refl

-- `class P int x method main() x += (2147483647 < (0 - 2147483647 - 1))`
abbrev pub compares_signed-text : Source
compares_signed-text = program (class_text (named 6 (codes "P")) None ((var kind.Int (named 12 (codes "x"))) ∷ [])
    (procedure (named 21 (codes "main")) [] (block ((Update 28 update.Add (Whole (named 28 (codes "x")))
    (Binary 45 op.Less (Number 34 2147483647) (Binary 63 op.Sub
    (Binary 50 op.Sub (Number 48 0) (Number 52 2147483647)) (Number 65 1)))) ∷ [])) ∷ []) ∷ [])

compares_signed : ending compares_signed-text 1 1 [] 10 ≡ Finished (lines (codes "x = 0" ∷ codes "live 0" ∷ [])) 8
unfolding digits
compares_signed = refl

-- `class P int x method main() if x = 0 then x += 1 else skip fi x = 0`
abbrev pub fi-after_then-text : Source
fi-after_then-text = program (class_text (named 6 (codes "P")) None ((var kind.Int (named 12 (codes "x"))) ∷ [])
    (procedure (named 21 (codes "main")) [] (block ((If 28
    (Binary 33 op.Equal (Variable (named 31 (codes "x"))) (Number 35 0))
    (block ((Update 42 update.Add (Whole (named 42 (codes "x"))) (Number 47 1)) ∷ []))
    (block ((Skip 54) ∷ [])) (Binary 64 op.Equal (Variable (named 62 (codes "x"))) (Number 66 0))) ∷ []))
    ∷ []) ∷ [])

fi-after_then : ending fi-after_then-text 1 1 [] 1000 ≡ Faulted 1 9
fi-after_then = refl

-- `class P int x method main() if x = 0 then x += 1 else skip fi x = 1`
abbrev pub fi-after_else-text : Source
fi-after_else-text = program (class_text (named 6 (codes "P")) None ((var kind.Int (named 12 (codes "x"))) ∷ [])
    (procedure (named 21 (codes "main")) [] (block ((If 28
    (Binary 33 op.Equal (Variable (named 31 (codes "x"))) (Number 35 0))
    (block ((Update 42 update.Add (Whole (named 42 (codes "x"))) (Number 47 1)) ∷ []))
    (block ((Skip 54) ∷ [])) (Binary 64 op.Equal (Variable (named 62 (codes "x"))) (Number 66 1))) ∷ []))
    ∷ []) ∷ [])

fi-after_else : ending fi-after_else-text 1 1 (word_for 0 1 ∷ []) 1000 ≡ Faulted 1 8
fi-after_else = refl

-- `class P int x method main() from x = 0 do x += 1 loop skip until x = 10`
abbrev pub loop-text : Source
loop-text = program (class_text (named 6 (codes "P")) None ((var kind.Int (named 12 (codes "x"))) ∷ [])
    (procedure (named 21 (codes "main")) [] (block ((From 28
    (Binary 35 op.Equal (Variable (named 33 (codes "x"))) (Number 37 0))
    (block ((Update 42 update.Add (Whole (named 42 (codes "x"))) (Number 47 1)) ∷ []))
    (block ((Skip 54) ∷ [])) (Binary 67 op.Equal (Variable (named 65 (codes "x"))) (Number 69 10))) ∷ []))
    ∷ []) ∷ [])

loop : ending loop-text 1 1 [] 1000 ≡ Finished (lines (codes "x = 10" ∷ codes "live 0" ∷ [])) 90
unfolding digits
loop = refl

loop-not_entered : ending loop-text 1 1 (word_for 0 1 ∷ []) 1000 ≡ Faulted 2 4
loop-not_entered = refl

-- `class P int x method main() from 0 = 0 do x += 1 loop skip until x = 10`
abbrev pub loop-entered_again-text : Source
loop-entered_again-text = program (class_text (named 6 (codes "P")) None ((var kind.Int (named 12 (codes "x"))) ∷ [])
    (procedure (named 21 (codes "main")) [] (block ((From 28 (Binary 35 op.Equal (Number 33 0) (Number 37 0))
    (block ((Update 42 update.Add (Whole (named 42 (codes "x"))) (Number 47 1)) ∷ []))
    (block ((Skip 54) ∷ [])) (Binary 67 op.Equal (Variable (named 65 (codes "x"))) (Number 69 10))) ∷ []))
    ∷ []) ∷ [])

loop-entered_again : ending loop-entered_again-text 1 1 [] 1000 ≡ Faulted 2 13
loop-entered_again = refl

-- `class P int x method main() x += 1 from x = 1 do skip loop x += 1 until x = 0`
abbrev endless-text : Source
endless-text = program (class_text (named 6 (codes "P")) None ((var kind.Int (named 12 (codes "x"))) ∷ [])
    (procedure (named 21 (codes "main")) [] (block ((Update 28 update.Add (Whole (named 28 (codes "x")))
    (Number 33 1)) ∷ (From 35 (Binary 42 op.Equal (Variable (named 40 (codes "x"))) (Number 44 1))
    (block ((Skip 49) ∷ [])) (block ((Update 59 update.Add (Whole (named 59 (codes "x"))) (Number 64 1))
    ∷ [])) (Binary 74 op.Equal (Variable (named 72 (codes "x"))) (Number 76 0))) ∷ [])) ∷ []) ∷ [])

endless : ending endless-text 1 1 [] 1000 ≡ Unfinished
endless = refl

-- `class P int x method main() local int t = 0 t += 1 delocal int t = 0`
abbrev local-differs-text : Source
local-differs-text = program (class_text (named 6 (codes "P")) None ((var kind.Int (named 12 (codes "x"))) ∷ [])
    (procedure (named 21 (codes "main")) [] (block ((Local 28 (var kind.Int (named 38 (codes "t"))) (Number 42 0)
    (block ((Update 44 update.Add (Whole (named 44 (codes "t"))) (Number 49 1)) ∷ []))
    (var kind.Int (named 63 (codes "t"))) (Number 67 0)) ∷ [])) ∷ []) ∷ [])

local-differs : ending local-differs-text 1 1 [] 1000 ≡ Faulted 3 5
local-differs = refl
