-- Worked values of the operators, and how local variables nest.
use Rattle.std.specs.Prelude.{◌≡◌, ℕ, List, [], ◌∷◌, None, codes}
use Rattle.std.specs.Fmt.{digits}
use Rattle.std.proofs.Common.{refl}
use Rattle.inverse_rules.specs.rpp_tree.declared.tree.VarType.TheVariants as kind
use Rattle.inverse_rules.specs.rpp_tree.declared.tree.BinOp.TheVariants as op
use Rattle.inverse_rules.specs.rpp_tree.declared.tree.UpdateOp.TheVariants as update
use Rattle.inverse_rules.specs.rpp_tree.declared.tree.Var.{Var}
use Rattle.inverse_rules.specs.rpp_tree.Tree.{Number, Variable, Whole, Update, Local, Source}
use Rattle.roopl_semantics.specs.Operators.{operated, updated}
use Rattle.roopl_semantics.proofs.Testing.{named, var, procedure, class_text, block, program, Finished, lines, ending}

-- sums and differences are words; the other results are 0 or 1, bits, or bits of both
abbrev values : List ℕ
values =
    operated op.Add 4294967295 2 ∷ operated op.Sub 1 2 ∷ operated op.Xor 12 10 ∷ operated op.And 12 10
    ∷ operated op.Or 12 10
    ∷ operated op.AndAlso 1 2 ∷ operated op.AndAlso 0 2 ∷ operated op.OrElse 3 0 ∷ operated op.OrElse 0 0
    ∷ operated op.Less 4294967295 0 ∷ operated op.Less 0 0 ∷ operated op.Greater 0 4294967295 ∷ operated op.Greater 0 0
    ∷ operated op.AtMost 0 0 ∷ operated op.AtMost 0 4294967295 ∷ operated op.AtLeast 0 0
    ∷ operated op.AtLeast 4294967295 0
    ∷ operated op.Equal 7 7 ∷ operated op.Equal 7 8 ∷ operated op.NotEqual 7 7 ∷ operated op.NotEqual 7 8
    ∷ updated update.Add 5 3 ∷ updated update.Sub 5 3 ∷ updated update.Xor 5 3 ∷ []

operators : values ≡ 1 ∷ 4294967295 ∷ 6 ∷ 8 ∷ 14 ∷ 1 ∷ 0 ∷ 1 ∷ 0 ∷ 1 ∷ 0 ∷ 1 ∷ 0 ∷ 1 ∷ 0 ∷ 1 ∷ 0 ∷ 1 ∷ 0 ∷ 0 ∷ 1 ∷ 8 ∷ 2
    ∷ 6 ∷ []
operators = refl

-- `class P int x method main()
--   local int s = 1  local int t = 2  x += t  delocal int t = 2  delocal int s = 1`
abbrev int_var : List ℕ → Var
int_var name = var kind.Int (named 0 name)

abbrev nested-text : Source
nested-text =
    program (class_text (named 0 (codes "P")) None (int_var (codes "x") ∷ [])
    (procedure (named 0 (codes "main")) [] (block
    (Local 0 (int_var (codes "s")) (Number 0 1) (block
    (Local 0 (int_var (codes "t")) (Number 0 2) (block
    (Update 0 update.Add (Whole (named 0 (codes "x"))) (Variable (named 0 (codes "t"))) ∷ []))
    (int_var (codes "t")) (Number 0 2) ∷ []))
    (int_var (codes "s")) (Number 0 1) ∷ [])) ∷ []) ∷ [])

-- the innermost local is the first
locals-nest : ending nested-text 4 1 [] 100 ≡ Finished (lines (codes "x = 2" ∷ codes "live 0" ∷ [])) 8
unfolding digits
locals-nest = refl
