-- Two lists that are compared part by part: what is left decides as the whole does.
use Rattle.std.proofs.Common.{◌≡◌, ◌↔◌, ℕ, suc, List, [], ◌∷◌, length, drop, map, refl, ap}
use Rattle.rpp_tree.specs.Tree.{Statement, Statements, Then}
use Rattle.rpp_tree.specs.Views.{statement_of, block_of, statements_of}
use Rattle.rpp_tree.specs.Bare.{bare_statement, bare}
use Rattle.rpp_tree.specs.declared.tree.Stmt.{Stmt}
use Rattle.rpp_tree.specs.declared.tree.Block.{Block}
use Rattle.rpp_tree.proofs.Blocks.{block_of-list}

-- the rests from i on are the same exactly if the wholes are
abbrev pub RestDecides : (A D : Type 0) (view : List A → D) (a b : List A) (i : ℕ) → Type 0
RestDecides A D view a b i = (view (drop i a) ≡ view (drop i b)) ↔ (view a ≡ view b)

-- the block of a list of statements, without places
abbrev pub bare_block : List Stmt → Statements
bare_block list = bare (statements_of (map statement_of list))

pub bare-block_of : (block : Block) → bare (block_of block) ≡ bare_block block.list.items
bare-block_of block = ap bare (block_of-list block)

then_apart : (first other : Statement) (rest others : Statements) → Then first rest ≡ Then other others → rest ≡ others
then_apart first other rest others same = cc

pub same_length : (a b : List Stmt) → bare_block a ≡ bare_block b → length a ≡ length b
same_length [] [] same = refl
same_length [] (y ∷ ys) same = cc
same_length (x ∷ xs) [] same = cc
same_length (x ∷ xs) (y ∷ ys) same =
    ap suc (same_length xs ys (then_apart (bare_statement (statement_of x)) (bare_statement (statement_of y))
    (bare_block xs) (bare_block ys) same))
