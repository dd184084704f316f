-- The statements of a block by their places.
use Rattle.std.proofs.Common.{◌≡◌, ℕ, zero, suc, ◌+◌, ◌<◌, ◌≤◌, ◌^◌, refl, sym, ap, ◌∙◌, arith, List, [], ◌∷◌}
use Rattle.std.proofs.Common.{length, map, get_or, Bool, true, false}
use Rattle.source_steps.specs.rpp_tree.declared.tree.Stmt.{Stmt}
use Rattle.source_steps.specs.rpp_tree.declared.tree.Block.{Block}
use Rattle.source_steps.specs.rpp_tree.Tree.{Whole, Object as AnObject, Statement, Statements, New, Delete, End, Then, joined}
use Rattle.source_steps.specs.rpp_tree.Views.{statement_of, statements_of, block_of}
use Rattle.source_steps.proofs.rpp_tree_laws.Blocks.{block_of-list}
use Rattle.source_steps.specs.inverse_rules.Inverse.{inverse_statement, inverse}
use Rattle.source_steps.specs.roopl_semantics.Execution.{in_direction}
use Rattle.source_steps.specs.Ends.{turned}
use Rattle.source_blocks.specs.declared.task.Task.{Task}
use Rattle.source_blocks.specs.declared.task.Task.TheVariants as task
use Rattle.source_blocks.specs.Blocks.{statement_at, rest_at, statement_count}
use Rattle.source_blocks.specs.Tasks.{task_of}

pub rest_here : (at : ℕ) (body : Statements) → at < statement_count body
    → rest_at at body ≡ Then (statement_at at body) (rest_at (suc at) body)
rest_here zero End h = absurd (omega arith)
rest_here (suc at) End h = absurd (omega arith)
rest_here zero (Then s rest) h = refl
rest_here (suc at) (Then s rest) h = rest_here at rest (omega arith)

pub rest_end : (at : ℕ) (body : Statements) → statement_count body ≤ at → rest_at at body ≡ End
rest_end zero End h = refl
rest_end (suc at) End h = refl
rest_end zero (Then s rest) h = absurd (omega arith)
rest_end (suc at) (Then s rest) h = rest_end at rest (omega arith)

count_joined : (a b : Statements) → statement_count (joined a b) ≡ statement_count a + statement_count b
count_joined End b = omega arith
count_joined (Then s rest) b = let e = count_joined rest b in omega arith

at_front : (at : ℕ) (a b : Statements) → at < statement_count a → statement_at at (joined a b) ≡ statement_at at a
at_front zero End b h = absurd (omega arith)
at_front (suc at) End b h = absurd (omega arith)
at_front zero (Then s rest) b h = refl
at_front (suc at) (Then s rest) b h = at_front at rest b (omega arith)

at_back : (at : ℕ) (a b : Statements) (k : ℕ) → k ≡ statement_count a + at
    → statement_at k (joined a b) ≡ statement_at at b
at_back at End b k e = let same : k ≡ at = omega arith in ap (λ n. statement_at n b) same
at_back at (Then s rest) b zero e = absurd (omega arith)
at_back at (Then s rest) b (suc k) e = at_back at rest b k (omega arith)

pub count_inverse : (body : Statements) → statement_count (inverse body) ≡ statement_count body
count_inverse End = refl
count_inverse (Then s rest) =
    let e : statement_count (joined (inverse rest) (Then (inverse_statement s) End))
    ≡ statement_count (inverse rest) + 1 =
    count_joined (inverse rest) (Then (inverse_statement s) End) in
    let f = count_inverse rest in
    omega arith

pub at_inverse : (body : Statements) (at back : ℕ) → at + suc back ≡ statement_count body
    → statement_at at (inverse body) ≡ inverse_statement (statement_at back body)
at_inverse End at back e = absurd (omega arith)
at_inverse (Then s rest) at zero e =
    let c = count_inverse rest in
    let last : at ≡ statement_count (inverse rest) + 0 = omega arith in
    at_back 0 (inverse rest) (Then (inverse_statement s) End) at last
at_inverse (Then s rest) at (suc back) e =
    let c = count_inverse rest in
    let inside : at < statement_count (inverse rest) = omega arith in
    at_front at (inverse rest) (Then (inverse_statement s) End) inside ∙ at_inverse rest at back (omega arith)

count_list : (items : List Stmt) → statement_count (statements_of (map statement_of items)) ≡ length items
count_list [] = refl
count_list (s ∷ items) = ap suc (count_list items)

at_list : (items : List Stmt) (at : ℕ) (s : Stmt) → at < length items → s ≡ get_or items at s
    → statement_at at (statements_of (map statement_of items)) ≡ statement_of s
at_list [] at s h e = absurd (omega arith)
at_list (x ∷ items) zero s h e = ap statement_of (sym e)
at_list (x ∷ items) (suc at) s h e = at_list items at s (omega arith) e

count_block : (block : Block) → statement_count (block_of block) ≡ length block.list.items
count_block block = ap statement_count (block_of-list block) ∙ count_list block.list.items

pub block_count : (back : Bool) (block : Block)
    → statement_count (in_direction back (block_of block)) ≡ length block.list.items
block_count true block = count_inverse (block_of block) ∙ count_block block
block_count false block = count_block block

at_block : (block : Block) (at : ℕ) (s : Stmt) → at < length block.list.items
    → s ≡ get_or block.list.items at s → statement_at at (block_of block) ≡ statement_of s
at_block block at s h e = ap (statement_at at) (block_of-list block) ∙ at_list block.list.items at s h e

pub forward_at : (block : Block) (at : ℕ) (s : Stmt) → at < length block.list.items
    → s ≡ get_or block.list.items at s → statement_of s ≡ statement_at at (block_of block)
forward_at block at s h e = sym (at_block block at s h e)

pub backward_at : (block : Block) (at back : ℕ) (s : Stmt) → at + suc back ≡ length block.list.items
    → s ≡ get_or block.list.items back s
    → inverse_statement (statement_of s) ≡ statement_at at (inverse (block_of block))
backward_at block at back s h e =
    let c = count_block block in
    let inside : at + suc back ≡ statement_count (block_of block) = omega arith in
    ap inverse_statement (sym (at_block block back s (omega arith) e))
    ∙ sym (at_inverse (block_of block) at back inside)

-- the same in a direction
pub line_forward : (block : Block) (back : Bool) (at : ℕ) (s : Stmt) → back ≡ false → at < length block.list.items
    → s ≡ get_or block.list.items at s
    → turned back (statement_of s) ≡ statement_at at (in_direction back (block_of block))
line_forward block true at s b h e = cc
line_forward block false at s b h e = forward_at block at s h e

pub line_backward : (block : Block) (back : Bool) (at i : ℕ) (s : Stmt) → back ≡ true
    → at + suc i ≡ length block.list.items → s ≡ get_or block.list.items i s
    → turned back (statement_of s) ≡ statement_at at (in_direction back (block_of block))
line_backward block true at i s b h e = backward_at block at i s h e
line_backward block false at i s b h e = cc

-- ---- what `construct` means

pub made_count : (first last : Statement) (body : Statements)
    → statement_count (Then first (joined body (Then last End))) ≡ 2 + statement_count body
made_count first last body =
    let e : statement_count (joined body (Then last End)) ≡ statement_count body + 1 =
    count_joined body (Then last End) in
    omega arith

pub made_inside : (first last : Statement) (body : Statements) (at before : ℕ) → at ≡ suc before
    → before < statement_count body → statement_at before body
    ≡ statement_at at (Then first (joined body (Then last End)))
made_inside first last body at before e h =
    sym (at_front before body (Then last End) h)
    ∙ ap (λ n. statement_at n (Then first (joined body (Then last End)))) (sym e)

pub made_last : (first last : Statement) (body : Statements) (at : ℕ) → at ≡ suc (statement_count body)
    → last ≡ statement_at at (Then first (joined body (Then last End)))
made_last first last body at e =
    sym (at_back 0 body (Then last End) (statement_count body) (omega arith))
    ∙ ap (λ n. statement_at n (Then first (joined body (Then last End)))) (sym e)

-- ---- no block is longer than memory can hold

pub task_small : (t : Task) → statement_count (task_of t) ≤ 2 ^ 63 + 1
task_small task.Nothing = omega arith
task_small (task.Text block back) =
    let n = block_count back block.now in
    let l = block.now.list.ok.0 in
    let m = block.now.list.ok.1 in
    let k = block.now.list.small in
    omega arith
task_small (task.Made made) =
    let n = block_count made.back made.body.now in
    let l = made.body.now.list.ok.0 in
    let m = made.body.now.list.ok.1 in
    let k = made.body.now.list.small in
    let c = made_count (New made.at (AnObject made.class.now) (Whole made.name.now))
    (Delete made.at (AnObject made.class.now) (Whole made.name.now))
    (in_direction made.back (block_of made.body.now)) in
    omega arith
task_small (task.Exchange element calls) = omega arith
