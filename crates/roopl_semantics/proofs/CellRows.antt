-- Worked memories cell by cell: references, counts, the heads of free lists and their links.
use Rattle.std.specs.Prelude.{◌≡◌, ℕ, ◌-◌, ◌*◌, false, List, [], ◌∷◌, Some, None, codes, length, take, drop, replicate}
use Rattle.std.proofs.Common.{refl}
use Rattle.buddy_book.specs.rpp_words.declared.input.Limits.{Limits}
use Rattle.inverse_rules.specs.rpp_tree.declared.tree.VarType.TheVariants as kind
use Rattle.inverse_rules.specs.rpp_tree.declared.tree.UpdateOp.TheVariants as update
use Rattle.inverse_rules.specs.rpp_tree.Tree.{Number, Whole, Item, Object as AnObject, Ints, Objects, Update, New, Delete, Copy}
use Rattle.inverse_rules.specs.rpp_tree.Tree.{Uncopy, Call, Skip, Source}
use Rattle.roopl_semantics.specs.Run.{Run, Done}
use Rattle.roopl_semantics.specs.Store.{State}
use Rattle.roopl_semantics.specs.Source.{source}
use Rattle.roopl_semantics.specs.Layout.{layout}
use Rattle.roopl_semantics.proofs.Testing.{named, var, procedure, class_text, block, program}

abbrev limits : ℕ → ℕ → Limits
limits heap deep = record { heap = heap; deep = deep }

abbrev laid : Source → Limits → List ℕ → Run State → List ℕ
laid program limits statics (Done st cost) = layout program limits statics st.store st.log
laid program limits statics _ = []

-- the memory after a run over these static cells
abbrev memory : Source → ℕ → ℕ → List ℕ → List ℕ
memory program heap deep statics = laid program (limits heap deep) statics (source program
    (limits heap deep) [] 1000)

-- its cells up to the end of the heap, and its stack
abbrev up_to_heap : ℕ → List ℕ → List ℕ
up_to_heap deep cells = take (length cells - 512 * deep) cells

abbrev stack : ℕ → List ℕ → List ℕ
stack deep cells = drop (length cells - 512 * deep) cells

-- `class P Node a Node b method main() new Node a new Node b call a::link(b) call b::link(a) call
--   a::drop(b) class Node Node next method link(Node o) copy Node o next method drop(Node o)
--   uncopy Node next o`
abbrev ring-text : Source
ring-text = program (class_text (named 0 (codes "P")) None ((var (kind.Class (named 0
    (codes "Node"))) (named 0 (codes "a")))
    ∷ (var (kind.Class (named 0 (codes "Node"))) (named 0 (codes "b")))
    ∷ []) (procedure (named 0 (codes "main")) [] (block ((New 0 (AnObject (named 0
    (codes "Node"))) (Whole (named 0 (codes "a"))))
    ∷ (New 0 (AnObject (named 0 (codes "Node"))) (Whole (named 0 (codes "b"))))
    ∷ (Call 0 false (Some (Whole (named 0 (codes "a")))) (named 0 (codes "link")) ((named 0
    (codes "b")) ∷ []))
    ∷ (Call 0 false (Some (Whole (named 0 (codes "b")))) (named 0 (codes "link")) ((named 0
    (codes "a")) ∷ []))
    ∷ (Call 0 false (Some (Whole (named 0 (codes "a")))) (named 0 (codes "drop")) ((named 0
    (codes "b")) ∷ [])) ∷ [])) ∷ [])
    ∷ class_text (named 0 (codes "Node")) None ((var (kind.Class (named 0 (codes "Node")))
    (named 0 (codes "next")))
    ∷ []) (procedure (named 0 (codes "link")) ((var (kind.Class (named 0 (codes "Node")))
    (named 0 (codes "o")))
    ∷ []) (block ((Copy 0 (kind.Class (named 0 (codes "Node"))) (Whole (named 0 (codes "o")))
    (Whole (named 0 (codes "next")))) ∷ []))
    ∷ procedure (named 0 (codes "drop")) ((var (kind.Class (named 0 (codes "Node"))) (named 0
    (codes "o"))) ∷ []) (block ((Uncopy 0 (kind.Class (named 0 (codes "Node"))) (Whole
    (named 0 (codes "next"))) (Whole (named 0 (codes "o")))) ∷ [])) ∷ []) ∷ [])

ring-cells : up_to_heap 2 (memory ring-text 3 2 (44 ∷ 1 ∷ 0 ∷ 0 ∷ 1 ∷ 5 ∷ 2 ∷ 7 ∷ 9
    ∷ [])) ≡ 0 ∷ 3 ∷ 56 ∷ 64 ∷ 1088 ∷ 0 ∷ 0 ∷ 0 ∷ 0 ∷ 0 ∷ 0 ∷ 0 ∷ 0 ∷ 0 ∷ 0 ∷ 0 ∷ 0 ∷ 0 ∷ 0
    ∷ 0 ∷ 0 ∷ 0 ∷ 0 ∷ 0 ∷ 0 ∷ 0 ∷ 0 ∷ 0 ∷ 0 ∷ 0 ∷ 0 ∷ 0 ∷ 0 ∷ 0 ∷ 0 ∷ 0 ∷ 0 ∷ 0 ∷ 0 ∷ 0 ∷ 44
    ∷ 1 ∷ 60 ∷ 0 ∷ 1 ∷ 5 ∷ 2 ∷ 7 ∷ 9 ∷ 0 ∷ 0 ∷ 0 ∷ 0 ∷ 0 ∷ 0 ∷ 0 ∷ 46 ∷ 1 ∷ 60 ∷ 0 ∷ 46 ∷ 2
    ∷ 56 ∷ 0 ∷ []
ring-cells = refl

ring-stack : stack 2 (memory ring-text 3 2 (44 ∷ 1 ∷ 0 ∷ 0 ∷ 1 ∷ 5 ∷ 2 ∷ 7 ∷ 9
    ∷ [])) ≡ replicate 1024 0
ring-stack = refl

-- `class P B a B b S s S t int[] d method main() new B a new B b new S s new S t new int[3] d d[1]
--   -= 2 delete B a delete B b delete S s delete S t class B int f int g method q() skip class S
--   method q() skip`
abbrev unmerged-text : Source
unmerged-text = program (class_text (named 0 (codes "P")) None ((var (kind.Class (named 0
    (codes "B"))) (named 0 (codes "a")))
    ∷ (var (kind.Class (named 0 (codes "B"))) (named 0 (codes "b")))
    ∷ (var (kind.Class (named 0 (codes "S"))) (named 0 (codes "s")))
    ∷ (var (kind.Class (named 0 (codes "S"))) (named 0 (codes "t")))
    ∷ (var kind.IntArray (named 0 (codes "d")))
    ∷ []) (procedure (named 0 (codes "main")) [] (block ((New 0 (AnObject (named 0
    (codes "B"))) (Whole (named 0 (codes "a"))))
    ∷ (New 0 (AnObject (named 0 (codes "B"))) (Whole (named 0 (codes "b"))))
    ∷ (New 0 (AnObject (named 0 (codes "S"))) (Whole (named 0 (codes "s"))))
    ∷ (New 0 (AnObject (named 0 (codes "S"))) (Whole (named 0 (codes "t"))))
    ∷ (New 0 (Ints (Number 0 3)) (Whole (named 0 (codes "d"))))
    ∷ (Update 0 update.Sub (Item (named 0 (codes "d")) (Number 0 1)) (Number 0 2))
    ∷ (Delete 0 (AnObject (named 0 (codes "B"))) (Whole (named 0 (codes "a"))))
    ∷ (Delete 0 (AnObject (named 0 (codes "B"))) (Whole (named 0 (codes "b"))))
    ∷ (Delete 0 (AnObject (named 0 (codes "S"))) (Whole (named 0 (codes "s"))))
    ∷ (Delete 0 (AnObject (named 0 (codes "S"))) (Whole (named 0 (codes "t")))) ∷ [])) ∷ [])
    ∷ class_text (named 0 (codes "B")) None ((var kind.Int (named 0 (codes "f")))
    ∷ (var kind.Int (named 0 (codes "g")))
    ∷ []) (procedure (named 0 (codes "q")) [] (block ((Skip 0) ∷ [])) ∷ [])
    ∷ class_text (named 0 (codes "S")) None [] (procedure (named 0 (codes "q")) [] (block
    ((Skip 0) ∷ [])) ∷ []) ∷ [])

unmerged-cells : up_to_heap 1 (memory unmerged-text 5 1 (47 ∷ 1 ∷ 0 ∷ 0 ∷ 0 ∷ 0 ∷ 0 ∷ 1 ∷ 5
    ∷ 2 ∷ 7 ∷ 3 ∷ 9 ∷ [])) ≡ 0 ∷ 5 ∷ 64 ∷ 96 ∷ 608 ∷ 0 ∷ 0 ∷ 0 ∷ 0 ∷ 84 ∷ 88 ∷ 64 ∷ 0 ∷ 0 ∷ 0
    ∷ 0 ∷ 0 ∷ 0 ∷ 0 ∷ 0 ∷ 0 ∷ 0 ∷ 0 ∷ 0 ∷ 0 ∷ 0 ∷ 0 ∷ 0 ∷ 0 ∷ 0 ∷ 0 ∷ 0 ∷ 0 ∷ 0 ∷ 0 ∷ 0 ∷ 0
    ∷ 0 ∷ 0 ∷ 0 ∷ 47 ∷ 1 ∷ 0 ∷ 0 ∷ 0 ∷ 0 ∷ 72 ∷ 1 ∷ 5 ∷ 2 ∷ 7 ∷ 3 ∷ 9 ∷ 0 ∷ 0 ∷ 0 ∷ 0 ∷ 0 ∷ 0
    ∷ 0 ∷ 0 ∷ 0 ∷ 0 ∷ 0 ∷ 0 ∷ 0 ∷ 0 ∷ 0 ∷ 0 ∷ 0 ∷ 0 ∷ 0 ∷ 3 ∷ 1 ∷ 0 ∷ 4294967294 ∷ 0 ∷ 0 ∷ 0
    ∷ 0 ∷ 0 ∷ 0 ∷ 0 ∷ 0 ∷ 86 ∷ 0 ∷ 0 ∷ 0 ∷ 92 ∷ 0 ∷ 0 ∷ 0 ∷ 80 ∷ 0 ∷ 0 ∷ 0 ∷ []
unmerged-cells = refl

unmerged-stack : stack 1 (memory unmerged-text 5 1 (47 ∷ 1 ∷ 0 ∷ 0 ∷ 0 ∷ 0 ∷ 0 ∷ 1 ∷ 5 ∷ 2
    ∷ 7 ∷ 3 ∷ 9 ∷ [])) ≡ replicate 512 0
unmerged-stack = refl

-- `class P inherits Q C[] c int x method main() x -= 1 f += 7 new C[2] c new C c[1] class Q int f
--   method q() skip class C inherits Q int g method r() skip method q() skip`
abbrev inherited-text : Source
inherited-text = program (class_text (named 0 (codes "P")) (Some (named 0 (codes "Q"))) ((var
    (kind.ClassArray (named 0 (codes "C"))) (named 0 (codes "c")))
    ∷ (var kind.Int (named 0 (codes "x")))
    ∷ []) (procedure (named 0 (codes "main")) [] (block ((Update 0 update.Sub (Whole (named 0
    (codes "x"))) (Number 0 1))
    ∷ (Update 0 update.Add (Whole (named 0 (codes "f"))) (Number 0 7))
    ∷ (New 0 (Objects (named 0 (codes "C")) (Number 0 2)) (Whole (named 0 (codes "c"))))
    ∷ (New 0 (AnObject (named 0 (codes "C"))) (Item (named 0 (codes "c")) (Number 0 1)))
    ∷ [])) ∷ []) ∷ class_text (named 0 (codes "Q")) None ((var kind.Int (named 0
    (codes "f"))) ∷ []) (procedure (named 0 (codes "q")) [] (block ((Skip 0) ∷ [])) ∷ [])
    ∷ class_text (named 0 (codes "C")) (Some (named 0 (codes "Q"))) ((var kind.Int (named 0
    (codes "g"))) ∷ []) (procedure (named 0 (codes "r")) [] (block ((Skip 0) ∷ []))
    ∷ procedure (named 0 (codes "q")) [] (block ((Skip 0) ∷ [])) ∷ []) ∷ [])

inherited-cells : up_to_heap 1 (memory inherited-text 4 1 (45 ∷ 1 ∷ 0 ∷ 0 ∷ 0 ∷ 1 ∷ 5 ∷ 7 ∷ 2
    ∷ 9 ∷ 3 ∷ 11 ∷ 13 ∷ [])) ≡ 0 ∷ 4 ∷ 64 ∷ 80 ∷ 592 ∷ 0 ∷ 0 ∷ 0 ∷ 0 ∷ 0 ∷ 0 ∷ 64 ∷ 0 ∷ 0 ∷ 0
    ∷ 0 ∷ 0 ∷ 0 ∷ 0 ∷ 0 ∷ 0 ∷ 0 ∷ 0 ∷ 0 ∷ 0 ∷ 0 ∷ 0 ∷ 0 ∷ 0 ∷ 0 ∷ 0 ∷ 0 ∷ 0 ∷ 0 ∷ 0 ∷ 0 ∷ 0
    ∷ 0 ∷ 0 ∷ 0 ∷ 45 ∷ 1 ∷ 7 ∷ 76 ∷ 4294967295 ∷ 1 ∷ 5 ∷ 7 ∷ 2 ∷ 9 ∷ 3 ∷ 11 ∷ 13 ∷ 0 ∷ 0 ∷ 0
    ∷ 0 ∷ 0 ∷ 0 ∷ 0 ∷ 0 ∷ 0 ∷ 0 ∷ 0 ∷ 0 ∷ 0 ∷ 0 ∷ 0 ∷ 0 ∷ 0 ∷ 0 ∷ 0 ∷ 50 ∷ 1 ∷ 0 ∷ 0 ∷ 2 ∷ 1
    ∷ 0 ∷ 72 ∷ []
inherited-cells = refl

inherited-stack : stack 1 (memory inherited-text 4 1 (45 ∷ 1 ∷ 0 ∷ 0 ∷ 0 ∷ 1 ∷ 5 ∷ 7 ∷ 2 ∷ 9
    ∷ 3 ∷ 11 ∷ 13 ∷ [])) ≡ replicate 512 0
inherited-stack = refl
