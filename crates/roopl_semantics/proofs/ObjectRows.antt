-- Worked programs with objects.
use Rattle.std.specs.Prelude.{◌≡◌, false, [], ◌∷◌, Some, None, codes}
use Rattle.std.specs.Fmt.{digits}
use Rattle.std.proofs.Common.{refl}
use Rattle.inverse_rules.specs.rpp_tree.declared.tree.VarType.TheVariants as kind
use Rattle.inverse_rules.specs.rpp_tree.declared.tree.UpdateOp.TheVariants as update
use Rattle.inverse_rules.specs.rpp_tree.Tree.{Number, Whole, Object as AnObject, Update, New, Delete, Copy, Uncopy, Call, Skip}
use Rattle.inverse_rules.specs.rpp_tree.Tree.{Source}
use Rattle.roopl_semantics.proofs.Testing.{named, var, procedure, class_text, block, program, Finished, Faulted, lines}
use Rattle.roopl_semantics.proofs.Testing.{ending}

-- `class P Q a Q b method main() new Q a new Q b class Q method q() skip`
abbrev pub two_objects-text : Source
two_objects-text = program (class_text (named 6 (codes "P")) None
    ((var (kind.Class (named 8 (codes "Q"))) (named 10 (codes "a")))
    ∷ (var (kind.Class (named 12 (codes "Q"))) (named 14 (codes "b"))) ∷ [])
    (procedure (named 23 (codes "main")) [] (block ((New 30 (AnObject (named 34 (codes "Q")))
    (Whole (named 36 (codes "a")))) ∷ (New 38 (AnObject (named 42 (codes "Q")))
    (Whole (named 44 (codes "b")))) ∷ [])) ∷ []) ∷ class_text (named 52 (codes "Q")) None []
    (procedure (named 61 (codes "q")) [] (block ((Skip 65) ∷ [])) ∷ []) ∷ [])

two_objects : ending two_objects-text 1 1 [] 1000 ≡ Faulted 8 6
two_objects = refl

-- `class P Q a Q b method main() new Q a class Q method q() skip`
abbrev pub one_object-text : Source
one_object-text = program (class_text (named 6 (codes "P")) None
    ((var (kind.Class (named 8 (codes "Q"))) (named 10 (codes "a")))
    ∷ (var (kind.Class (named 12 (codes "Q"))) (named 14 (codes "b"))) ∷ [])
    (procedure (named 23 (codes "main")) [] (block ((New 30 (AnObject (named 34 (codes "Q")))
    (Whole (named 36 (codes "a")))) ∷ [])) ∷ []) ∷ class_text (named 44 (codes "Q")) None []
    (procedure (named 53 (codes "q")) [] (block ((Skip 57) ∷ [])) ∷ []) ∷ [])

one_object : ending one_object-text 1 1 [] 1000 ≡ Finished
    (lines (codes "a = #1" ∷ codes "b = nil" ∷ codes "#1 Q count 1" ∷ codes "live 1" ∷ [])) 3
unfolding digits
one_object = refl

-- `class P B a B b C c method main() new B a new B b delete B a delete B b new C c class B method
-- q() skip class C int f int g method q() skip`
abbrev pub blocks_stay-text : Source
blocks_stay-text = program (class_text (named 6 (codes "P")) None
    ((var (kind.Class (named 8 (codes "B"))) (named 10 (codes "a")))
    ∷ (var (kind.Class (named 12 (codes "B"))) (named 14 (codes "b")))
    ∷ (var (kind.Class (named 16 (codes "C"))) (named 18 (codes "c"))) ∷ [])
    (procedure (named 27 (codes "main")) [] (block ((New 34 (AnObject (named 38 (codes "B")))
    (Whole (named 40 (codes "a")))) ∷ (New 42 (AnObject (named 46 (codes "B")))
    (Whole (named 48 (codes "b")))) ∷ (Delete 50 (AnObject (named 57 (codes "B")))
    (Whole (named 59 (codes "a")))) ∷ (Delete 61 (AnObject (named 68 (codes "B")))
    (Whole (named 70 (codes "b")))) ∷ (New 72 (AnObject (named 76 (codes "C")))
    (Whole (named 78 (codes "c")))) ∷ [])) ∷ []) ∷ class_text (named 86 (codes "B")) None []
    (procedure (named 95 (codes "q")) [] (block ((Skip 99) ∷ [])) ∷ [])
    ∷ class_text (named 110 (codes "C")) None ((var kind.Int (named 116 (codes "f")))
    ∷ (var kind.Int (named 122 (codes "g"))) ∷ []) (procedure (named 131 (codes "q")) [] (block ((Skip 135) ∷ []))
    ∷ []) ∷ [])

blocks_stay : ending blocks_stay-text 2 1 [] 1000 ≡ Faulted 8 20
blocks_stay = refl

-- `class P B a B b C c method main() new B a new B b delete B b delete B a new C c class B method
-- q() skip class C int f int g method q() skip`
abbrev pub blocks_merge-text : Source
blocks_merge-text = program (class_text (named 6 (codes "P")) None
    ((var (kind.Class (named 8 (codes "B"))) (named 10 (codes "a")))
    ∷ (var (kind.Class (named 12 (codes "B"))) (named 14 (codes "b")))
    ∷ (var (kind.Class (named 16 (codes "C"))) (named 18 (codes "c"))) ∷ [])
    (procedure (named 27 (codes "main")) [] (block ((New 34 (AnObject (named 38 (codes "B")))
    (Whole (named 40 (codes "a")))) ∷ (New 42 (AnObject (named 46 (codes "B")))
    (Whole (named 48 (codes "b")))) ∷ (Delete 50 (AnObject (named 57 (codes "B")))
    (Whole (named 59 (codes "b")))) ∷ (Delete 61 (AnObject (named 68 (codes "B")))
    (Whole (named 70 (codes "a")))) ∷ (New 72 (AnObject (named 76 (codes "C")))
    (Whole (named 78 (codes "c")))) ∷ [])) ∷ []) ∷ class_text (named 86 (codes "B")) None []
    (procedure (named 95 (codes "q")) [] (block ((Skip 99) ∷ [])) ∷ [])
    ∷ class_text (named 110 (codes "C")) None ((var kind.Int (named 116 (codes "f")))
    ∷ (var kind.Int (named 122 (codes "g"))) ∷ []) (procedure (named 131 (codes "q")) [] (block ((Skip 135) ∷ []))
    ∷ []) ∷ [])

blocks_merge : ending blocks_merge-text 2 1 [] 1000 ≡ Finished
    (lines (codes "a = nil" ∷ codes "b = nil" ∷ codes "c = #1" ∷ codes "#1 C count 1" ∷ codes "  f = 0"
    ∷ codes "  g = 0" ∷ codes "live 1" ∷ [])) 20
unfolding digits
blocks_merge = refl

-- `class P Q a Q b method main() new Q a call a::inc() delete Q a class Q int f method inc() f += 1
-- class R inherits Q method no() skip`
abbrev pub delete-not_empty-text : Source
delete-not_empty-text = program (class_text (named 6 (codes "P")) None
    ((var (kind.Class (named 8 (codes "Q"))) (named 10 (codes "a")))
    ∷ (var (kind.Class (named 12 (codes "Q"))) (named 14 (codes "b"))) ∷ [])
    (procedure (named 23 (codes "main")) [] (block ((New 30 (AnObject (named 34 (codes "Q")))
    (Whole (named 36 (codes "a")))) ∷ (Call 38 false (Some (Whole (named 43 (codes "a"))))
    (named 46 (codes "inc")) []) ∷ (Delete 52 (AnObject (named 59 (codes "Q")))
    (Whole (named 61 (codes "a")))) ∷ [])) ∷ []) ∷ class_text (named 69 (codes "Q")) None
    ((var kind.Int (named 75 (codes "f"))) ∷ []) (procedure (named 84 (codes "inc")) []
    (block ((Update 90 update.Add (Whole (named 90 (codes "f"))) (Number 95 1)) ∷ [])) ∷ [])
    ∷ class_text (named 103 (codes "R")) (Some (named 114 (codes "Q"))) []
    (procedure (named 123 (codes "no")) [] (block ((Skip 128) ∷ [])) ∷ []) ∷ [])

delete-not_empty : ending delete-not_empty-text 4 2 [] 1000 ≡ Faulted 7 15
delete-not_empty = refl

-- `class P Q a Q b method main() new Q a copy Q a b delete Q a class Q int f method inc() f += 1
-- class R inherits Q method no() skip`
abbrev pub delete-counted_twice-text : Source
delete-counted_twice-text = program (class_text (named 6 (codes "P")) None
    ((var (kind.Class (named 8 (codes "Q"))) (named 10 (codes "a")))
    ∷ (var (kind.Class (named 12 (codes "Q"))) (named 14 (codes "b"))) ∷ [])
    (procedure (named 23 (codes "main")) [] (block ((New 30 (AnObject (named 34 (codes "Q")))
    (Whole (named 36 (codes "a")))) ∷ (Copy 38 (kind.Class (named 43 (codes "Q")))
    (Whole (named 45 (codes "a"))) (Whole (named 47 (codes "b"))))
    ∷ (Delete 49 (AnObject (named 56 (codes "Q"))) (Whole (named 58 (codes "a")))) ∷ [])) ∷ [])
    ∷ class_text (named 66 (codes "Q")) None ((var kind.Int (named 72 (codes "f"))) ∷ [])
    (procedure (named 81 (codes "inc")) [] (block ((Update 87 update.Add (Whole (named 87 (codes "f"))) (Number 92 1))
    ∷ [])) ∷ []) ∷ class_text (named 100 (codes "R")) (Some (named 111 (codes "Q"))) []
    (procedure (named 120 (codes "no")) [] (block ((Skip 125) ∷ [])) ∷ []) ∷ [])

delete-counted_twice : ending delete-counted_twice-text 4 2 [] 1000 ≡ Faulted 6 8
delete-counted_twice = refl

-- `class P Q a Q b method main() new Q a copy Q a b uncopy Q a b delete Q a class Q int f method
-- inc() f += 1 class R inherits Q method no() skip`
abbrev pub copy-undone-text : Source
copy-undone-text = program (class_text (named 6 (codes "P")) None
    ((var (kind.Class (named 8 (codes "Q"))) (named 10 (codes "a")))
    ∷ (var (kind.Class (named 12 (codes "Q"))) (named 14 (codes "b"))) ∷ [])
    (procedure (named 23 (codes "main")) [] (block ((New 30 (AnObject (named 34 (codes "Q")))
    (Whole (named 36 (codes "a")))) ∷ (Copy 38 (kind.Class (named 43 (codes "Q")))
    (Whole (named 45 (codes "a"))) (Whole (named 47 (codes "b"))))
    ∷ (Uncopy 49 (kind.Class (named 56 (codes "Q"))) (Whole (named 58 (codes "a")))
    (Whole (named 60 (codes "b")))) ∷ (Delete 62 (AnObject (named 69 (codes "Q")))
    (Whole (named 71 (codes "a")))) ∷ [])) ∷ []) ∷ class_text (named 79 (codes "Q")) None
    ((var kind.Int (named 85 (codes "f"))) ∷ []) (procedure (named 94 (codes "inc")) []
    (block ((Update 100 update.Add (Whole (named 100 (codes "f"))) (Number 105 1)) ∷ [])) ∷ [])
    ∷ class_text (named 113 (codes "R")) (Some (named 124 (codes "Q"))) []
    (procedure (named 133 (codes "no")) [] (block ((Skip 138) ∷ [])) ∷ []) ∷ [])

copy-undone : ending copy-undone-text 4 2 [] 1000 ≡ Finished
    (lines (codes "a = nil" ∷ codes "b = nil" ∷ codes "live 0" ∷ [])) 14
unfolding digits
copy-undone = refl

-- `class P Q a Q b method main() new R a delete Q a class Q int f method inc() f += 1 class R
-- inherits Q method no() skip`
abbrev pub delete-other_class-text : Source
delete-other_class-text = program (class_text (named 6 (codes "P")) None
    ((var (kind.Class (named 8 (codes "Q"))) (named 10 (codes "a")))
    ∷ (var (kind.Class (named 12 (codes "Q"))) (named 14 (codes "b"))) ∷ [])
    (procedure (named 23 (codes "main")) [] (block ((New 30 (AnObject (named 34 (codes "R")))
    (Whole (named 36 (codes "a")))) ∷ (Delete 38 (AnObject (named 45 (codes "Q")))
    (Whole (named 47 (codes "a")))) ∷ [])) ∷ []) ∷ class_text (named 55 (codes "Q")) None
    ((var kind.Int (named 61 (codes "f"))) ∷ []) (procedure (named 70 (codes "inc")) []
    (block ((Update 76 update.Add (Whole (named 76 (codes "f"))) (Number 81 1)) ∷ [])) ∷ [])
    ∷ class_text (named 89 (codes "R")) (Some (named 100 (codes "Q"))) []
    (procedure (named 109 (codes "no")) [] (block ((Skip 114) ∷ [])) ∷ []) ∷ [])

delete-other_class : ending delete-other_class-text 4 2 [] 1000 ≡ Faulted 11 7
delete-other_class = refl

-- `class P Q a Q b method main() delete Q a class Q int f method inc() f += 1 class R inherits Q
-- method no() skip`
abbrev pub delete-nil-text : Source
delete-nil-text = program (class_text (named 6 (codes "P")) None
    ((var (kind.Class (named 8 (codes "Q"))) (named 10 (codes "a")))
    ∷ (var (kind.Class (named 12 (codes "Q"))) (named 14 (codes "b"))) ∷ [])
    (procedure (named 23 (codes "main")) [] (block ((Delete 30 (AnObject (named 37 (codes "Q")))
    (Whole (named 39 (codes "a")))) ∷ [])) ∷ []) ∷ class_text (named 47 (codes "Q")) None
    ((var kind.Int (named 53 (codes "f"))) ∷ []) (procedure (named 62 (codes "inc")) []
    (block ((Update 68 update.Add (Whole (named 68 (codes "f"))) (Number 73 1)) ∷ [])) ∷ [])
    ∷ class_text (named 81 (codes "R")) (Some (named 92 (codes "Q"))) []
    (procedure (named 101 (codes "no")) [] (block ((Skip 106) ∷ [])) ∷ []) ∷ [])

delete-nil : ending delete-nil-text 4 2 [] 1000 ≡ Faulted 5 1
delete-nil = refl

-- `class P Q a Q b method main() new Q a new Q a class Q int f method inc() f += 1 class R inherits
-- Q method no() skip`
abbrev pub new-not_nil-text : Source
new-not_nil-text = program (class_text (named 6 (codes "P")) None
    ((var (kind.Class (named 8 (codes "Q"))) (named 10 (codes "a")))
    ∷ (var (kind.Class (named 12 (codes "Q"))) (named 14 (codes "b"))) ∷ [])
    (procedure (named 23 (codes "main")) [] (block ((New 30 (AnObject (named 34 (codes "Q")))
    (Whole (named 36 (codes "a")))) ∷ (New 38 (AnObject (named 42 (codes "Q")))
    (Whole (named 44 (codes "a")))) ∷ [])) ∷ []) ∷ class_text (named 52 (codes "Q")) None
    ((var kind.Int (named 58 (codes "f"))) ∷ []) (procedure (named 67 (codes "inc")) []
    (block ((Update 73 update.Add (Whole (named 73 (codes "f"))) (Number 78 1)) ∷ [])) ∷ [])
    ∷ class_text (named 86 (codes "R")) (Some (named 97 (codes "Q"))) []
    (procedure (named 106 (codes "no")) [] (block ((Skip 111) ∷ [])) ∷ []) ∷ [])

new-not_nil : ending new-not_nil-text 4 2 [] 1000 ≡ Faulted 4 7
new-not_nil = refl

-- `class P Q a Q b method main() new Q a new Q b uncopy Q a b class Q int f method inc() f += 1
-- class R inherits Q method no() skip`
abbrev pub uncopy-not_same-text : Source
uncopy-not_same-text = program (class_text (named 6 (codes "P")) None
    ((var (kind.Class (named 8 (codes "Q"))) (named 10 (codes "a")))
    ∷ (var (kind.Class (named 12 (codes "Q"))) (named 14 (codes "b"))) ∷ [])
    (procedure (named 23 (codes "main")) [] (block ((New 30 (AnObject (named 34 (codes "Q")))
    (Whole (named 36 (codes "a")))) ∷ (New 38 (AnObject (named 42 (codes "Q")))
    (Whole (named 44 (codes "b")))) ∷ (Uncopy 46 (kind.Class (named 53 (codes "Q")))
    (Whole (named 55 (codes "a"))) (Whole (named 57 (codes "b")))) ∷ [])) ∷ [])
    ∷ class_text (named 65 (codes "Q")) None ((var kind.Int (named 71 (codes "f"))) ∷ [])
    (procedure (named 80 (codes "inc")) [] (block ((Update 86 update.Add (Whole (named 86 (codes "f"))) (Number 91 1))
    ∷ [])) ∷ []) ∷ class_text (named 99 (codes "R")) (Some (named 110 (codes "Q"))) []
    (procedure (named 119 (codes "no")) [] (block ((Skip 124) ∷ [])) ∷ []) ∷ [])

uncopy-not_same : ending uncopy-not_same-text 4 2 [] 1000 ≡ Faulted 10 13
uncopy-not_same = refl

-- `class P Node a Node b method main() new Node a new Node b call a::link(b) call b::link(a) call
-- a::drop(b) class Node Node next method link(Node o) copy Node o next method drop(Node o) uncopy
-- Node next o`
abbrev pub ring-text : Source
ring-text = program (class_text (named 6 (codes "P")) None
    ((var (kind.Class (named 8 (codes "Node"))) (named 13 (codes "a")))
    ∷ (var (kind.Class (named 15 (codes "Node"))) (named 20 (codes "b"))) ∷ [])
    (procedure (named 29 (codes "main")) [] (block ((New 36 (AnObject (named 40 (codes "Node")))
    (Whole (named 45 (codes "a")))) ∷ (New 47 (AnObject (named 51 (codes "Node")))
    (Whole (named 56 (codes "b")))) ∷ (Call 58 false (Some (Whole (named 63 (codes "a"))))
    (named 66 (codes "link")) ((named 71 (codes "b")) ∷ []))
    ∷ (Call 74 false (Some (Whole (named 79 (codes "b")))) (named 82 (codes "link"))
    ((named 87 (codes "a")) ∷ [])) ∷ (Call 90 false (Some (Whole (named 95 (codes "a"))))
    (named 98 (codes "drop")) ((named 103 (codes "b")) ∷ [])) ∷ [])) ∷ [])
    ∷ class_text (named 112 (codes "Node")) None ((var (kind.Class (named 117 (codes "Node")))
    (named 122 (codes "next"))) ∷ []) (procedure (named 134 (codes "link"))
    ((var (kind.Class (named 139 (codes "Node"))) (named 144 (codes "o"))) ∷ [])
    (block ((Copy 147 (kind.Class (named 152 (codes "Node"))) (Whole (named 157 (codes "o")))
    (Whole (named 159 (codes "next")))) ∷ [])) ∷ procedure (named 171 (codes "drop"))
    ((var (kind.Class (named 176 (codes "Node"))) (named 181 (codes "o"))) ∷ [])
    (block ((Uncopy 184 (kind.Class (named 191 (codes "Node"))) (Whole (named 196 (codes "next")))
    (Whole (named 201 (codes "o")))) ∷ [])) ∷ []) ∷ [])

ring : ending ring-text 3 2 [] 1000 ≡ Finished (lines (codes "a = #1" ∷ codes "b = nil" ∷ codes "#1 Node count 2"
    ∷ codes "  next = #2" ∷ codes "#2 Node count 1" ∷ codes "  next = #1" ∷ codes "live 2" ∷ [])) 19
unfolding digits
ring = refl
