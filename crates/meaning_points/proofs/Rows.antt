-- The trace points of worked programs.
use Rattle.std.specs.Prelude.{◌≡◌, ℕ, true, false, List, [], ◌∷◌, length, map, Some, None, codes}
use Rattle.std.proofs.Common.{refl}
use Rattle.roopl_semantics.specs.rpp_tree.declared.tree.VarType.TheVariants as kind
use Rattle.roopl_semantics.specs.rpp_tree.declared.tree.BinOp.TheVariants as op
use Rattle.roopl_semantics.specs.rpp_tree.declared.tree.UpdateOp.TheVariants as update
use Rattle.roopl_semantics.specs.rpp_tree.Tree.{Number, Variable, Binary, Whole, Item, Object as AnObject, Objects, Update, From}
use Rattle.roopl_semantics.specs.rpp_tree.Tree.{Construct, New, Call, Skip, Source}
use Rattle.roopl_semantics.specs.Run.{Run, Done, Fault, More}
use Rattle.roopl_semantics.specs.Store.{State}
use Rattle.roopl_semantics.proofs.Testing.{named, var, procedure, class_text, block, program}
use Rattle.meaning_points.specs.Trail.{trail}
use Rattle.roopl_semantics.proofs.IntRows.{adds-text, fi-after_then-text}

-- the place and the depth of each trace point of a run
abbrev seen : Source → ℕ → ℕ → List (ℕ × ℕ)
seen text heap deep = map (λ point. (point.place, point.state.depth))
    (trail text (record { heap = heap; deep = deep }) [] 1000).points

one_update : seen adds-text 1 1 ≡ (28, 1) ∷ []
one_update = refl

-- `class P int x method main() call q() uncall q() method q() x += 1 x += 2`
abbrev pub there_and_back-text : Source
there_and_back-text = program (class_text (named 6 (codes "P")) None ((var kind.Int (named 12 (codes "x"))) ∷ [])
    (procedure (named 21 (codes "main")) [] (block ((Call 28 false None (named 33 (codes "q")) [])
    ∷ (Call 37 true None (named 44 (codes "q")) []) ∷ []))
    ∷ procedure (named 55 (codes "q")) [] (block ((Update 59 update.Add (Whole (named 59 (codes "x")))
    (Number 64 1)) ∷ (Update 66 update.Add (Whole (named 66 (codes "x"))) (Number 71 2)) ∷ [])) ∷ []) ∷ [])

-- the body that is uncalled runs from its end
there_and_back : seen there_and_back-text 1 2 ≡ (28, 1) ∷ (59, 2) ∷ (66, 2) ∷ (37, 1) ∷ (66, 2) ∷ (59, 2) ∷ []
there_and_back = refl

-- `class P int x method main() from x = 0 do x += 1 loop skip until x = 2`
abbrev pub loop-text : Source
loop-text = program (class_text (named 6 (codes "P")) None ((var kind.Int (named 12 (codes "x"))) ∷ [])
    (procedure (named 21 (codes "main")) [] (block ((From 28
    (Binary 35 op.Equal (Variable (named 33 (codes "x"))) (Number 37 0))
    (block ((Update 42 update.Add (Whole (named 42 (codes "x"))) (Number 47 1)) ∷ []))
    (block ((Skip 54) ∷ [])) (Binary 67 op.Equal (Variable (named 65 (codes "x"))) (Number 69 2))) ∷ []))
    ∷ []) ∷ [])

turns : seen loop-text 1 1 ≡ (28, 1) ∷ (42, 1) ∷ (54, 1) ∷ (42, 1) ∷ []
turns = refl

-- `class P int x method main() construct A a call a::m() destruct a class A int f method m() f += 1
-- f -= 1`
abbrev pub constructs-text : Source
constructs-text = program (class_text (named 6 (codes "P")) None ((var kind.Int (named 12 (codes "x"))) ∷ [])
    (procedure (named 21 (codes "main")) [] (block ((Construct 28 (named 38 (codes "A")) (named 40 (codes "a"))
    (block ((Call 42 false (Some (Whole (named 47 (codes "a")))) (named 50 (codes "m")) []) ∷ []))
    (named 63 (codes "a"))) ∷ [])) ∷ []) ∷ class_text (named 71 (codes "A")) None
    ((var kind.Int (named 77 (codes "f"))) ∷ []) (procedure (named 86 (codes "m")) []
    (block ((Update 90 update.Add (Whole (named 90 (codes "f"))) (Number 95 1))
    ∷ (Update 97 update.Sub (Whole (named 97 (codes "f"))) (Number 102 1)) ∷ [])) ∷ []) ∷ [])

-- what a `construct` means has its place: the local variable, `new` and `delete`
constructs : seen constructs-text 2 2 ≡ (28, 1) ∷ (28, 1) ∷ (42, 1) ∷ (90, 2) ∷ (97, 2) ∷ (28, 1) ∷ []
constructs = refl

-- `class P A[] u method main() new A[2] u new A u[0] call u[0]::m() class A int f method m() f +=
-- 7`
abbrev pub elements-text : Source
elements-text = program (class_text (named 6 (codes "P")) None
    ((var (kind.ClassArray (named 8 (codes "A"))) (named 12 (codes "u"))) ∷ [])
    (procedure (named 21 (codes "main")) [] (block ((New 28 (Objects (named 32 (codes "A")) (Number 34 2))
    (Whole (named 37 (codes "u")))) ∷ (New 39 (AnObject (named 43 (codes "A")))
    (Item (named 45 (codes "u")) (Number 47 0))) ∷ (Call 50 false
    (Some (Item (named 55 (codes "u")) (Number 57 0))) (named 61 (codes "m")) []) ∷ [])) ∷ [])
    ∷ class_text (named 71 (codes "A")) None ((var kind.Int (named 77 (codes "f"))) ∷ [])
    (procedure (named 86 (codes "m")) [] (block ((Update 90 update.Add (Whole (named 90 (codes "f"))) (Number 95 7))
    ∷ [])) ∷ []) ∷ [])

-- what a call on an element means has its place: the local variable, two swaps, and the call
-- between them
elements : seen elements-text 3 2 ≡ (28, 1) ∷ (39, 1) ∷ (50, 1) ∷ (50, 1) ∷ (50, 1) ∷ (90, 2) ∷ (50, 1) ∷ []
elements = refl

-- a fault has no trace point
asserts : seen fi-after_then-text 1 1 ≡ (28, 1) ∷ (42, 1) ∷ []
asserts = refl

-- the place, the depth and the number of variables of each trace point of a run, and the fault that
-- ends it
abbrev fault_of : Run State → ℕ
fault_of (Done end cost) = 0
fault_of (Fault code cost) = code
fault_of More = 0

abbrev with_variables : Source → ℕ → ℕ → List (ℕ × ℕ × ℕ) × ℕ
with_variables text heap deep =
    let run = trail text (record { heap = heap; deep = deep }) [] 1000 in
    (map (λ point. (point.place, point.state.depth, length point.state.frame)) run.points, fault_of run.end)

-- `class P method main() construct Q f skip destruct f class Q method q() skip`
abbrev pub construct_alone-text : Source
construct_alone-text = program (class_text (named 6 (codes "P")) None []
    (procedure (named 15 (codes "main")) [] (block ((Construct 22 (named 32 (codes "Q")) (named 34 (codes "f"))
    (block ((Skip 36) ∷ [])) (named 50 (codes "f"))) ∷ [])) ∷ []) ∷ class_text (named 58 (codes "Q")) None []
    (procedure (named 67 (codes "q")) [] (block ((Skip 71) ∷ [])) ∷ []) ∷ [])

-- the variable is open from the trace point of `new` on
construct_alone : with_variables construct_alone-text 4 4
    ≡ ((22, 1, 0) ∷ (22, 1, 1) ∷ (36, 1, 1) ∷ (22, 1, 1) ∷ [], 0)
construct_alone = refl

-- `class P int x method main() uncall q() method q() construct Q f x += 1 x -= 2 destruct f class Q
-- method m() skip`
abbrev pub construct_undone-text : Source
construct_undone-text = program (class_text (named 6 (codes "P")) None ((var kind.Int (named 12 (codes "x"))) ∷ [])
    (procedure (named 21 (codes "main")) [] (block ((Call 28 true None (named 35 (codes "q")) []) ∷ []))
    ∷ procedure (named 46 (codes "q")) [] (block ((Construct 50 (named 60 (codes "Q")) (named 62 (codes "f"))
    (block ((Update 64 update.Add (Whole (named 64 (codes "x"))) (Number 69 1))
    ∷ (Update 71 update.Sub (Whole (named 71 (codes "x"))) (Number 76 2)) ∷ [])) (named 87 (codes "f"))) ∷ [])) ∷ [])
    ∷ class_text (named 95 (codes "Q")) None [] (procedure (named 104 (codes "m")) []
    (block ((Skip 108) ∷ [])) ∷ []) ∷ [])

construct_undone : with_variables construct_undone-text 4 2
    ≡ ((28, 1, 0) ∷ (50, 2, 0) ∷ (50, 2, 1) ∷ (71, 2, 1) ∷ (64, 2, 1) ∷ (50, 2, 1) ∷ [], 0)
construct_undone = refl

-- `class P method main() construct Q f construct Q g skip destruct g destruct f class Q int y
-- method q() skip`
abbrev pub construct_nested-text : Source
construct_nested-text = program (class_text (named 6 (codes "P")) None []
    (procedure (named 15 (codes "main")) [] (block ((Construct 22 (named 32 (codes "Q")) (named 34 (codes "f"))
    (block ((Construct 36 (named 46 (codes "Q")) (named 48 (codes "g")) (block ((Skip 50) ∷ []))
    (named 64 (codes "g"))) ∷ [])) (named 75 (codes "f"))) ∷ [])) ∷ [])
    ∷ class_text (named 83 (codes "Q")) None ((var kind.Int (named 89 (codes "y"))) ∷ [])
    (procedure (named 98 (codes "q")) [] (block ((Skip 102) ∷ [])) ∷ []) ∷ [])

construct_nested : with_variables construct_nested-text 3 1
    ≡ ((22, 1, 0) ∷ (22, 1, 1) ∷ (36, 1, 1) ∷ (36, 1, 2) ∷ (50, 1, 2) ∷ (36, 1, 2) ∷ (22, 1, 1) ∷ [], 0)
construct_nested = refl

-- with space for one object the `new` of the second has its trace point, and then its fault
construct_full : with_variables construct_nested-text 2 1
    ≡ ((22, 1, 0) ∷ (22, 1, 1) ∷ (36, 1, 1) ∷ (36, 1, 2) ∷ [], 8)
construct_full = refl

-- `class P A[] u method main() new A[2] u call u[0]::m() class A int f method m() f += 7`
abbrev pub element_nil-text : Source
element_nil-text = program (class_text (named 6 (codes "P")) None
    ((var (kind.ClassArray (named 8 (codes "A"))) (named 12 (codes "u"))) ∷ [])
    (procedure (named 21 (codes "main")) [] (block ((New 28 (Objects (named 32 (codes "A")) (Number 34 2))
    (Whole (named 37 (codes "u")))) ∷ (Call 39 false
    (Some (Item (named 44 (codes "u")) (Number 46 0))) (named 50 (codes "m")) []) ∷ [])) ∷ [])
    ∷ class_text (named 60 (codes "A")) None ((var kind.Int (named 66 (codes "f"))) ∷ [])
    (procedure (named 75 (codes "m")) [] (block ((Update 79 update.Add (Whole (named 79 (codes "f"))) (Number 84 7))
    ∷ [])) ∷ []) ∷ [])

-- the call has its trace point, and then the fault of its receiver
element_nil : with_variables element_nil-text 3 2 ≡ ((28, 1, 0) ∷ (39, 1, 0) ∷ (39, 1, 1) ∷ (39, 1, 1) ∷ [], 5)
element_nil = refl

-- `class P A[] u method main() new A[2] u new A u[0] uncall q() method q() call u[0]::m()
-- class A int f method m() f += 1 f += 2`
abbrev pub element_undone-text : Source
element_undone-text = program (class_text (named 6 (codes "P")) None
    ((var (kind.ClassArray (named 8 (codes "A"))) (named 12 (codes "u"))) ∷ [])
    (procedure (named 21 (codes "main")) [] (block ((New 28 (Objects (named 32 (codes "A")) (Number 34 2))
    (Whole (named 37 (codes "u")))) ∷ (New 39 (AnObject (named 43 (codes "A")))
    (Item (named 45 (codes "u")) (Number 47 0))) ∷ (Call 50 true None (named 57 (codes "q")) []) ∷ []))
    ∷ procedure (named 68 (codes "q")) [] (block ((Call 72 false
    (Some (Item (named 77 (codes "u")) (Number 79 0))) (named 83 (codes "m")) []) ∷ [])) ∷ [])
    ∷ class_text (named 93 (codes "A")) None ((var kind.Int (named 99 (codes "f"))) ∷ [])
    (procedure (named 108 (codes "m")) []
    (block ((Update 112 update.Add (Whole (named 112 (codes "f"))) (Number 117 1))
    ∷ (Update 119 update.Add (Whole (named 119 (codes "f"))) (Number 124 2)) ∷ [])) ∷ []) ∷ [])

element_undone : with_variables element_undone-text 3 3
    ≡ (
      (28, 1, 0) ∷ (39, 1, 0) ∷ (50, 1, 0) ∷ (72, 2, 0) ∷ (72, 2, 1) ∷ (72, 2, 1) ∷ (119, 3, 0) ∷ (112, 3, 0)
          ∷ (72, 2, 1) ∷ [],
      0,
    )
element_undone = refl
