-- Worked programs with calls.
use Rattle.std.specs.Prelude.{◌≡◌, true, false, [], ◌∷◌, Some, None, codes}
use Rattle.std.specs.Fmt.{digits}
use Rattle.std.proofs.Common.{refl}
use Rattle.inverse_rules.specs.rpp_tree.declared.tree.VarType.TheVariants as kind
use Rattle.inverse_rules.specs.rpp_tree.declared.tree.BinOp.TheVariants as op
use Rattle.inverse_rules.specs.rpp_tree.declared.tree.UpdateOp.TheVariants as update
use Rattle.inverse_rules.specs.rpp_tree.Tree.{Number, Variable, Binary, Whole, Object as AnObject, Update, Swap, If, Construct, New}
use Rattle.inverse_rules.specs.rpp_tree.Tree.{Copy, Call, Skip, Source}
use Rattle.roopl_semantics.proofs.Testing.{named, var, procedure, class_text, block, program, Finished, Faulted, lines}
use Rattle.roopl_semantics.proofs.Testing.{ending}

-- `class P int a int b int n method main() n += 4 construct Fib f call f::fib(n) call f::get(a, b)
-- uncall f::fib(n) destruct f class Fib int x1 int x2 method fib(int n) if n = 0 then x1 += 1 x2 +=
-- 1 else n -= 1 call fib(n) x1 += x2 x1 <=> x2 fi x1 = x2 method get(int u, int v) u += x1 v += x2`
abbrev pub fibonacci-text : Source
fibonacci-text = program (class_text (named 6 (codes "P")) None
    ((var kind.Int (named 12 (codes "a"))) ∷ (var kind.Int (named 18 (codes "b")))
    ∷ (var kind.Int (named 24 (codes "n"))) ∷ []) (procedure (named 33 (codes "main")) []
    (block ((Update 40 update.Add (Whole (named 40 (codes "n"))) (Number 45 4))
    ∷ (Construct 47 (named 57 (codes "Fib")) (named 61 (codes "f"))
    (block ((Call 63 false (Some (Whole (named 68 (codes "f")))) (named 71 (codes "fib"))
    ((named 75 (codes "n")) ∷ [])) ∷ (Call 78 false (Some (Whole (named 83 (codes "f"))))
    (named 86 (codes "get")) ((named 90 (codes "a")) ∷ (named 93 (codes "b")) ∷ []))
    ∷ (Call 96 true (Some (Whole (named 103 (codes "f")))) (named 106 (codes "fib"))
    ((named 110 (codes "n")) ∷ [])) ∷ [])) (named 122 (codes "f"))) ∷ [])) ∷ [])
    ∷ class_text (named 130 (codes "Fib")) None ((var kind.Int (named 138 (codes "x1")))
    ∷ (var kind.Int (named 145 (codes "x2"))) ∷ []) (procedure (named 155 (codes "fib"))
    ((var kind.Int (named 163 (codes "n"))) ∷ []) (block
    ((If 166 (Binary 171 op.Equal (Variable (named 169 (codes "n"))) (Number 173 0))
    (block ((Update 180 update.Add (Whole (named 180 (codes "x1"))) (Number 186 1))
    ∷ (Update 188 update.Add (Whole (named 188 (codes "x2"))) (Number 194 1)) ∷ []))
    (block ((Update 201 update.Sub (Whole (named 201 (codes "n"))) (Number 206 1))
    ∷ (Call 208 false None (named 213 (codes "fib")) ((named 217 (codes "n")) ∷ []))
    ∷ (Update 220 update.Add (Whole (named 220 (codes "x1"))) (Variable (named 226 (codes "x2"))))
    ∷ (Swap 229 (Whole (named 229 (codes "x1"))) (Whole (named 236 (codes "x2")))) ∷ []))
    (Binary 245 op.Equal (Variable (named 242 (codes "x1"))) (Variable (named 247 (codes "x2"))))) ∷ []))
    ∷ procedure (named 257 (codes "get")) ((var kind.Int (named 265 (codes "u")))
    ∷ (var kind.Int (named 272 (codes "v"))) ∷ []) (block
    ((Update 275 update.Add (Whole (named 275 (codes "u"))) (Variable (named 280 (codes "x1"))))
    ∷ (Update 283 update.Add (Whole (named 283 (codes "v"))) (Variable (named 288 (codes "x2")))) ∷ [])) ∷ [])
    ∷ [])

fibonacci : ending fibonacci-text 2 6 [] 1000 ≡ Finished
    (lines (codes "a = 5" ∷ codes "b = 8" ∷ codes "n = 4" ∷ codes "live 0" ∷ [])) 158
unfolding digits
fibonacci = refl

fibonacci-too_deep : ending fibonacci-text 2 5 [] 1000 ≡ Faulted 14 42
fibonacci-too_deep = refl

-- `class P method main() call q() method q() call q()`
abbrev pub calls_without_end-text : Source
calls_without_end-text = program (class_text (named 6 (codes "P")) None []
    (procedure (named 15 (codes "main")) [] (block ((Call 22 false None (named 27 (codes "q")) []) ∷ []))
    ∷ procedure (named 38 (codes "q")) [] (block ((Call 42 false None (named 47 (codes "q")) []) ∷ [])) ∷ []) ∷ [])

calls_without_end : ending calls_without_end-text 1 3 [] 1000 ≡ Faulted 14 3
calls_without_end = refl

-- `class P Base b int r int s method main() new Sub b call b::q(r) s += r uncall b::q(r) class Base
-- int f method q(int o) o += 1 class Sub inherits Base method q(int o) o += 2 f += 1`
abbrev pub overrides-text : Source
overrides-text = program (class_text (named 6 (codes "P")) None
    ((var (kind.Class (named 8 (codes "Base"))) (named 13 (codes "b"))) ∷ (var kind.Int (named 19 (codes "r")))
    ∷ (var kind.Int (named 25 (codes "s"))) ∷ []) (procedure (named 34 (codes "main")) []
    (block ((New 41 (AnObject (named 45 (codes "Sub"))) (Whole (named 49 (codes "b"))))
    ∷ (Call 51 false (Some (Whole (named 56 (codes "b")))) (named 59 (codes "q")) ((named 61 (codes "r")) ∷ []))
    ∷ (Update 64 update.Add (Whole (named 64 (codes "s"))) (Variable (named 69 (codes "r"))))
    ∷ (Call 71 true (Some (Whole (named 78 (codes "b")))) (named 81 (codes "q")) ((named 83 (codes "r")) ∷ []))
    ∷ [])) ∷ []) ∷ class_text (named 92 (codes "Base")) None ((var kind.Int (named 101 (codes "f"))) ∷ [])
    (procedure (named 110 (codes "q")) ((var kind.Int (named 116 (codes "o"))) ∷ [])
    (block ((Update 119 update.Add (Whole (named 119 (codes "o"))) (Number 124 1)) ∷ [])) ∷ [])
    ∷ class_text (named 132 (codes "Sub")) (Some (named 145 (codes "Base"))) []
    (procedure (named 157 (codes "q")) ((var kind.Int (named 163 (codes "o"))) ∷ [])
    (block ((Update 166 update.Add (Whole (named 166 (codes "o"))) (Number 171 2))
    ∷ (Update 173 update.Add (Whole (named 173 (codes "f"))) (Number 178 1)) ∷ [])) ∷ []) ∷ [])

overrides : ending overrides-text 2 2 [] 1000 ≡ Finished
    (lines (codes "b = #1" ∷ codes "r = 0" ∷ codes "s = 2" ∷ codes "#1 Sub count 1" ∷ codes "  f = 0" ∷ codes "live 1"
    ∷ [])) 18
unfolding digits
overrides = refl

-- `class P int x method main() uncall q() method q() if x = 0 then x += 1 else skip fi x = 1`
abbrev pub uncalled-fault-text : Source
uncalled-fault-text = program (class_text (named 6 (codes "P")) None ((var kind.Int (named 12 (codes "x"))) ∷ [])
    (procedure (named 21 (codes "main")) [] (block ((Call 28 true None (named 35 (codes "q")) []) ∷ []))
    ∷ procedure (named 46 (codes "q")) [] (block ((If 50
    (Binary 55 op.Equal (Variable (named 53 (codes "x"))) (Number 57 0))
    (block ((Update 64 update.Add (Whole (named 64 (codes "x"))) (Number 69 1)) ∷ []))
    (block ((Skip 76) ∷ [])) (Binary 86 op.Equal (Variable (named 84 (codes "x"))) (Number 88 1))) ∷ []))
    ∷ []) ∷ [])

uncalled-fault : ending uncalled-fault-text 1 2 [] 1000 ≡ Faulted 1 9
uncalled-fault = refl

-- `class P int x method main() call q() method q() if x = 1 then x -= 1 else skip fi x = 0`
abbrev pub called-fault-text : Source
called-fault-text = program (class_text (named 6 (codes "P")) None ((var kind.Int (named 12 (codes "x"))) ∷ [])
    (procedure (named 21 (codes "main")) [] (block ((Call 28 false None (named 33 (codes "q")) []) ∷ []))
    ∷ procedure (named 44 (codes "q")) [] (block ((If 48
    (Binary 53 op.Equal (Variable (named 51 (codes "x"))) (Number 55 1))
    (block ((Update 62 update.Sub (Whole (named 62 (codes "x"))) (Number 67 1)) ∷ []))
    (block ((Skip 74) ∷ [])) (Binary 84 op.Equal (Variable (named 82 (codes "x"))) (Number 86 0))) ∷ []))
    ∷ []) ∷ [])

called-fault : ending called-fault-text 1 2 [] 1000 ≡ Faulted 1 9
called-fault = refl

-- `class P A a B b method main() new A a new B b call b::link(a) call a::m(b) class A int f method
-- m(B o) call o::q(f) method set() f += 1 class B A back method link(A o) copy A o back method
-- q(int v) call back::set()`
abbrev pub called_again_through_a_copy-text : Source
called_again_through_a_copy-text = program (class_text (named 6 (codes "P")) None
    ((var (kind.Class (named 8 (codes "A"))) (named 10 (codes "a")))
    ∷ (var (kind.Class (named 12 (codes "B"))) (named 14 (codes "b"))) ∷ [])
    (procedure (named 23 (codes "main")) [] (block ((New 30 (AnObject (named 34 (codes "A")))
    (Whole (named 36 (codes "a")))) ∷ (New 38 (AnObject (named 42 (codes "B")))
    (Whole (named 44 (codes "b")))) ∷ (Call 46 false (Some (Whole (named 51 (codes "b"))))
    (named 54 (codes "link")) ((named 59 (codes "a")) ∷ []))
    ∷ (Call 62 false (Some (Whole (named 67 (codes "a")))) (named 70 (codes "m")) ((named 72 (codes "b")) ∷ []))
    ∷ [])) ∷ []) ∷ class_text (named 81 (codes "A")) None ((var kind.Int (named 87 (codes "f"))) ∷ [])
    (procedure (named 96 (codes "m")) ((var (kind.Class (named 98 (codes "B"))) (named 100 (codes "o"))) ∷ [])
    (block ((Call 103 false (Some (Whole (named 108 (codes "o")))) (named 111 (codes "q"))
    ((named 113 (codes "f")) ∷ [])) ∷ [])) ∷ procedure (named 123 (codes "set")) []
    (block ((Update 129 update.Add (Whole (named 129 (codes "f"))) (Number 134 1)) ∷ [])) ∷ [])
    ∷ class_text (named 142 (codes "B")) None ((var (kind.Class (named 144 (codes "A"))) (named 146 (codes "back")))
    ∷ []) (procedure (named 158 (codes "link")) ((var (kind.Class (named 163 (codes "A"))) (named 165 (codes "o")))
    ∷ []) (block ((Copy 168 (kind.Class (named 173 (codes "A"))) (Whole (named 175 (codes "o")))
    (Whole (named 177 (codes "back")))) ∷ [])) ∷ procedure (named 189 (codes "q"))
    ((var kind.Int (named 195 (codes "v"))) ∷ []) (block
    ((Call 198 false (Some (Whole (named 203 (codes "back")))) (named 209 (codes "set")) []) ∷ [])) ∷ []) ∷ [])

called_again_through_a_copy : ending called_again_through_a_copy-text 3 4 [] 1000 ≡ Faulted 15 20
called_again_through_a_copy = refl
