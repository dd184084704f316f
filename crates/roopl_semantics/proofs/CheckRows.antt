-- Worked programs for the order of checks and for costs, if the receiver of a call moves, and
-- for what a local hides.
use Rattle.std.specs.Prelude.{◌≡◌, List, true, false, [], ◌∷◌, Some, None, codes}
use Rattle.std.specs.Fmt.{digits}
use Rattle.std.proofs.Common.{refl}
use Rattle.inverse_rules.specs.rpp_tree.declared.tree.VarType.TheVariants as kind
use Rattle.inverse_rules.specs.rpp_tree.declared.tree.UpdateOp.TheVariants as update
use Rattle.inverse_rules.specs.rpp_tree.declared.tree.BinOp.TheVariants as op
use Rattle.inverse_rules.specs.rpp_tree.declared.tree.Ident.{Ident}
use Rattle.inverse_rules.specs.rpp_tree.Tree.{Statement, Number, Variable, Element, Binary, Whole, Item, Object as AnObject, Ints}
use Rattle.inverse_rules.specs.rpp_tree.Tree.{Objects, Update, Swap, From, Construct, Local, New, Delete, Copy, Uncopy, Call, Skip}
use Rattle.inverse_rules.specs.rpp_tree.Tree.{Source}
use Rattle.roopl_semantics.proofs.Testing.{named, var, procedure, class_text, block, program, word_for, Finished}
use Rattle.roopl_semantics.proofs.Testing.{Faulted, Unfinished, lines, ending}

-- ---- the names

abbrev n_A : Ident
n_A = named 0 (codes "A")

abbrev n_B : Ident
n_B = named 0 (codes "B")

abbrev n_C : Ident
n_C = named 0 (codes "C")

abbrev n_L : Ident
n_L = named 0 (codes "L")

abbrev n_Node : Ident
n_Node = named 0 (codes "Node")

abbrev n_P : Ident
n_P = named 0 (codes "P")

abbrev n_Q : Ident
n_Q = named 0 (codes "Q")

abbrev n_a : Ident
n_a = named 0 (codes "a")

abbrev n_b : Ident
n_b = named 0 (codes "b")

abbrev n_back : Ident
n_back = named 0 (codes "back")

abbrev n_c : Ident
n_c = named 0 (codes "c")

abbrev n_deepen : Ident
n_deepen = named 0 (codes "deepen")

abbrev n_e : Ident
n_e = named 0 (codes "e")

abbrev n_f : Ident
n_f = named 0 (codes "f")

abbrev n_fill : Ident
n_fill = named 0 (codes "fill")

abbrev n_g : Ident
n_g = named 0 (codes "g")

abbrev n_go : Ident
n_go = named 0 (codes "go")

abbrev n_grow : Ident
n_grow = named 0 (codes "grow")

abbrev n_i : Ident
n_i = named 0 (codes "i")

abbrev n_inc : Ident
n_inc = named 0 (codes "inc")

abbrev n_join : Ident
n_join = named 0 (codes "join")

abbrev n_link : Ident
n_link = named 0 (codes "link")

abbrev n_main : Ident
n_main = named 0 (codes "main")

abbrev n_next : Ident
n_next = named 0 (codes "next")

abbrev n_o : Ident
n_o = named 0 (codes "o")

abbrev n_probe : Ident
n_probe = named 0 (codes "probe")

abbrev n_q : Ident
n_q = named 0 (codes "q")

abbrev n_r : Ident
n_r = named 0 (codes "r")

abbrev n_s : Ident
n_s = named 0 (codes "s")

abbrev n_t : Ident
n_t = named 0 (codes "t")

abbrev n_v : Ident
n_v = named 0 (codes "v")

abbrev n_x : Ident
n_x = named 0 (codes "x")

abbrev n_y : Ident
n_y = named 0 (codes "y")

abbrev n_z : Ident
n_z = named 0 (codes "z")

-- ---- a program of nodes, with this body of `main`
--
-- `class P
--   Node a  Node b  int[] c  Node[] e  Node[] g  int x  int[] f
--   method main() ..
-- class Node
--   int v  Node next  Node back
--   method inc() v += 1
--   method link(Node o) copy Node o next
--   method join(Node o) copy Node o back
--   method go() call next::probe()
--   method probe() call back::fill()
--   method fill() new Node next`
abbrev with_nodes : List Statement → Source
with_nodes body = program (class_text n_P None ((var (kind.Class n_Node) n_a)
    ∷ (var (kind.Class n_Node) n_b) ∷ (var kind.IntArray n_c)
    ∷ (var (kind.ClassArray n_Node) n_e) ∷ (var (kind.ClassArray n_Node) n_g)
    ∷ (var kind.Int n_x) ∷ (var kind.IntArray n_f) ∷ []) (procedure n_main [] (block body)
    ∷ []) ∷ class_text n_Node None ((var kind.Int n_v) ∷ (var (kind.Class n_Node) n_next)
    ∷ (var (kind.Class n_Node) n_back)
    ∷ []) (procedure n_inc [] (block ((Update 0 update.Add (Whole n_v) (Number 0 1)) ∷ []))
    ∷ procedure n_link ((var (kind.Class n_Node) n_o)
    ∷ []) (block ((Copy 0 (kind.Class n_Node) (Whole n_o) (Whole n_next)) ∷ []))
    ∷ procedure n_join ((var (kind.Class n_Node) n_o)
    ∷ []) (block ((Copy 0 (kind.Class n_Node) (Whole n_o) (Whole n_back)) ∷ []))
    ∷ procedure n_go [] (block ((Call 0 false (Some (Whole n_next)) n_probe []) ∷ []))
    ∷ procedure n_probe [] (block ((Call 0 false (Some (Whole n_back)) n_fill []) ∷ []))
    ∷ procedure n_fill [] (block ((New 0 (AnObject n_Node) (Whole n_next)) ∷ [])) ∷ []) ∷ [])

-- ---- the rows

-- new int[2] c new int[0] c
abbrev filled-before-length-text : Source
filled-before-length-text = with_nodes ((New 0 (Ints (Number 0 2)) (Whole n_c))
    ∷ (New 0 (Ints (Number 0 0)) (Whole n_c)) ∷ [])

filled-before-length : ending filled-before-length-text 4 4 [] 2000 ≡ Faulted 4 11
filled-before-length = refl

-- new int[0 - 5] c
abbrev negative_length-text : Source
negative_length-text = with_nodes ((New 0 (Ints (Binary 0 op.Sub (Number 0 0) (Number 0 5)))
    (Whole n_c)) ∷ [])

negative_length : ending negative_length-text 4 4 [] 2000 ≡ Faulted 13 4
negative_length = refl

-- new int[2147483647] c
abbrev greatest_length-text : Source
greatest_length-text = with_nodes ((New 0 (Ints (Number 0 2147483647)) (Whole n_c)) ∷ [])

greatest_length : ending greatest_length-text 4 4 [] 2000 ≡ Faulted 8 7
greatest_length = refl

-- new int[14] c
abbrev whole_heap-text : Source
whole_heap-text = with_nodes ((New 0 (Ints (Number 0 14)) (Whole n_c)) ∷ [])

whole_heap : ending whole_heap-text 4 4 [] 2000 ≡ Finished (lines (codes "a = nil"
    ∷ codes "b = nil" ∷ codes "c = #1" ∷ codes "e = nil" ∷ codes "g = nil" ∷ codes "x = 0"
    ∷ codes "f = nil" ∷ codes "#1 int[14] count 1" ∷ codes "  [0] = 0" ∷ codes "  [1] = 0"
    ∷ codes "  [2] = 0" ∷ codes "  [3] = 0" ∷ codes "  [4] = 0" ∷ codes "  [5] = 0"
    ∷ codes "  [6] = 0" ∷ codes "  [7] = 0" ∷ codes "  [8] = 0" ∷ codes "  [9] = 0"
    ∷ codes "  [10] = 0" ∷ codes "  [11] = 0" ∷ codes "  [12] = 0" ∷ codes "  [13] = 0"
    ∷ codes "live 1" ∷ [])) 21
unfolding digits
whole_heap = refl

-- new int[15] c
abbrev past_the_heap-text : Source
past_the_heap-text = with_nodes ((New 0 (Ints (Number 0 15)) (Whole n_c)) ∷ [])

past_the_heap : ending past_the_heap-text 4 4 [] 2000 ≡ Faulted 8 7
past_the_heap = refl

-- `class P B b C c method main() new C c copy C c b delete B b class B int f method q(int o) o += 1
--   call r() method r() f += 1 class C inherits B int g method r() g += 10 f -= 1 method s() call
--   r()`
abbrev other_class-before-count-text : Source
other_class-before-count-text = program (class_text n_P None ((var (kind.Class n_B) n_b)
    ∷ (var (kind.Class n_C) n_c)
    ∷ []) (procedure n_main [] (block ((New 0 (AnObject n_C) (Whole n_c))
    ∷ (Copy 0 (kind.Class n_C) (Whole n_c) (Whole n_b))
    ∷ (Delete 0 (AnObject n_B) (Whole n_b)) ∷ [])) ∷ [])
    ∷ class_text n_B None ((var kind.Int n_f) ∷ []) (procedure n_q ((var kind.Int n_o)
    ∷ []) (block ((Update 0 update.Add (Whole n_o) (Number 0 1)) ∷ (Call 0 false None n_r [])
    ∷ [])) ∷ procedure n_r [] (block ((Update 0 update.Add (Whole n_f) (Number 0 1)) ∷ []))
    ∷ []) ∷ class_text n_C (Some n_B) ((var kind.Int n_g)
    ∷ []) (procedure n_r [] (block ((Update 0 update.Add (Whole n_g) (Number 0 10))
    ∷ (Update 0 update.Sub (Whole n_f) (Number 0 1)) ∷ []))
    ∷ procedure n_s [] (block ((Call 0 false None n_r []) ∷ [])) ∷ []) ∷ [])

other_class-before-count : ending other_class-before-count-text 4 4 [] 2000 ≡ Faulted 11 8
other_class-before-count = refl

-- new int[2] c c[1] += 1 delete int[2] c
abbrev array-not_empty-text : Source
array-not_empty-text = with_nodes ((New 0 (Ints (Number 0 2)) (Whole n_c))
    ∷ (Update 0 update.Add (Item n_c (Number 0 1)) (Number 0 1))
    ∷ (Delete 0 (Ints (Number 0 2)) (Whole n_c)) ∷ [])

array-not_empty : ending array-not_empty-text 4 4 [] 2000 ≡ Faulted 7 21
array-not_empty = refl

-- delete int[2] c
abbrev array-nil-before-length-text : Source
array-nil-before-length-text = with_nodes ((Delete 0 (Ints (Number 0 2)) (Whole n_c)) ∷ [])

array-nil-before-length : ending array-nil-before-length-text 4 4 [] 2000 ≡ Faulted 5 2
array-nil-before-length = refl

-- new int[2] c c[0] += 1 delete int[1] c
abbrev array-length-before-cells-text : Source
array-length-before-cells-text = with_nodes ((New 0 (Ints (Number 0 2)) (Whole n_c))
    ∷ (Update 0 update.Add (Item n_c (Number 0 0)) (Number 0 1))
    ∷ (Delete 0 (Ints (Number 0 1)) (Whole n_c)) ∷ [])

array-length-before-cells : ending array-length-before-cells-text 4 4 [] 2000 ≡ Faulted 12 14
array-length-before-cells = refl

-- new Node b copy Node a b
abbrev copy-nil-before-filled-text : Source
copy-nil-before-filled-text = with_nodes ((New 0 (AnObject n_Node) (Whole n_b))
    ∷ (Copy 0 (kind.Class n_Node) (Whole n_a) (Whole n_b)) ∷ [])

copy-nil-before-filled : ending copy-nil-before-filled-text 4 4 [] 2000 ≡ Faulted 5 7
copy-nil-before-filled = refl

-- new Node a new Node b copy Node a b
abbrev copy-filled-text : Source
copy-filled-text = with_nodes ((New 0 (AnObject n_Node) (Whole n_a))
    ∷ (New 0 (AnObject n_Node) (Whole n_b))
    ∷ (Copy 0 (kind.Class n_Node) (Whole n_a) (Whole n_b)) ∷ [])

copy-filled : ending copy-filled-text 4 4 [] 2000 ≡ Faulted 4 13
copy-filled = refl

-- new Node[1] e copy Node e[1] g[0]
abbrev copy-first_place-first-text : Source
copy-first_place-first-text = with_nodes ((New 0 (Objects n_Node (Number 0 1)) (Whole n_e))
    ∷ (Copy 0 (kind.Class n_Node) (Item n_e (Number 0 1)) (Item n_g (Number 0 0))) ∷ [])

copy-first_place-first : ending copy-first_place-first-text 4 4 [] 2000 ≡ Faulted 9 10
copy-first_place-first = refl

-- new Node[1] e new Node e[0] copy Node e[0] e[0]
abbrev copy-of_itself-text : Source
copy-of_itself-text = with_nodes ((New 0 (Objects n_Node (Number 0 1)) (Whole n_e))
    ∷ (New 0 (AnObject n_Node) (Item n_e (Number 0 0)))
    ∷ (Copy 0 (kind.Class n_Node) (Item n_e (Number 0 0)) (Item n_e (Number 0 0))) ∷ [])

copy-of_itself : ending copy-of_itself-text 4 4 [] 2000 ≡ Faulted 4 18
copy-of_itself = refl

-- new Node b uncopy Node a b
abbrev uncopy-nil-before-same-text : Source
uncopy-nil-before-same-text = with_nodes ((New 0 (AnObject n_Node) (Whole n_b))
    ∷ (Uncopy 0 (kind.Class n_Node) (Whole n_a) (Whole n_b)) ∷ [])

uncopy-nil-before-same : ending uncopy-nil-before-same-text 4 4 [] 2000 ≡ Faulted 5 7
uncopy-nil-before-same = refl

-- new Node a uncopy Node a b
abbrev uncopy-target_nil-text : Source
uncopy-target_nil-text = with_nodes ((New 0 (AnObject n_Node) (Whole n_a))
    ∷ (Uncopy 0 (kind.Class n_Node) (Whole n_a) (Whole n_b)) ∷ [])

uncopy-target_nil : ending uncopy-target_nil-text 4 4 [] 2000 ≡ Faulted 10 7
uncopy-target_nil = refl

-- new Node[1] e new Node e[0] uncopy Node e[0] e[0]
abbrev uncopy-one_cell-text : Source
uncopy-one_cell-text = with_nodes ((New 0 (Objects n_Node (Number 0 1)) (Whole n_e))
    ∷ (New 0 (AnObject n_Node) (Item n_e (Number 0 0)))
    ∷ (Uncopy 0 (kind.Class n_Node) (Item n_e (Number 0 0)) (Item n_e (Number 0 0))) ∷ [])

uncopy-one_cell : ending uncopy-one_cell-text 4 4 [] 2000 ≡ Faulted 10 18
uncopy-one_cell = refl

-- new Node[1] e uncopy Node e[0] e[0]
abbrev uncopy-one_nil_cell-text : Source
uncopy-one_nil_cell-text = with_nodes ((New 0 (Objects n_Node (Number 0 1)) (Whole n_e))
    ∷ (Uncopy 0 (kind.Class n_Node) (Item n_e (Number 0 0)) (Item n_e (Number 0 0))) ∷ [])

uncopy-one_nil_cell : ending uncopy-one_nil_cell-text 4 4 [] 2000 ≡ Faulted 5 11
uncopy-one_nil_cell = refl

-- call a::inc()
abbrev receiver-nil-before-depth-text : Source
receiver-nil-before-depth-text = with_nodes ((Call 0 false (Some (Whole n_a)) n_inc []) ∷ [])

receiver-nil-before-depth : ending receiver-nil-before-depth-text 4 1 [] 2000 ≡ Faulted 5 1
receiver-nil-before-depth = refl

-- new Node a call a::inc()
abbrev receiver-too_deep-text : Source
receiver-too_deep-text = with_nodes ((New 0 (AnObject n_Node) (Whole n_a))
    ∷ (Call 0 false (Some (Whole n_a)) n_inc []) ∷ [])

receiver-too_deep : ending receiver-too_deep-text 4 1 [] 2000 ≡ Faulted 14 7
receiver-too_deep = refl

-- call a::link(b)
abbrev receiver-nil-after-arguments-text : Source
receiver-nil-after-arguments-text = with_nodes ((Call 0 false (Some (Whole n_a)) n_link (n_b
    ∷ [])) ∷ [])

receiver-nil-after-arguments : ending receiver-nil-after-arguments-text 4 4 [] 2000 ≡ Faulted 5 2
receiver-nil-after-arguments = refl

-- new Node a new Node b call a::link(b) call b::join(a) call a::go()
abbrev receiver-touched-text : Source
receiver-touched-text = with_nodes ((New 0 (AnObject n_Node) (Whole n_a))
    ∷ (New 0 (AnObject n_Node) (Whole n_b)) ∷ (Call 0 false (Some (Whole n_a)) n_link (n_b
    ∷ [])) ∷ (Call 0 false (Some (Whole n_b)) n_join (n_a ∷ []))
    ∷ (Call 0 false (Some (Whole n_a)) n_go []) ∷ [])

receiver-touched : ending receiver-touched-text 6 6 [] 2000 ≡ Faulted 15 33
receiver-touched = refl

-- new int[2] c c[2] <=> f[0]
abbrev swap-first_place-first-text : Source
swap-first_place-first-text = with_nodes ((New 0 (Ints (Number 0 2)) (Whole n_c))
    ∷ (Swap 0 (Item n_c (Number 0 2)) (Item n_f (Number 0 0))) ∷ [])

swap-first_place-first : ending swap-first_place-first-text 4 4 [] 2000 ≡ Faulted 9 11
swap-first_place-first = refl

-- new int[2] c c[1] += 5 c[1] <=> c[1] c[0] <=> c[1]
abbrev swap-one_cell-text : Source
swap-one_cell-text = with_nodes ((New 0 (Ints (Number 0 2)) (Whole n_c))
    ∷ (Update 0 update.Add (Item n_c (Number 0 1)) (Number 0 5))
    ∷ (Swap 0 (Item n_c (Number 0 1)) (Item n_c (Number 0 1)))
    ∷ (Swap 0 (Item n_c (Number 0 0)) (Item n_c (Number 0 1))) ∷ [])

swap-one_cell : ending swap-one_cell-text 4 4 [] 2000 ≡ Finished (lines (codes "a = nil"
    ∷ codes "b = nil" ∷ codes "c = #1" ∷ codes "e = nil" ∷ codes "g = nil" ∷ codes "x = 0"
    ∷ codes "f = nil" ∷ codes "#1 int[2] count 1" ∷ codes "  [0] = 5" ∷ codes "  [1] = 0"
    ∷ codes "live 1" ∷ [])) 18
unfolding digits
swap-one_cell = refl

-- new int[1] c c[0 - 2147483647 - 1] += 1
abbrev index-least_word-text : Source
index-least_word-text = with_nodes ((New 0 (Ints (Number 0 1)) (Whole n_c))
    ∷ (Update 0 update.Add (Item n_c (Binary 0 op.Sub (Binary 0 op.Sub (Number 0 0)
    (Number 0 2147483647)) (Number 0 1))) (Number 0 1)) ∷ [])

index-least_word : ending index-least_word-text 4 4 [] 2000 ≡ Faulted 9 14
index-least_word = refl

-- new int[1] f c[f[1]] += 1
abbrev index-before-array-text : Source
index-before-array-text = with_nodes ((New 0 (Ints (Number 0 1)) (Whole n_f))
    ∷ (Update 0 update.Add (Item n_c (Element n_f (Number 0 1))) (Number 0 1)) ∷ [])

index-before-array : ending index-before-array-text 4 4 [] 2000 ≡ Faulted 9 11
index-before-array = refl

-- new int[1] f c[f[0]] += 1
abbrev array-nil-before-index-text : Source
array-nil-before-index-text = with_nodes ((New 0 (Ints (Number 0 1)) (Whole n_f))
    ∷ (Update 0 update.Add (Item n_c (Element n_f (Number 0 0))) (Number 0 1)) ∷ [])

array-nil-before-index : ending array-nil-before-index-text 4 4 [] 2000 ≡ Faulted 5 11
array-nil-before-index = refl

-- new int[1] c x += c[1] + f[0]
abbrev left_operand-first-text : Source
left_operand-first-text = with_nodes ((New 0 (Ints (Number 0 1)) (Whole n_c))
    ∷ (Update 0 update.Add (Whole n_x) (Binary 0 op.Add (Element n_c (Number 0 1))
    (Element n_f (Number 0 0)))) ∷ [])

left_operand-first : ending left_operand-first-text 4 4 [] 2000 ≡ Faulted 9 14
left_operand-first = refl

-- c[0] += f[1 - 2]
abbrev place-before-value-text : Source
place-before-value-text = with_nodes ((Update 0 update.Add (Item n_c (Number 0 0))
    (Element n_f (Binary 0 op.Sub (Number 0 1) (Number 0 2)))) ∷ [])

place-before-value : ending place-before-value-text 4 4 [] 2000 ≡ Faulted 5 2
place-before-value = refl

-- `class P A[] a int i method main() new A[2] a new A a[0] call a[i]::next(i) class A int v method
--   next(int i) i += 1`
abbrev element_call-moved_index-text : Source
element_call-moved_index-text = program (class_text n_P None ((var (kind.ClassArray n_A) n_a)
    ∷ (var kind.Int n_i)
    ∷ []) (procedure n_main [] (block ((New 0 (Objects n_A (Number 0 2)) (Whole n_a))
    ∷ (New 0 (AnObject n_A) (Item n_a (Number 0 0)))
    ∷ (Call 0 false (Some (Item n_a (Variable n_i))) n_next (n_i ∷ [])) ∷ [])) ∷ [])
    ∷ class_text n_A None ((var kind.Int n_v) ∷ []) (procedure n_next ((var kind.Int n_i)
    ∷ []) (block ((Update 0 update.Add (Whole n_i) (Number 0 1)) ∷ [])) ∷ []) ∷ [])

element_call-moved_index : ending element_call-moved_index-text 4 4 [] 2000 ≡ Finished (lines
    (codes "a = #1" ∷ codes "i = 1" ∷ codes "#1 A[2] count 1" ∷ codes "  [0] = nil"
    ∷ codes "  [1] = #2" ∷ codes "#2 A count 1" ∷ codes "  v = 0" ∷ codes "live 2" ∷ [])) 27
unfolding digits
element_call-moved_index = refl

-- `class P A[] a int i method main() new A[2] a new A a[1] i += 1 call a[i]::next(i) class A int v
--   method next(int i) i += 1`
abbrev element_call-lost_index-text : Source
element_call-lost_index-text = program (class_text n_P None ((var (kind.ClassArray n_A) n_a)
    ∷ (var kind.Int n_i)
    ∷ []) (procedure n_main [] (block ((New 0 (Objects n_A (Number 0 2)) (Whole n_a))
    ∷ (New 0 (AnObject n_A) (Item n_a (Number 0 1)))
    ∷ (Update 0 update.Add (Whole n_i) (Number 0 1))
    ∷ (Call 0 false (Some (Item n_a (Variable n_i))) n_next (n_i ∷ [])) ∷ [])) ∷ [])
    ∷ class_text n_A None ((var kind.Int n_v) ∷ []) (procedure n_next ((var kind.Int n_i)
    ∷ []) (block ((Update 0 update.Add (Whole n_i) (Number 0 1)) ∷ [])) ∷ []) ∷ [])

element_call-lost_index : ending element_call-lost_index-text 4 4 [] 2000 ≡ Faulted 9 28
element_call-lost_index = refl

-- `class P A[] a int i method main() new A[2] a new A a[1] i += 1 uncall a[i]::next(i) class A int
--   v method next(int i) i += 1`
abbrev element_call-back-text : Source
element_call-back-text = program (class_text n_P None ((var (kind.ClassArray n_A) n_a)
    ∷ (var kind.Int n_i)
    ∷ []) (procedure n_main [] (block ((New 0 (Objects n_A (Number 0 2)) (Whole n_a))
    ∷ (New 0 (AnObject n_A) (Item n_a (Number 0 1)))
    ∷ (Update 0 update.Add (Whole n_i) (Number 0 1))
    ∷ (Call 0 true (Some (Item n_a (Variable n_i))) n_next (n_i ∷ [])) ∷ [])) ∷ [])
    ∷ class_text n_A None ((var kind.Int n_v) ∷ []) (procedure n_next ((var kind.Int n_i)
    ∷ []) (block ((Update 0 update.Add (Whole n_i) (Number 0 1)) ∷ [])) ∷ []) ∷ [])

element_call-back : ending element_call-back-text 4 4 [] 2000 ≡ Finished (lines
    (codes "a = #1" ∷ codes "i = 0" ∷ codes "#1 A[2] count 1" ∷ codes "  [0] = #2"
    ∷ codes "  [1] = nil" ∷ codes "#2 A count 1" ∷ codes "  v = 0" ∷ codes "live 2" ∷ [])) 29
unfolding digits
element_call-back = refl

-- `class P A[] a int i method main() new A[2] a call a[1]::next(i) class A int v method next(int i)
--   i += 1`
abbrev element_call-nil-text : Source
element_call-nil-text = program (class_text n_P None ((var (kind.ClassArray n_A) n_a)
    ∷ (var kind.Int n_i)
    ∷ []) (procedure n_main [] (block ((New 0 (Objects n_A (Number 0 2)) (Whole n_a))
    ∷ (Call 0 false (Some (Item n_a (Number 0 1))) n_next (n_i ∷ [])) ∷ [])) ∷ [])
    ∷ class_text n_A None ((var kind.Int n_v) ∷ []) (procedure n_next ((var kind.Int n_i)
    ∷ []) (block ((Update 0 update.Add (Whole n_i) (Number 0 1)) ∷ [])) ∷ []) ∷ [])

element_call-nil : ending element_call-nil-text 4 4 [] 2000 ≡ Faulted 5 15
element_call-nil = refl

-- `class P B b int x method main() new C b call b::q(x) uncall b::r() class B int f method q(int o)
--   o += 1 call r() method r() f += 1 class C inherits B int g method r() g += 10 f -= 1 method
--   s() call r()`
abbrev own_method-overridden-text : Source
own_method-overridden-text = program (class_text n_P None ((var (kind.Class n_B) n_b)
    ∷ (var kind.Int n_x)
    ∷ []) (procedure n_main [] (block ((New 0 (AnObject n_C) (Whole n_b))
    ∷ (Call 0 false (Some (Whole n_b)) n_q (n_x ∷ []))
    ∷ (Call 0 true (Some (Whole n_b)) n_r []) ∷ [])) ∷ [])
    ∷ class_text n_B None ((var kind.Int n_f) ∷ []) (procedure n_q ((var kind.Int n_o)
    ∷ []) (block ((Update 0 update.Add (Whole n_o) (Number 0 1)) ∷ (Call 0 false None n_r [])
    ∷ [])) ∷ procedure n_r [] (block ((Update 0 update.Add (Whole n_f) (Number 0 1)) ∷ []))
    ∷ []) ∷ class_text n_C (Some n_B) ((var kind.Int n_g)
    ∷ []) (procedure n_r [] (block ((Update 0 update.Add (Whole n_g) (Number 0 10))
    ∷ (Update 0 update.Sub (Whole n_f) (Number 0 1)) ∷ []))
    ∷ procedure n_s [] (block ((Call 0 false None n_r []) ∷ [])) ∷ []) ∷ [])

own_method-overridden : ending own_method-overridden-text 4 4 [] 2000 ≡ Finished (lines
    (codes "b = #1" ∷ codes "x = 1" ∷ codes "#1 C count 1" ∷ codes "  f = 0"
    ∷ codes "  g = 0" ∷ codes "live 1" ∷ [])) 20
unfolding digits
own_method-overridden = refl

-- construct Node t t <=> a destruct t
abbrev construct-swapped_away-text : Source
construct-swapped_away-text = with_nodes ((Construct 0 n_Node n_t (block ((Swap 0 (Whole n_t)
    (Whole n_a)) ∷ [])) n_t) ∷ [])

construct-swapped_away : ending construct-swapped_away-text 4 4 [] 2000 ≡ Faulted 5 10
construct-swapped_away = refl

-- construct Node t t <=> a new Node t destruct t
abbrev construct-twice-text : Source
construct-twice-text = with_nodes ((Construct 0 n_Node n_t (block ((Swap 0 (Whole n_t)
    (Whole n_a)) ∷ (New 0 (AnObject n_Node) (Whole n_t)) ∷ [])) n_t) ∷ [])

construct-twice : ending construct-twice-text 4 4 [] 2000 ≡ Finished (lines (codes "a = #1"
    ∷ codes "b = nil" ∷ codes "c = nil" ∷ codes "e = nil" ∷ codes "g = nil" ∷ codes "x = 0"
    ∷ codes "f = nil" ∷ codes "#1 Node count 1" ∷ codes "  v = 0" ∷ codes "  next = nil"
    ∷ codes "  back = nil" ∷ codes "live 1" ∷ [])) 22
unfolding digits
construct-twice = refl

-- `class P int x method main() local int x = 5 call q(x) delocal int x = 6 method q(int y) y += 1 x
--   += 1`
abbrev local-hides_field-text : Source
local-hides_field-text = program (class_text n_P None ((var kind.Int n_x)
    ∷ []) (procedure n_main [] (block ((Local 0 (var kind.Int n_x) (Number 0 5) (block
    ((Call 0 false None n_q (n_x ∷ [])) ∷ [])) (var kind.Int n_x) (Number 0 6)) ∷ []))
    ∷ procedure n_q ((var kind.Int n_y)
    ∷ []) (block ((Update 0 update.Add (Whole n_y) (Number 0 1))
    ∷ (Update 0 update.Add (Whole n_x) (Number 0 1)) ∷ [])) ∷ []) ∷ [])

local-hides_field : ending local-hides_field-text 4 4 [] 2000 ≡ Finished (lines
    (codes "x = 1" ∷ codes "live 0" ∷ [])) 9
unfolding digits
local-hides_field = refl

-- `class P int x method main() x += 1 call main()`
abbrev main-called-text : Source
main-called-text = program (class_text n_P None ((var kind.Int n_x)
    ∷ []) (procedure n_main [] (block ((Update 0 update.Add (Whole n_x) (Number 0 1))
    ∷ (Call 0 false None n_main []) ∷ [])) ∷ []) ∷ [])

main-called : ending main-called-text 4 3 [] 2000 ≡ Faulted 14 9
main-called = refl

-- `class P inherits Q int x method main() x += y + z call s() class Q int y int z method s() y -=
-- 1`
abbrev inherited_main_fields-text : Source
inherited_main_fields-text = program (class_text n_P (Some n_Q) ((var kind.Int n_x)
    ∷ []) (procedure n_main [] (block ((Update 0 update.Add (Whole n_x) (Binary 0 op.Add
    (Variable n_y) (Variable n_z))) ∷ (Call 0 false None n_s []) ∷ [])) ∷ [])
    ∷ class_text n_Q None ((var kind.Int n_y) ∷ (var kind.Int n_z)
    ∷ []) (procedure n_s [] (block ((Update 0 update.Sub (Whole n_y) (Number 0 1)) ∷ []))
    ∷ []) ∷ [])

inherited_main_fields : ending inherited_main_fields-text 4 4 (word_for 1 5
    ∷ word_for 0 4294967293 ∷ []) 2000 ≡ Finished (lines (codes "y = -4" ∷ codes "z = 5"
    ∷ codes "x = 2" ∷ codes "live 0" ∷ [])) 7
unfolding digits
inherited_main_fields = refl

-- new Node[2] e new Node e[1]
abbrev array_of_objects-text : Source
array_of_objects-text = with_nodes ((New 0 (Objects n_Node (Number 0 2)) (Whole n_e))
    ∷ (New 0 (AnObject n_Node) (Item n_e (Number 0 1))) ∷ [])

array_of_objects : ending array_of_objects-text 4 4 [] 2000 ≡ Finished (lines
    (codes "a = nil" ∷ codes "b = nil" ∷ codes "c = nil" ∷ codes "e = #1" ∷ codes "g = nil"
    ∷ codes "x = 0" ∷ codes "f = nil" ∷ codes "#1 Node[2] count 1" ∷ codes "  [0] = nil"
    ∷ codes "  [1] = #2" ∷ codes "#2 Node count 1" ∷ codes "  v = 0" ∷ codes "  next = nil"
    ∷ codes "  back = nil" ∷ codes "live 2" ∷ [])) 16
unfolding digits
array_of_objects = refl

-- new Node a copy Node a b
abbrev shared-once-text : Source
shared-once-text = with_nodes ((New 0 (AnObject n_Node) (Whole n_a))
    ∷ (Copy 0 (kind.Class n_Node) (Whole n_a) (Whole n_b)) ∷ [])

shared-once : ending shared-once-text 4 4 [] 2000 ≡ Finished (lines (codes "a = #1"
    ∷ codes "b = #1" ∷ codes "c = nil" ∷ codes "e = nil" ∷ codes "g = nil" ∷ codes "x = 0"
    ∷ codes "f = nil" ∷ codes "#1 Node count 2" ∷ codes "  v = 0" ∷ codes "  next = nil"
    ∷ codes "  back = nil" ∷ codes "live 1" ∷ [])) 7
unfolding digits
shared-once = refl

-- `class P L a L b method main() new L a new L b call a::grow() call a::deepen() call b::grow()
--   class L int v L next method grow() new L next method deepen() call next::grow()`
abbrev numbered-in_breadth-text : Source
numbered-in_breadth-text = program (class_text n_P None ((var (kind.Class n_L) n_a)
    ∷ (var (kind.Class n_L) n_b)
    ∷ []) (procedure n_main [] (block ((New 0 (AnObject n_L) (Whole n_a))
    ∷ (New 0 (AnObject n_L) (Whole n_b)) ∷ (Call 0 false (Some (Whole n_a)) n_grow [])
    ∷ (Call 0 false (Some (Whole n_a)) n_deepen [])
    ∷ (Call 0 false (Some (Whole n_b)) n_grow []) ∷ [])) ∷ [])
    ∷ class_text n_L None ((var kind.Int n_v) ∷ (var (kind.Class n_L) n_next)
    ∷ []) (procedure n_grow [] (block ((New 0 (AnObject n_L) (Whole n_next)) ∷ []))
    ∷ procedure n_deepen [] (block ((Call 0 false (Some (Whole n_next)) n_grow []) ∷ []))
    ∷ []) ∷ [])

numbered-in_breadth : ending numbered-in_breadth-text 6 6 [] 2000 ≡ Finished (lines
    (codes "a = #1" ∷ codes "b = #2" ∷ codes "#1 L count 1" ∷ codes "  v = 0"
    ∷ codes "  next = #3" ∷ codes "#2 L count 1" ∷ codes "  v = 0" ∷ codes "  next = #4"
    ∷ codes "#3 L count 1" ∷ codes "  v = 0" ∷ codes "  next = #5" ∷ codes "#4 L count 1"
    ∷ codes "  v = 0" ∷ codes "  next = nil" ∷ codes "#5 L count 1" ∷ codes "  v = 0"
    ∷ codes "  next = nil" ∷ codes "live 5" ∷ [])) 44
unfolding digits
numbered-in_breadth = refl

-- from x = 0 do skip loop x += 1 until x = 3
abbrev turns_of_a_loop-text : Source
turns_of_a_loop-text = with_nodes ((From 0 (Binary 0 op.Equal (Variable n_x) (Number 0 0))
    (block ((Skip 0) ∷ [])) (block ((Update 0 update.Add (Whole n_x) (Number 0 1))
    ∷ [])) (Binary 0 op.Equal (Variable n_x) (Number 0 3))) ∷ [])

turns_of_a_loop : ending turns_of_a_loop-text 4 4 [] 2000 ≡ Finished (lines (codes "a = nil"
    ∷ codes "b = nil" ∷ codes "c = nil" ∷ codes "e = nil" ∷ codes "g = nil" ∷ codes "x = 3"
    ∷ codes "f = nil" ∷ codes "live 0" ∷ [])) 35
unfolding digits
turns_of_a_loop = refl

-- from x = 0 do x += 1 loop x -= 1 until x = 3
abbrev loop-entered_again-text : Source
loop-entered_again-text = with_nodes ((From 0 (Binary 0 op.Equal (Variable n_x) (Number 0 0))
    (block ((Update 0 update.Add (Whole n_x) (Number 0 1))
    ∷ [])) (block ((Update 0 update.Sub (Whole n_x) (Number 0 1))
    ∷ [])) (Binary 0 op.Equal (Variable n_x) (Number 0 3))) ∷ [])

loop-entered_again : ending loop-entered_again-text 4 4 [] 2000 ≡ Faulted 2 14
loop-entered_again = refl

-- a run that stops with a fault only past its fuel has no result
array-not_empty-unfinished : ending array-not_empty-text 4 4 [] 20 ≡ Unfinished
array-not_empty-unfinished = refl
