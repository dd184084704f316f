-- The words of class tables, one by one.
use Rattle.std.proofs.Common.{◌≡◌, ◌∙◌, sym, ap, subst, refl, ℕ, zero, suc, ◌+◌, ◌<◌, List, [], ◌∷◌, ◌++◌, length, map}
use Rattle.std.proofs.Common.{take, replicate, arith, append_assoc, slice_get, get_or, Some, add-one}
use Rattle.std.specs.Prelude.{slice_index}
use Rattle.std.proofs.lemmas.List.{append-nil, length-map, map-append}
use Rattle.std.proofs.lemmas.Option.{unwrap_or-slice_get}
use Rattle.refine_program.specs.rpp_tree.declared.tree.Class.{Class}
use Rattle.refine_program.specs.rpp_tree.declared.tree.Program.{Program}
use Rattle.refine_program.specs.rpp_tree.Tree.{ClassText, Source}
use Rattle.refine_program.specs.rpp_tree.Views.{procedure_of, class_text_of, source_of}
use Rattle.refine_program.specs.class_rules.declared.method.MethodId.{MethodId}
use Rattle.refine_program.specs.class_rules.First.{each_below}
use Rattle.refine_program.specs.class_rules.Classes.{class_slots}
use Rattle.refine_program.specs.class_rules.Members.{Slots, class_at}
use Rattle.refine_program.specs.class_rules.Overrides.{run_at}
use Rattle.refine_program.specs.class_rules.Table.{table_of, slots_in}
use Rattle.refine_program.proofs.class_rules_laws.InheritedSlots.{class_there}
use Rattle.refine_program.proofs.class_rules_laws.Numbers.{length-each_below, each_below-get, class-known}
use Rattle.refine_program.proofs.class_rules_laws.Tables.{table_reads}
use Rattle.refine_program.specs.roopl_semantics.Layout.{tables}
use Rattle.refine_program.specs.paired_code.declared.part.StaticWord.{StaticWord}
use Rattle.refine_program.specs.paired_code.declared.part.StaticWord.TheVariants.{Word, Routine as RoutinePlace}
use Rattle.refine_program.specs.paired_code.Link.{static_word}
use Rattle.refine_program.specs.Methods.{methods_before, routine_of}

-- one table more
tables-push : (n : ℕ) (before : List (List ℕ)) (last : List ℕ)
    → tables n (before ++ last ∷ []) ≡ tables n before ++ (n + length before) ∷ last
tables-push n [] last = let e : n + 0 ≡ n = omega arith in ap (λ (xs : List ℕ). n ∷ xs) (append-nil last)
    ∙ ap (λ k. k ∷ last) (sym e)
tables-push n (first ∷ before) last =
    let e : n + 1 + length before ≡ n + suc (length before) = omega arith in
    ap (λ (xs : List ℕ). n ∷ (first ++ xs)) (tables-push (n + 1) before last
    ∙ ap (λ k. tables (n + 1) before ++ k ∷ last) e)
    ∙ ap (λ (xs : List ℕ). n ∷ xs) (sym (append_assoc first (tables (n + 1) before) ((n + suc (length before)) ∷ last)))

pub tables-next : (f : ℕ → List ℕ) (n : ℕ) → tables 1 (each_below f (suc n))
    ≡ tables 1 (each_below f n) ++ (n + 1) ∷ f n
tables-next f n =
    let e : 1 + length (each_below f n) ≡ n + 1 = omega (arith, length-each_below f n) in
    tables-push 1 (each_below f n) (f n) ∙ ap (λ k. tables 1 (each_below f n) ++ k ∷ f n) e

pub zeros-read : (places : List ℕ) (n : ℕ) → map (static_word places) (replicate n (Word 0)) ≡ replicate n 0
zeros-read places zero = refl
zeros-read places (suc n) = ap (λ ws. 0 ∷ ws) (zeros-read places n)

pub words-read : (places words : List ℕ) → map (static_word places) (map Word words) ≡ words
words-read places [] = refl
words-read places (word ∷ words) = ap (λ ws. word ∷ ws) (words-read places words)

pub slots_read : (program : Source) (class : ℕ) → class < length program.classes
    → slots_in (table_of program) class ≡ class_slots program class
slots_read program class inside = (table_reads program class inside).slots

-- the word of one slot more
slot_more : (f : MethodId → ℕ) (slots : Slots) (k : ℕ) → k < length slots
    → map (λ x. f x.1) (take (suc k) slots) ≡ map (λ x. f x.1) (take k slots) ++ f (run_at slots k) ∷ []
slot_more f [] k h = absurd (omega arith)
slot_more f (x ∷ slots) zero h = refl
slot_more f (x ∷ slots) (suc k) h = ap (λ ws. f x.1 ∷ ws) (slot_more f slots k (omega arith))

pub slots_next : (f : MethodId → ℕ) (slots : Slots) (k : ℕ) → k < length slots
    → map (λ x. f x.1) (take (k + 1) slots) ≡ map (λ x. f x.1) (take k slots) ++ f (run_at slots k) ∷ []
slots_next f slots k h = ap (λ n. map (λ (x : List ℕ × MethodId). f x.1) (take n slots)) (add-one k)
    ∙ slot_more f slots k h

-- the number of the first routine of a class, and the next one
pub first_read : (program : Source) (firsts : List ℕ) (class : ℕ)
    → firsts ≡ each_below (methods_before program.classes) (length program.classes) → class < length program.classes
    → slice_index firsts class ≡ methods_before program.classes class
first_read program firsts class is inside =
    ap (λ xs. slice_index xs class) is
    ∙ sym (unwrap_or-slice_get (each_below (methods_before program.classes) (length program.classes)) class 0)
    ∙ each_below-get (methods_before program.classes) (length program.classes) class 0 inside

next_first : (classes : List ClassText) (k : ℕ) (class : ClassText) → slice_get classes k ≡ Some class
    → methods_before classes (suc k) ≡ methods_before classes k + length class.methods
next_first [] k class h = absurd (cc)
next_first (c ∷ classes) zero class h =
    let e : c ≡ class = cc in
    let z : methods_before classes 0 ≡ 0 = none classes in
    omega (arith, z, ap (λ (x : ClassText). length x.methods) e)
  where
    none : (cs : List ClassText) → methods_before cs 0 ≡ 0
    none [] = refl
    none (x ∷ cs) = refl
next_first (c ∷ classes) (suc k) class h = omega (arith, next_first classes k class h)

pub firsts_next : (classes : List ClassText) (k : ℕ) (class : ClassText) → slice_get classes k ≡ Some class
    → methods_before classes (k + 1) ≡ methods_before classes k + length class.methods
firsts_next classes k class h = ap (methods_before classes) (add-one k) ∙ next_first classes k class h

-- before the first class there are none
pub none_before : (classes : List ClassText) → 0 ≡ methods_before classes 0
none_before [] = refl
none_before (class ∷ classes) = refl

pub first_counted : (program : Program) (k : ℕ) (items : List Class) (x : Class) → items ≡ program.classes.items
    → k < length items → x ≡ get_or items k x
    → methods_before (source_of program).classes (k + 1) ≡ methods_before (source_of program).classes k + length
    x.methods.items
first_counted program k items x same h is =
    let inside : k < length program.classes.items = subst (λ (xs : List Class). k < length xs) same h in
    let here : x ≡ get_or program.classes.items k x = is ∙ ap (λ xs. get_or xs k x) same in
    let there = class_there (source_of program).classes k
    (omega (arith, length-map program.classes.items class_text_of)) in
    firsts_next (source_of program).classes k (class_at (source_of program) k) there
    ∙ ap (λ (c : ClassText). methods_before (source_of program).classes k + length c.methods)
    (class-known program k x inside ∙ ap class_text_of (sym here))
    ∙ ap (λ n. methods_before (source_of program).classes k + n) (length-map x.methods.items procedure_of)

-- ---- what is pushed

module _ (places : List ℕ) (program : Source) where
  abbrev pub read : List StaticWord → List ℕ
  read words = map (static_word places) words

  -- the main object with these words before its fields, and then the tables
  pub statics_read : (front : List ℕ) (count : ℕ) (w0 w1 w2 w3 : List StaticWord) (ts : List ℕ) → w0 ≡ []
      → w1 ≡ w0 ++ map Word front → w2 ≡ w1 ++ replicate count (Word 0) → read w3 ≡ read w2 ++ ts
      → read w3 ≡ front ++ replicate count 0 ++ ts
  statics_read front count w0 w1 w2 w3 ts e0 e1 e2 e3 =
      let all : w2 ≡ map Word front ++ replicate count (Word 0) =
      e2 ∙ ap (λ w. w ++ replicate count (Word 0)) (e1 ∙ ap (λ w. w ++ map Word front) e0)
      in
      let known : read w2 ≡ front ++ replicate count 0 =
      ap read all ∙ map-append (static_word places) (map Word front) (replicate count (Word 0))
      ∙ ap (λ xs. xs ++ read (replicate count (Word 0))) (words-read places front)
      ∙ ap (λ zs. front ++ zs) (zeros-read places count)
      in
      e3 ∙ ap (λ w. w ++ ts) known

  -- the routine of a slot
  pub slot_pushed : (class slot : ℕ) (before words after : List StaticWord) (number : ℕ)
      → slot < length (class_slots program class)
      → number ≡ 1 + routine_of program (run_at (class_slots program class) slot)
      → after ≡ words ++ RoutinePlace number ∷ []
      → read words ≡ read before ++ map (λ x. slice_index places (1 + routine_of program x.1))
      (take slot (class_slots program class))
      → read after ≡ read before ++ map (λ x. slice_index places (1 + routine_of program x.1))
      (take (slot + 1) (class_slots program class))
  slot_pushed class slot before words after number low is pushed so_far =
      let f : MethodId → ℕ = λ id. slice_index places (1 + routine_of program id) in
      let slots = class_slots program class in
      let e : number ≡ 1 + routine_of program (run_at slots slot) = is in
      ap read pushed
      ∙ map-append (static_word places) words (RoutinePlace number ∷ [])
      ∙ ap (λ ws. ws ++ slice_index places number ∷ []) so_far
      ∙ ap (λ n. (read before ++ map (λ x. f x.1) (take slot slots)) ++ slice_index places n ∷ []) e
      ∙ append_assoc (read before) (map (λ x. f x.1) (take slot slots)) (f (run_at slots slot) ∷ [])
      ∙ ap (λ ws. read before ++ ws) (sym (slots_next f slots slot low))

  -- the table of a class
  pub table_pushed : (f : ℕ → List ℕ) (class : ℕ) (before words pushed after : List StaticWord)
      → pushed ≡ words ++ Word (class + 1) ∷ []
      → read words ≡ read before ++ tables 1 (each_below f class) → read after ≡ read pushed ++ f class
      → read after ≡ read before ++ tables 1 (each_below f (class + 1))
  table_pushed f class before words pushed after is so_far last =
      last
      ∙ ap (λ ws. read ws ++ f class) is
      ∙ ap (λ ws. ws ++ f class) (map-append (static_word places) words (Word (class + 1) ∷ []))
      ∙ ap (λ ws. (ws ++ (class + 1) ∷ []) ++ f class) so_far
      ∙ grouped (read before) (tables 1 (each_below f class)) (f class) (class + 1)
      ∙ ap (λ ws. read before ++ ws) (sym (tables-next f class)
      ∙ ap (λ n. tables 1 (each_below f n)) (sym (add-one class)))
    where
      grouped : (xs ys zs : List ℕ) (k : ℕ) → ((xs ++ ys) ++ k ∷ []) ++ zs ≡ xs ++ (ys ++ k ∷ zs)
      grouped xs ys zs k = simp append_assoc
