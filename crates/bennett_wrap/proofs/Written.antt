-- What the calls write.
use Rattle.std.proofs.Common.{◌≡◌, ◌∙◌, sym, ap, subst, refl, ℕ, suc, ◌+◌, ◌-◌, ◌*◌, ◌<◌, ◌≤◌, Bool, true, false, cond}
use Rattle.std.proofs.Common.{arith, List, [], ◌∷◌, ◌++◌, length, length-append, append_assoc, map, take, drop, get_or}
use Rattle.std.proofs.Common.{Option, Some, None, Fits, w32}
use Rattle.std.proofs.Math.Facts.{Fits-lt-pow}
use Rattle.std.specs.Prelude.{position, count_by, nat_lt}
use Rattle.std.specs.List.{All, position_or_len}
use Rattle.std.proofs.lemmas.Bool.Decides.{nat_tests}
use Rattle.std.proofs.lemmas.List.Elements.{All-cons, All-nil, All-append}
use Rattle.std.proofs.lemmas.List.Sums.{sum_by-cons, fails_before_first}
use Rattle.std.proofs.lemmas.List.{length-map}
use Rattle.std.proofs.lemmas.Grind.{get_or_default_zero}
use Rattle.std.proofs.Math.Seq.{take-append_seam}
use Rattle.paired_code.specs.rpp_words.Words.{IsWord}
use Rattle.image_inverter.specs.pisa_isa.declared.cell.Cell.{Cell}
use Rattle.image_inverter.specs.pisa_isa.declared.image.SealError.{SealError}
use Rattle.image_inverter.specs.pisa_isa.declared.image.TheConstants.{MOST_CELLS}
use Rattle.bennett_wrap.specs.declared.wrapping.TheConstants.{MOST_WRAPPED, MOST_COPIED}
use Rattle.image_inverter.specs.pisa_isa.Table.{IsInRange}
use Rattle.image_inverter.specs.pisa_isa.Image.{Segments, IsImage, first_seal_refusal}
use Rattle.image_inverter.specs.pisa_isa.Flipped.{flipped}
use Rattle.image_inverter.proofs.pisa_isa_laws.Sealed.{accepted_by_seal}
use Rattle.image_inverter.proofs.pisa_isa_laws.Flips.{length-flipped}
use Rattle.paired_code.specs.code_conventions.Cells.{bra}
use Rattle.paired_code.specs.Cells.{start_cell, finish}
use Rattle.paired_code.specs.Machine.{is_single}
use Rattle.paired_code.specs.Layout.{between}
use Rattle.paired_code.specs.Link.{linked, link_code, link_size}
use Rattle.paired_code.specs.declared.part.Symbol.{Symbol}
use Rattle.bennett_wrap.specs.Copying.{find_cells, copy_one, copies, ending_cells, copied_cells, own_symbol, IsPlainCell}
use Rattle.bennett_wrap.specs.Wrapped.{inner, left_by, entered_by, copied_at, entered_at, finish_of, code_joined}
use Rattle.bennett_wrap.specs.Wrapped.{wrapped_code, Wrapped}
use Rattle.bennett_wrap.proofs.Places.{length-copy, length-joined}
use Rattle.bennett_wrap.proofs.Counts.{cells_copy, IsImage-joined}
use Rattle.bennett_wrap.proofs.Halves.{wraps}

-- if one cell passes, a first one is found

sum_zero : (n k m : ℕ) → n ≡ k + m → k ≡ 0 → m ≡ 0 → n ≡ 0
sum_zero n k m e z y = omega arith

abbrev one_if : Bool → ℕ
one_if b = cond b 1 0

none_of : (b : Bool) → b ≡ false → one_if b ≡ 0
none_of b e = ap one_if e

count_zero : (p : Cell → Bool) (xs : List Cell) → ((k : ℕ) (d : Cell) → k < length xs → p (get_or xs k d) ≡ false)
    → count_by p xs ≡ 0
count_zero p [] h = refl
count_zero p (x ∷ xs) h =
    sum_zero _ _ _ (sum_by-cons (λ x. cond (p x) 1 0) x xs) (none_of _ (h 0 x (omega arith)))
    (count_zero p xs (λ k d l. h (suc k) d (omega arith)))

not_none : (k n : ℕ) → k < n → cond (nat_lt k n) (Some k) None ≡ None → ⊥
not_none k n h e = grind (arith, nat_tests)

found : (p : Cell → Bool) (xs : List Cell) → count_by p xs ≡ 1 → position_or_len p xs < length xs
found p xs one =
    let never : length xs ≤ position_or_len p xs → ⊥ = λ l. let z =
    count_zero p xs (λ k d h. fails_before_first p xs k d (omega arith)) in omega arith in
    omega (arith, never)

pub finds : (p : Cell → Bool) (xs : List Cell) → count_by p xs ≡ 1 → position p xs ≡ None → ⊥
finds p xs one e = not_none (position_or_len p xs) (length xs) (found p xs one) e

-- the copy code

pub copies_more : (xs : List ℕ) (c : ℕ) → copies (xs ++ c ∷ []) ≡ copies xs ++ copy_one c
copies_more [] c = refl
copies_more (x ∷ xs) c = ap (λ l. copy_one x ++ l) (copies_more xs c)

pub put_more : (front : List Cell) (xs : List ℕ) (c : ℕ)
    → (front ++ copies xs) ++ copy_one c ≡ front ++ copies (xs ++ c ∷ [])
put_more front xs c = append_assoc front (copies xs) (copy_one c) ∙ ap (λ l. front ++ l) (sym (copies_more xs c))

abbrev AllSingle : List Cell → Type 0
AllSingle [] = Unit {0}
AllSingle (c ∷ cs) = (is_single c ≡ true) × AllSingle cs

all_single : (xs : List Cell) → AllSingle xs → All (λ c. is_single c ≡ true) xs
all_single [] h = All-nil (λ c. is_single c ≡ true)
all_single (x ∷ xs) h = All-cons (λ c. is_single c ≡ true) x xs h.0 (all_single xs h.1)

single_copies : (cs : List ℕ) → All (λ c. is_single c ≡ true) (copies cs)
single_copies [] = All-nil (λ c. is_single c ≡ true)
single_copies (c ∷ cs) = All-append (λ c. is_single c ≡ true) (copy_one c) (copies cs)
    (all_single (copy_one c) (refl, (refl, (refl, (refl, (refl, (refl, (refl, (refl, tt))))))))) (single_copies cs)

single_copy : (cs : List ℕ) → All (λ c. is_single c ≡ true) (copied_cells cs)
single_copy cs =
    All-append (λ c. is_single c ≡ true) (find_cells ++ copies cs) (ending_cells (length cs))
    (All-append (λ c. is_single c ≡ true) find_cells (copies cs)
    (all_single find_cells (refl, (refl, (refl, (refl, (refl, tt)))))) (single_copies cs))
    (all_single (ending_cells (length cs)) (refl, (refl, (refl, (refl, (refl, (refl, tt)))))))

pub plain_copy : (cs : List ℕ) → All IsWord cs → All IsPlainCell (copied_cells cs)
plain_copy cs h = λ k d l. record { single = single_copy cs k d l; cell = cells_copy cs h k d l }

linked_own : (rs : List ℕ) (a : ℕ) (row : List Cell) → linked rs a (map own_symbol row) ≡ row
linked_own rs a [] = refl
linked_own rs a (c ∷ row) = ap (λ l. c ∷ l) (linked_own rs (a + 1) row)

pub linked_row : (row : List Cell) (main : List Symbol) (code : List Cell) → code ≡ link_code main []
    → main ≡ map own_symbol row → code ≡ start_cell ∷ (row ++ finish ∷ [])
linked_row row main code e m = e ∙ ap (λ p. link_code p []) m
    ∙ ap (λ l. start_cell ∷ (l ++ finish ∷ [])) (linked_own [] 1 row)

pub small_row : (cs : List ℕ) (row : List Cell) (main : List Symbol) → length cs ≤ MOST_COPIED → row ≡ copied_cells cs
    → main ≡ map own_symbol row → link_size main [] ≤ MOST_CELLS
small_row cs row main few e m = let a : length main ≡ 11 + 8 * length cs = ap length m ∙ length-map row own_symbol
    ∙ ap length e ∙ length-copy cs in omega arith

-- the cells between START and FINISH

take_all : (xs ys : List Cell) (n : ℕ) → length xs ≡ n → take n (xs ++ ys) ≡ xs
take_all xs ys n e = ap (λ k. take k (xs ++ ys)) (sym e) ∙ take-append_seam xs ys

pub inner_is : (row : List Cell) → inner (start_cell ∷ (row ++ finish ∷ [])) ≡ row
inner_is row =
    let n : length (start_cell ∷ (row ++ finish ∷ [])) - 1 ≡ suc (length row) =
    omega (arith, length-append row (finish ∷ [])) in
    ap (λ k. drop 1 (take k (start_cell ∷ (row ++ finish ∷ [])))) n ∙ take_all row (finish ∷ []) (length row) refl

-- the wrapped code

pub accepted : (image : Segments) (cs : List ℕ) (all : List Cell) → IsImage image → All IsWord cs
    → length image.code ≤ MOST_WRAPPED → length cs ≤ MOST_COPIED → all ≡ wrapped_code image.code cs
    → first_seal_refusal all ≡ None
accepted image cs all i words small few e = ap first_seal_refusal e
    ∙ accepted_by_seal (record image { code = wrapped_code image.code cs })
    (IsImage-joined image (finish_of image.code) cs i words (omega arith))

pub in_range : (image : Segments) (cs : List ℕ) (all : List Cell) → IsImage image → All IsWord cs
    → length image.code ≤ MOST_WRAPPED → length cs ≤ MOST_COPIED → all ≡ wrapped_code image.code cs → All IsInRange all
in_range image cs all i words small few e =
    subst (All IsInRange) (sym e) (λ k d l. ((IsImage-joined image (finish_of image.code) cs i words
    (omega arith)).is_code.cells k d l).in_range)

pub size_is : (code : List Cell) (cs : List ℕ) (all : List Cell) → all ≡ wrapped_code code cs
    → length all ≡ 2 * length code + 13 + 8 * length cs
size_is code cs all e = ap length e ∙ length-joined code (length code) (finish_of code) cs refl (length-flipped code)

pub small_all : (code : List Cell) (cs : List ℕ) (all : List Cell) → length code ≤ MOST_WRAPPED
    → length cs ≤ MOST_COPIED
    → all ≡ wrapped_code code cs → length all ≤ MOST_CELLS
small_all code cs all small few e = let s = size_is code cs all e in omega arith

pub wraps_all : (image : Segments) (cs : List ℕ) (all : List Cell) → IsImage image → length image.code ≤ MOST_WRAPPED
    → length cs ≤ MOST_COPIED → all ≡ wrapped_code image.code cs → Wrapped image.code cs all
wraps_all image cs all i small few e = subst (λ (x : List Cell). Wrapped image.code cs x) (sym e)
    (wraps image i cs (omega arith))

pub not_refused : (o : Option SealError) {e : SealError} → o ≡ None → o ≡ Some e → ⊥
not_refused o n s = cc

pub words_of : (cs : List ℕ) → ((i : ℕ) → Fits w32 (get_or cs i 0)) → All IsWord cs
words_of cs h = λ k d l. subst IsWord (sym (get_or_default_zero cs k d l)) (Fits-lt-pow (h k))

pub joined_built : (code code1 code2 copy : List Cell) (n f : ℕ) (cs : List ℕ) (a0 a1 a2 a3 a4 a5 : List Cell)
    (j1 j2 j3 j4 : Cell)
    → code1 ≡ code → code2 ≡ flipped code → n ≡ length code → f ≡ finish_of code
    → copy ≡ start_cell ∷ (copied_cells cs ++ finish ∷ [])
    → a0 ≡ [] → j1 ≡ bra (between f n) → a1 ≡ a0 ++ map (left_by j1) code1
    → j2 ≡ bra (between n f) → a2 ≡ a1 ++ j2 ∷ []
    → a3 ≡ a2 ++ inner copy
    → j3 ≡ bra (between (copied_at n cs) (entered_at n f cs)) → a4 ≡ a3 ++ j3 ∷ []
    → j4 ≡ bra (between (entered_at n f cs) (copied_at n cs)) → a5 ≡ a4 ++ map (entered_by j4) code2
    → a5 ≡ wrapped_code code cs
joined_built code code1 code2 copy n f cs a0 a1 a2 a3 a4 a5 j1 j2 j3 j4 c1 c2 nn ff cp e0 k1 e1 k2 e2 e3 k3 e4 k4 e5 =
    let i : inner copy ≡ copied_cells cs = ap inner cp ∙ inner_is (copied_cells cs) in
    let b1 : a1 ≡ map (left_by (bra (between f n))) code = e1 ∙ ap (λ x. x ++ map (left_by j1) code1) e0
    ∙ ap (λ j. map (left_by j) code1) k1 ∙ ap (map (left_by (bra (between f n)))) c1 in
    let b2 : a2 ≡ map (left_by (bra (between f n))) code ++ bra (between n f) ∷ [] = e2 ∙ ap (λ x. x ++ j2 ∷ []) b1
    ∙ ap (λ j. map (left_by (bra (between f n))) code ++ j ∷ []) k2 in
    let b3 : a3 ≡ map (left_by (bra (between f n))) code ++ bra (between n f) ∷ [] ++ copied_cells cs = e3
    ∙ ap (λ x. x ++ inner copy) b2 ∙ ap (λ x. map (left_by (bra (between f n))) code ++ bra (between n f) ∷ [] ++ x)
    i in
    let b4 : a4 ≡ map (left_by (bra (between f n))) code ++ bra (between n f)
    ∷ [] ++ copied_cells cs ++ bra (between (copied_at n cs) (entered_at n f cs)) ∷ [] =
    e4 ∙ ap (λ x. x ++ j3 ∷ []) b3 ∙ ap (λ j. map (left_by (bra (between f n))) code ++ bra (between n f)
    ∷ [] ++ copied_cells cs ++ j ∷ []) k3 in
    let b5 : a5 ≡ code_joined code n f cs =
    e5 ∙ ap (λ x. x ++ map (entered_by j4) code2) b4 ∙ ap
    (λ m. map (left_by (bra (between f n))) code ++ bra (between n f)
    ∷ [] ++ copied_cells cs ++ bra (between (copied_at n cs) (entered_at n f cs)) ∷ [] ++ m)
    (ap (λ j. map (entered_by j) code2) k4 ∙ ap (map (entered_by
    (bra (between (entered_at n f cs) (copied_at n cs))))) c2) in
    b5 ∙ ap (λ x. code_joined code x f cs) nn ∙ ap (λ x. code_joined code (length code) x cs) ff
