-- What is read from a line is what its form says, and a line of the form is read so.
use Rattle.std.proofs.Common.{◌≡◌, ◌∙◌, refl, sym, ap, subst, ℕ, suc, ◌+◌, Bool, true, false, not, ◌||◌, cond}
use Rattle.std.proofs.Common.{List, [], ◌∷◌, ◌++◌, length, Option, Some, None, arith, inl, inr}
use Rattle.std.specs.Prelude.{nat_eq, ◌⊎◌}
use Rattle.std.specs.List.{prefix_len, take_while, list_all}
use Rattle.std.specs.Option.{option_and_then}
use Rattle.std.specs.Char.{is_ascii_alphabetic, is_ascii_digit}
use Rattle.pisa_machine.specs.rpp_words.Names.{is_name_byte}
use Rattle.std.proofs.lemmas.Bool.{eqb-true, false_from_ne_true, true_from_ne_false, and_parts}
use Rattle.std.proofs.lemmas.Bool.Decides.{nat_tests}
use Rattle.std.proofs.lemmas.Option.{cond_some}
use Rattle.std.proofs.lemmas.List.{take_at, drop_at, take-append-drop}
use Rattle.std.proofs.lemmas.List.Sums.{take_while-cons}
use Rattle.pisa_loader.specs.InputLines.{is_blank, behind, after, word_up_to, digits_word, number_word, entry_in, Entry}
use Rattle.pisa_loader.specs.InputLines.{entry}
use Rattle.pisa_machine.specs.rpp_words.Texts.{decimal_from}
use Rattle.pisa_loader.specs.InputGrammar.{are_blanks, is_input_name, is_numeral, sign, Parts, input_line, AreParts, Sets}

either : (b c : Bool) → (b || c) ≡ true → (b ≡ true) ⊎ (c ≡ true)
either true c e = inl refl
either false c e = inr e

-- a front of bytes that pass, before one that does not

abbrev Stops : (ℕ → Bool) → List ℕ → Type 0
Stops p [] = Unit {0}
Stops p (y ∷ ys) = p y ≡ false

front_is : (p : ℕ → Bool) (xs ys : List ℕ) → list_all p xs ≡ true → Stops p ys → prefix_len p (xs ++ ys) ≡ length xs
front_is p [] [] all s = refl
front_is p [] (y ∷ ys) all s = rw s refl
front_is p (x ∷ xs) ys all s =
    let g = and_parts (p x) (list_all p xs) all in
    let rest : prefix_len p (xs ++ ys) ≡ length xs = front_is p xs ys g.1 s in
    let one : cond (p x) (1 + prefix_len p (xs ++ ys)) 0 ≡ 1 + prefix_len p (xs ++ ys) =
    ap (λ b. cond b (1 + prefix_len p (xs ++ ys)) 0) g.0 in
    omega arith

behind_is : (p : ℕ → Bool) (xs ys : List ℕ) → list_all p xs ≡ true → Stops p ys → behind p (xs ++ ys) ≡ ys
behind_is p xs ys all s = drop_at xs ys (prefix_len p (xs ++ ys)) (sym (front_is p xs ys all s))

front_text : (p : ℕ → Bool) (xs ys : List ℕ) → list_all p xs ≡ true → Stops p ys → take_while p (xs ++ ys) ≡ xs
front_text p xs ys all s = take_at xs ys (prefix_len p (xs ++ ys)) (sym (front_is p xs ys all s))

cut_here : (p : ℕ → Bool) (xs : List ℕ) → xs ≡ take_while p xs ++ behind p xs
cut_here p xs = sym (take-append-drop (prefix_len p xs) xs)

front_passes : (p : ℕ → Bool) (xs : List ℕ) → list_all p (take_while p xs) ≡ true
front_passes p [] = refl
front_passes p (x ∷ xs) = ap (list_all p) (take_while-cons p x xs) ∙ by_test (p x) refl (front_passes p xs)
  where
    by_test : (b : Bool) → p x ≡ b → list_all p (take_while p xs) ≡ true
        → list_all p (cond b (x ∷ take_while p xs) []) ≡ true
    by_test true e rest = rw (e, rest) refl
    by_test false e rest = refl

-- the kinds of bytes apart

blank_is : (b : ℕ) → is_blank b ≡ true → (b ≡ 32) ⊎ (b ≡ 9)
blank_is b e = elim (either (nat_eq b 32) (nat_eq b 9) e)
    [ inl s ↦ inl (eqb-true b 32 s) | inr t ↦ inr (eqb-true b 9 t) ]

not_blank : (p : ℕ → Bool) (b : ℕ) → p 32 ≡ false → p 9 ≡ false → p b ≡ true → is_blank b ≡ false
not_blank p b s t e = false_from_ne_true (is_blank b)
    (λ h. elim (blank_is b h) [ inl x ↦ clash (sym e ∙ ap p x ∙ s) | inr y ↦ clash (sym e ∙ ap p y ∙ t) ])
  where
    clash : true ≡ false → ⊥
    clash h = cc

blank_not : (p : ℕ → Bool) (b : ℕ) → p 32 ≡ false → p 9 ≡ false → is_blank b ≡ true → p b ≡ false
blank_not p b s t h = elim (blank_is b h) [ inl x ↦ ap p x ∙ s | inr y ↦ ap p y ∙ t ]

-- blanks, or blanks and a byte, stop other kinds
blanks_stop : (p : ℕ → Bool) (xs ys : List ℕ) → p 32 ≡ false → p 9 ≡ false → are_blanks xs ≡ true → Stops p ys
    → Stops p (xs ++ ys)
blanks_stop p [] ys s t all h = h
blanks_stop p (x ∷ xs) ys s t all h = blank_not p x s t (and_parts (is_blank x) (list_all is_blank xs) all).0

-- a line of the form

letter_in_name : (b : ℕ) → is_ascii_alphabetic b ≡ true → is_name_byte b ≡ true
letter_in_name b e = rw e refl

name_passes : (name : List ℕ) → is_input_name name ≡ true → list_all is_name_byte name ≡ true
name_passes [] e = refl
name_passes (b ∷ rest) e = let g = and_parts (is_ascii_alphabetic b) (list_all is_name_byte rest) e in
    rw (letter_in_name b g.0, g.1) refl

name_stops_blanks : (name rest : List ℕ) → is_input_name name ≡ true → Stops is_blank (name ++ rest)
name_stops_blanks [] rest e = absurd cc
name_stops_blanks (b ∷ name) rest e = not_blank is_ascii_alphabetic b refl refl
    (and_parts (is_ascii_alphabetic b) (list_all is_name_byte name) e).0

begins_with_letter : (name rest : List ℕ) → is_input_name name ≡ true
    → nat_eq (prefix_len is_ascii_alphabetic (name ++ rest)) 0 ≡ false
begins_with_letter [] rest e = absurd cc
begins_with_letter (b ∷ name) rest e =
    let g = and_parts (is_ascii_alphabetic b) (list_all is_name_byte name) e in
    rw g.0 (not_zero (prefix_len is_ascii_alphabetic (name ++ rest)))
  where
    not_zero : (n : ℕ) → nat_eq (1 + n) 0 ≡ false
    not_zero n = grind (arith, nat_tests)

numeral_passes : (digits : List ℕ) → is_numeral digits ≡ true → list_all is_ascii_digit digits ≡ true
numeral_passes [] e = refl
numeral_passes (b ∷ rest) e = e

digits_read : (minus : Bool) (digits rest : List ℕ) → is_numeral digits ≡ true → are_blanks rest ≡ true
    → digits_word minus (digits ++ rest) ≡ word_up_to minus (decimal_from 0 digits)
unfolding digits_word
digits_read minus [] rest e all = absurd cc
digits_read minus (d ∷ ds) rest e all =
    let digits : List ℕ = d ∷ ds in
    let stop : Stops is_ascii_digit rest = stops_at rest all in
    let passes = numeral_passes digits e in
    let len : prefix_len is_ascii_digit (digits ++ rest) ≡ length digits =
    front_is is_ascii_digit digits rest passes stop in
    let some : nat_eq (prefix_len is_ascii_digit (digits ++ rest)) 0 ≡ false =
    more (prefix_len is_ascii_digit (digits ++ rest)) (length ds) len in
    let ends : list_all is_blank (behind is_ascii_digit (digits ++ rest)) ≡ true =
    ap (list_all is_blank) (behind_is is_ascii_digit digits rest passes stop) ∙ all in
    let text : take_while is_ascii_digit (digits ++ rest) ≡ digits =
    front_text is_ascii_digit digits rest passes stop in
    ap (λ b. cond (b || not (list_all is_blank (behind is_ascii_digit (digits ++ rest)))) None
    (word_up_to minus (decimal_from 0 (take_while is_ascii_digit (digits ++ rest))))) some
    ∙ ap (λ b. cond (not b) None (word_up_to minus (decimal_from 0 (take_while is_ascii_digit (digits ++ rest))))) ends
    ∙ ap (λ xs. word_up_to minus (decimal_from 0 xs)) text
  where
    stops_at : (rest : List ℕ) → are_blanks rest ≡ true → Stops is_ascii_digit rest
    stops_at [] all = tt
    stops_at (b ∷ bs) all = blank_not is_ascii_digit b refl refl (and_parts (is_blank b) (list_all is_blank bs) all).0

    more : (n k : ℕ) → n ≡ suc k → nat_eq n 0 ≡ false
    more n k e = grind (arith, nat_tests)

number_read : (minus : Bool) (digits rest : List ℕ) → is_numeral digits ≡ true → are_blanks rest ≡ true
    → number_word (sign minus ++ (digits ++ rest)) ≡ word_up_to minus (decimal_from 0 digits)
number_read true digits rest e all = digits_read true digits rest e all
number_read false [] rest e all = absurd cc
number_read false (d ∷ ds) rest e all =
    let no_minus : nat_eq d 45 ≡ false = false_from_ne_true (nat_eq d 45)
    (λ h. clash (sym (and_parts (is_ascii_digit d) (list_all is_ascii_digit ds) e).0
    ∙ ap is_ascii_digit (eqb-true d 45 h)))
    in
    ap (λ b. cond b (digits_word true (ds ++ rest)) (digits_word false (d ∷ (ds ++ rest)))) no_minus
    ∙ digits_read false (d ∷ ds) rest e all
  where
    clash : true ≡ is_ascii_digit 45 → ⊥
    clash h = cc

sign_stops_blanks : (minus : Bool) (digits rest : List ℕ) → is_numeral digits ≡ true
    → Stops is_blank (sign minus ++ (digits ++ rest))
sign_stops_blanks true digits rest e = refl
sign_stops_blanks false [] rest e = absurd cc
sign_stops_blanks false (d ∷ ds) rest e = not_blank is_ascii_digit d refl refl
    (and_parts (is_ascii_digit d) (list_all is_ascii_digit ds) e).0

abbrev value_part : Parts → List ℕ
value_part p = p.behind_sign ++ (sign p.minus ++ (p.digits ++ p.after))

abbrev name_part : Parts → List ℕ
name_part p = p.name ++ (p.between ++ (61 ∷ value_part p))

abbrev read_value : List ℕ → List ℕ → Option Entry
read_value name value = option_and_then (λ word. Some (entry name word)) (number_word (behind is_blank value))

abbrev read_text : List ℕ → Option Entry
read_text text =
    cond (nat_eq (prefix_len is_ascii_alphabetic text) 0) None
    (option_and_then (read_value (take_while is_name_byte text))
    (after 61 (behind is_blank (behind is_name_byte text))))

pub line_read : (p : Parts) (word : ℕ) → AreParts p → word_up_to p.minus (decimal_from 0 p.digits) ≡ Some word
    → entry_in (input_line p) ≡ Some (entry p.name word)
unfolding entry_in
line_read p word a w =
    let tail : List ℕ = p.between ++ (61 ∷ value_part p) in
    let text : behind is_blank (input_line p) ≡ name_part p =
    behind_is is_blank p.before (name_part p) a.blank_before (name_stops_blanks p.name tail a.named) in
    let stop : Stops is_name_byte tail = blanks_stop is_name_byte p.between (61 ∷ value_part p) refl refl
    a.blank_between refl in
    let passes = name_passes p.name a.named in
    let name : take_while is_name_byte (name_part p) ≡ p.name = front_text is_name_byte p.name tail passes stop in
    let rest : behind is_name_byte (name_part p) ≡ tail = behind_is is_name_byte p.name tail passes stop in
    let equals : behind is_blank tail ≡ 61 ∷ value_part p =
    behind_is is_blank p.between (61 ∷ value_part p) a.blank_between refl in
    let number : behind is_blank (value_part p) ≡ sign p.minus ++ (p.digits ++ p.after) =
    behind_is is_blank p.behind_sign (sign p.minus ++ (p.digits ++ p.after)) a.blank_behind_sign
    (sign_stops_blanks p.minus p.digits p.after a.numeral) in
    let value : number_word (behind is_blank (value_part p)) ≡ Some word = ap number_word number
    ∙ number_read p.minus p.digits p.after a.numeral a.blank_after ∙ w in
    ap read_text text
    ∙ ap (λ b. cond b None (option_and_then (read_value (take_while is_name_byte (name_part p)))
    (after 61 (behind is_blank (behind is_name_byte (name_part p))))))
    (begins_with_letter p.name tail a.named)
    ∙ ap (λ t. option_and_then (read_value (take_while is_name_byte (name_part p)))
    (after 61 (behind is_blank t))) rest
    ∙ ap (λ t. option_and_then (read_value (take_while is_name_byte (name_part p))) (after 61 t)) equals
    ∙ ap (λ n. read_value n (value_part p)) name
    ∙ ap (option_and_then (λ word. Some (entry p.name word))) value

-- what is read

none_not : {A : Type 0} (b : Bool) (o : Option A) (x : A) → cond b None o ≡ Some x → (b ≡ false) × (o ≡ Some x)
none_not true o x e = absurd cc
none_not false o x e = (refl, e)

neither : (b c : Bool) → (b || not c) ≡ false → (b ≡ false) × (c ≡ true)
neither true c e = absurd cc
neither false true e = (refl, refl)
neither false false e = absurd cc

after_is : (first : ℕ) (text rest : List ℕ) → after first text ≡ Some rest → text ≡ first ∷ rest
after_is first [] rest e = absurd cc
after_is first (b ∷ bs) rest e =
    let g = cond_some (nat_eq b first) bs rest e in
    let same : b ≡ first = eqb-true b first g.0 in
    rw (same, g.1) refl

value_is : {A B : Type 0} (f : A → Option B) (o : Option A) (y : B) → option_and_then f o ≡ Some y
    → (x : A) × (o ≡ Some x) × (f x ≡ Some y)
value_is f None y e = absurd cc
value_is f (Some x) y e = (x, refl, e)

front_begins : (p : ℕ → Bool) (x : ℕ) (xs : List ℕ) → p x ≡ true → take_while p (x ∷ xs) ≡ x ∷ take_while p xs
front_begins p x xs e = take_while-cons p x xs ∙ ap (λ b. cond b (x ∷ take_while p xs) []) e

zero_is : (n : ℕ) → n ≡ 0 → nat_eq n 0 ≡ false → ⊥
zero_is n z e = grind (arith, nat_tests)

front_begins_so : (p : ℕ → Bool) (x : ℕ) (xs : List ℕ) → nat_eq (prefix_len p (x ∷ xs)) 0 ≡ false → p x ≡ true
front_begins_so p x xs e = true_from_ne_false (p x) (λ h. zero_is (prefix_len p (x ∷ xs))
    (ap (λ b. cond b (1 + prefix_len p xs) 0) h) e)

numeral_here : (text : List ℕ) → nat_eq (prefix_len is_ascii_digit text) 0 ≡ false
    → is_numeral (take_while is_ascii_digit text) ≡ true
numeral_here [] e = absurd cc
numeral_here (x ∷ xs) e =
    let digit = front_begins_so is_ascii_digit x xs e in
    ap is_numeral (front_begins is_ascii_digit x xs digit) ∙ rw (digit, front_passes is_ascii_digit xs) refl

name_here : (text : List ℕ) → nat_eq (prefix_len is_ascii_alphabetic text) 0 ≡ false
    → is_input_name (take_while is_name_byte text) ≡ true
name_here [] e = absurd cc
name_here (x ∷ xs) e =
    let letter = front_begins_so is_ascii_alphabetic x xs e in
    ap is_input_name (front_begins is_name_byte x xs (letter_in_name x letter))
    ∙ rw (letter, front_passes is_name_byte xs) refl

record HasNumber (text : List ℕ) (word : ℕ) : Type 0 where
  minus : Bool
  digits : List ℕ
  rest : List ℕ
  spelled : text ≡ sign minus ++ (digits ++ rest)
  numeral : is_numeral digits ≡ true
  blank : are_blanks rest ≡ true
  in_range : word_up_to minus (decimal_from 0 digits) ≡ Some word

digits_found : (minus : Bool) (whole text : List ℕ) (word : ℕ) → whole ≡ sign minus ++ text
    → digits_word minus text ≡ Some word → HasNumber whole word
unfolding digits_word
digits_found minus whole text word same e =
    let digits : List ℕ = take_while is_ascii_digit text in
    let g = none_not (nat_eq (prefix_len is_ascii_digit text) 0 || not
    (list_all is_blank (behind is_ascii_digit text))) (word_up_to minus (decimal_from 0 digits)) word e in
    let h = neither (nat_eq (prefix_len is_ascii_digit text) 0) (list_all is_blank (behind is_ascii_digit text)) g.0
    in
    record {
      minus = minus;
      digits = digits;
      rest = behind is_ascii_digit text;
      spelled = same ∙ ap (λ xs. sign minus ++ xs) (cut_here is_ascii_digit text);
      numeral = numeral_here text h.0;
      blank = h.1;
      in_range = g.1;
    }

number_found : (text : List ℕ) (word : ℕ) → number_word text ≡ Some word → HasNumber text word
number_found [] word e = absurd cc
number_found (b ∷ rest) word e = by_test (nat_eq b 45) refl
  where
    by_test : (t : Bool) → nat_eq b 45 ≡ t → HasNumber (b ∷ rest) word
    by_test true h =
        let read : digits_word true rest ≡ Some word = sym (ap
        (λ t. cond t (digits_word true rest) (digits_word false (b ∷ rest))) h) ∙ e in
        digits_found true (b ∷ rest) rest word (ap (λ x. x ∷ rest) (eqb-true b 45 h)) read
    by_test false h =
        let read : digits_word false (b ∷ rest) ≡ Some word =
        sym (ap (λ t. cond t (digits_word true rest) (digits_word false (b ∷ rest))) h) ∙ e in
        digits_found false (b ∷ rest) (b ∷ rest) word refl read

abbrev pub the_some : Entry → Option Entry
the_some x = Some x

pub line_found : (line : List ℕ) (e : Entry) → entry_in line ≡ Some e → Sets line e.name e.word
unfolding entry_in
line_found line e read =
    let text : List ℕ = behind is_blank line in
    let name : List ℕ = take_while is_name_byte text in
    let rest : List ℕ = behind is_name_byte text in
    let g = none_not (nat_eq (prefix_len is_ascii_alphabetic text) 0)
    (option_and_then (read_value name) (after 61 (behind is_blank rest))) e read in
    let v = value_is (read_value name) (after 61 (behind is_blank rest)) e g.1 in
    let w = value_is (λ word. Some (entry name word)) (number_word (behind is_blank v.0)) e v.2 in
    let n = number_found (behind is_blank v.0) w.0 w.1 in
    let same : entry name w.0 ≡ e = some_is (entry name w.0) e w.2 in
    let parts : Parts = record {
      before = take_while is_blank line;
      name = name;
      between = take_while is_blank rest;
      behind_sign = take_while is_blank v.0;
      minus = n.minus;
      digits = n.digits;
      after = n.rest;
    } in
    let value : v.0 ≡ value_part parts = cut_here is_blank v.0
    ∙ ap (λ xs. take_while is_blank v.0 ++ xs) n.spelled in
    let tail : rest ≡ take_while is_blank rest ++ (61 ∷ value_part parts) =
    cut_here is_blank rest ∙ ap (λ xs. take_while is_blank rest ++ xs)
    (after_is 61 (behind is_blank rest) v.0 v.1 ∙ ap (λ xs. 61 ∷ xs) value) in
    let whole : line ≡ input_line parts =
    cut_here is_blank line ∙ ap (λ xs. take_while is_blank line ++ xs)
    (cut_here is_name_byte text ∙ ap (λ xs. name ++ xs) tail) in
    subst (λ (x : Entry). Sets line x.name x.word) same (record {
      parts = parts;
      are_parts = record {
        blank_before = front_passes is_blank line;
        named = name_here text g.0;
        blank_between = front_passes is_blank rest;
        blank_behind_sign = front_passes is_blank v.0;
        numeral = n.numeral;
        blank_after = n.blank;
      };
      spelled = whole;
      same_name = refl;
      in_range = n.in_range;
    })
  where
    some_is : (x y : Entry) → the_some x ≡ the_some y → x ≡ y
    some_is x y h = cc
