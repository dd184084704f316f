-- The labels of a line, and labels none of which occurs earlier.
use Rattle.std.proofs.Common.{◌≡◌, ◌∙◌, ap, sym, subst, refl, ℕ, suc, ◌-◌, ◌<◌, Bool, true, false, ◌==◌, arith, List}
use Rattle.std.proofs.Common.{[], ◌∷◌, ◌++◌, length, get_or, take, map, Option, Some, None, Ok, length-append}
use Rattle.std.specs.List.{All}
use Rattle.std.proofs.Math.Seq.{take-suc}
use Rattle.std.proofs.lemmas.Bool.Decides.{nat_tests}
use Rattle.std.proofs.lemmas.List.Elements.{All-cons}
use mathlib.Core.List.{append_assoc, append-nil}
use Rattle.pisa_isa.specs.declared.cell.Cell.{Cell}
use Rattle.pisa_asm.specs.Chain.{and_then}
use Rattle.pisa_asm.specs.Lines.{ends_in, all_but_last}
use Rattle.pisa_asm.specs.LabelNames.{is_label_name, is_label, label_names, after_labels, Labels, label_address}
use Rattle.pisa_isa.specs.Notes.{NoteLists}
use Rattle.pisa_asm.specs.Mnemonics.{mnemonic, static_mnemonic, mark_word, name_word}
use Rattle.pisa_asm.specs.Passes.{label_at, labels_at}
use Rattle.pisa_asm.specs.AssemblyText.{ItemText, nothing, instruction, static, marked, named, label_word, AreNew}
use Rattle.pisa_asm.proofs.Spelling.{both}
use Rattle.pisa_asm.proofs.Rereading.{no_label}

-- a label is its name and a colon

last_pushed : (name : List ℕ) (b : ℕ) → get_or (name ++ b ∷ []) (length name) 0 ≡ b
last_pushed [] b = refl
last_pushed (c ∷ name) b = last_pushed name b

front_pushed : (name : List ℕ) (b : ℕ) → take (length name) (name ++ b ∷ []) ≡ name
front_pushed [] b = refl
front_pushed (c ∷ name) b = ap (λ cs. c ∷ cs) (front_pushed name b)

last_place : (name : List ℕ) (b : ℕ) → length (name ++ b ∷ []) - 1 ≡ length name
last_place name b = rw length-append (omega arith)

front_of_label : (name : List ℕ) → all_but_last (label_word name) ≡ name
front_of_label name = rw (last_place name 58) (front_pushed name 58)

label_is : (name : List ℕ) → is_label_name name ≡ true → is_label (label_word name) ≡ true
label_is name h = rw (last_place name 58, last_pushed name 58, front_pushed name 58, h) refl

take_all : (xs : List ℕ) → take (length xs) xs ≡ xs
take_all [] = refl
take_all (x ∷ xs) = ap (λ ys. x ∷ ys) (take_all xs)

label_written : (word : List ℕ) → ends_in 58 word ≡ true → word ≡ label_word (all_but_last word)
label_written [] h = absurd (cc)
label_written (b ∷ word) h =
    let whole : List ℕ = b ∷ word in
    let i : ℕ = length whole - 1 in
    let inside : i < length whole = omega arith in
    let place : suc i ≡ length whole = omega arith in
    let last : get_or whole i 0 ≡ 58 = colon (get_or whole i 0) h in
    sym (take_all whole) ∙ ap (λ n. take n whole) (sym place) ∙ take-suc whole i 0 inside
    ∙ ap (λ c. take i whole ++ c ∷ []) last
  where
    colon : (c : ℕ) → (c == 58) ≡ true → c ≡ 58
    colon c h = grind (arith, nat_tests)

pub record Split (words : List (List ℕ)) : Type 0 where
  pub are_names : All (λ name. is_label_name name ≡ true) (label_names words)
  pub written : words ≡ map label_word (label_names words) ++ after_labels words

pub split_sound : (words : List (List ℕ)) → Split words
split_sound [] = record { are_names = λ k d h. absurd (omega arith); written = refl }
split_sound (word ∷ words) = by_label (is_label word) refl (split_sound words)
  where
    by_label : (t : Bool) → is_label word ≡ t → Split words → Split (word ∷ words)
    by_label true e s =
        let p = both (ends_in 58 word) (is_label_name (all_but_last word)) e in
        record {
          are_names = rw e (All-cons (λ name. is_label_name name ≡ true) (all_but_last word) (label_names words) p.1
              s.are_names);
          written = rw e (ap (λ w. w ∷ words) (label_written word p.0)
              ∙ ap (λ ws. label_word (all_but_last word) ∷ ws) s.written);
        }
    by_label false e s = record { are_names = rw e (λ k d h. absurd (omega arith)); written = rw e refl }

-- words that begin with no label
pub record NoLabels (words : List (List ℕ)) : Type 0 where
  pub after : after_labels words ≡ words
  pub names : label_names words ≡ []

first_no_label : (word : List ℕ) (words : List (List ℕ)) → is_label word ≡ false → NoLabels (word ∷ words)
first_no_label word words e = record { after = rw e refl; names = rw e refl }

pub item_no_labels : (labels : Labels) (at : ℕ) (words : List (List ℕ)) (code : List Cell) (statics : List ℕ)
    (notes : NoteLists) → ItemText labels at words code statics notes → NoLabels words
item_no_labels labels at words code statics notes (nothing w c s o) = rw w (record { after = refl; names = refl })
item_no_labels labels at words code statics notes (instruction cell i c s o) =
    rw i.written (first_no_label (mnemonic cell.op) (i.a ++ (i.b ++ (i.c ++ i.last))) (no_label cell.op))
item_no_labels labels at words code statics notes (static word n w t c s o) =
    rw w (first_no_label static_mnemonic (word ∷ []) refl)
item_no_labels labels at words code statics notes (marked m t c s o) =
    rw t.written (first_no_label mark_word (t.first ∷ t.end ∷ t.at ∷ []) refl)
item_no_labels labels at words code statics notes (named n t c s o) =
    rw t.written (first_no_label name_word (t.cell ∷ n.text ∷ []) refl)

pub after_complete : (names words : List (List ℕ)) → All (λ name. is_label_name name ≡ true) names → NoLabels words
    → after_labels (map label_word names ++ words) ≡ words
after_complete [] words all n = n.after
after_complete (name ∷ names) words all n =
    rw (label_is name (all 0 name (omega arith))) (after_complete names words (λ k d h. all (suc k) d (omega arith)) n)

pub names_complete : (names words : List (List ℕ)) → All (λ name. is_label_name name ≡ true) names → NoLabels words
    → label_names (map label_word names ++ words) ≡ names
names_complete [] words all n = n.names
names_complete (name ∷ names) words all n =
    rw (label_is name (all 0 name (omega arith)), front_of_label name)
    (ap (λ ns. name ∷ ns) (names_complete names words (λ k d h. all (suc k) d (omega arith)) n))

-- labels that are new

-- the labels of these names, each for this code address
abbrev pub placed : ℕ → List (List ℕ) → Labels
placed at names = map (λ name. (name, at)) names

pub labels_complete : (line at : ℕ) (before : Labels) (names : List (List ℕ)) → AreNew before (placed at names)
    → labels_at line at before names ≡ Ok (before ++ placed at names)
labels_complete line at before [] n = ap Ok (sym (append-nil before))
labels_complete line at before (name ∷ names) n =
    rw n.0 (labels_complete line at (before ++ (name, at) ∷ []) names n.1
    ∙ ap Ok (append_assoc before ((name, at) ∷ []) (placed at names)))

pub record Placed (at : ℕ) (before : Labels) (names : List (List ℕ)) (end : Labels) : Type 0 where
  pub are_new : AreNew before (placed at names)
  pub all : end ≡ before ++ placed at names

pub labels_sound : (line at : ℕ) (before : Labels) (names : List (List ℕ)) (end : Labels)
    → labels_at line at before names ≡ Ok end → Placed at before names end
labels_sound line at before [] end h = record {
  are_new = tt;
  all = let same : before ≡ end = cc in sym same
      ∙ sym (append-nil before);
}
labels_sound line at before (name ∷ names) end h = by_place (label_address name before) refl h
    (labels_sound line at (before ++ (name, at) ∷ []) names end)
  where
    by_place : (o : Option ℕ) → label_address name before ≡ o → and_then (label_at line name at before o)
        (λ longer. labels_at line at longer names) ≡ Ok end
        → (labels_at line at (before ++ (name, at) ∷ []) names ≡ Ok end
        → Placed at (before ++ (name, at) ∷ []) names end)
        → Placed at before (name ∷ names) end
    by_place (Some p) e h rest = absurd (cc)
    by_place None e h rest =
        let p = rest h in
        record { are_new = (e, p.are_new); all = p.all ∙ append_assoc before ((name, at) ∷ []) (placed at names) }

pub new-append : (before xs ys : Labels) → AreNew before xs → AreNew (before ++ xs) ys → AreNew before (xs ++ ys)
new-append before [] ys n m = let P : Labels → Type 0 = λ b. AreNew b ys in subst P (append-nil before) m
new-append before (x ∷ xs) ys n m =
    let P : Labels → Type 0 = λ b. AreNew b ys in
    (n.0, new-append (before ++ x ∷ []) xs ys n.1 (subst P (sym (append_assoc before (x ∷ []) xs)) m))

pub new_front : (before xs ys : Labels) → AreNew before (xs ++ ys) → AreNew before xs
new_front before [] ys n = tt
new_front before (x ∷ xs) ys n = (n.0, new_front (before ++ x ∷ []) xs ys n.1)

pub new_behind : (before xs ys : Labels) → AreNew before (xs ++ ys) → AreNew (before ++ xs) ys
new_behind before [] ys n = let P : Labels → Type 0 = λ b. AreNew b ys in subst P (sym (append-nil before)) n
new_behind before (x ∷ xs) ys n =
    let P : Labels → Type 0 = λ b. AreNew b ys in
    subst P (append_assoc before (x ∷ []) xs) (new_behind (before ++ x ∷ []) xs ys n.1)
