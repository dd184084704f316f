-- What `split_once` and the like give, as cuts and pieces.
use Rattle.std.proofs.Common.{◌≡◌, ℕ, zero, suc, ◌+◌, ◌-◌, ◌<◌, ◌≤◌, Bool, true, false, cond, List, [], ◌∷◌, ◌++◌, length, take, drop, Option, Some, None, Bor, refl, sym, ap, ◌∙◌, arith}
use Rattle.std.specs.Prelude.{MatchOption, IfSome, option_map, option_copied, unwrap_or}
use Rattle.std.specs.List.{onto_first}
use Rattle.std.specs.Str.Pattern.{FindsText, RFindsText, FindsTextPrefix, LacksTextAt, StripsPrefix}
use Rattle.std.proofs.lemmas.Str.Pattern.{starts_text}
use Rattle.row_parts.specs.Pieces.{begins, after, cut, cut_last, pieces, pieces_after}
use lib.Pointwise.{bytes_decides}

-- a text begins with what it is made of
front_is : (front text : List ℕ) → take (length front) (front ++ text) ≡ front
front_is [] text = refl
front_is (byte ∷ front) text = ap (λ rest. byte ∷ rest) (front_is front text)

pub begins_with : (front text rest : List ℕ) → text ≡ front ++ rest → begins text front ≡ true
begins_with front text rest e = (bytes_decides front (take (length front) text)).1
    (sym (ap (take (length front)) e ∙ front_is front rest))

pub begins_not : (front text : List ℕ) → LacksTextAt front text 0 → begins text front ≡ false
begins_not front text h = sym (starts_text false front text h)

-- what follows a prefix
pub after_gives : (front text : List ℕ) (r : Option (Bor (List ℕ)))
    → MatchOption r (FindsTextPrefix front text None) (λ x. StripsPrefix (FindsTextPrefix front) text x.now)
    → option_copied r ≡ after front text
after_gives front text None h = rw (begins_not front text h) refl
after_gives front text (Some x) h =
    let starts : begins text front ≡ true = begins_with front text (drop h.0 text) h.1.1 in
    let rest : x.now ≡ drop (length front) text = h.2 ∙ ap (λ n. drop n text) h.1.0 in
    rw (starts, rest) refl

-- no separator, so no cut
pub cut_none : (separator text : List ℕ) → ((i : ℕ) → i ≤ length text → LacksTextAt separator text i)
    → cut separator text ≡ None
cut_none separator [] h = refl
cut_none separator (byte ∷ text) h =
    let first : begins (byte ∷ text) separator ≡ false =
    begins_not separator (byte ∷ text) (h 0 (omega arith)) in
    let rest : cut separator text ≡ None = cut_none separator text (λ i fits. h (suc i) (omega arith)) in
    rw (first, rest) refl

pub cut_last_none : (separator text : List ℕ) → ((i : ℕ) → i ≤ length text → LacksTextAt separator text i)
    → cut_last separator text ≡ None
cut_last_none separator [] h = refl
cut_last_none separator (byte ∷ text) h =
    let first : begins (byte ∷ text) separator ≡ false =
    begins_not separator (byte ∷ text) (h 0 (omega arith)) in
    let rest : cut_last separator text ≡ None =
    cut_last_none separator text (λ i fits. h (suc i) (omega arith)) in
    rw (rest, first) refl

-- nothing is left of an empty text
nothing_in : (separator : List ℕ) (n i : ℕ) → 0 < length separator → drop i [] ≡ separator ++ drop n [] → ⊥
nothing_in [] n i some e = absurd (omega arith)
nothing_in (byte ∷ separator) n zero some e = cc
nothing_in (byte ∷ separator) n (suc i) some e = cc

-- a cut at the first separator
pub cut_some : (separator text : List ℕ) (i : ℕ) → 0 < length separator
    → ((k : ℕ) → k < i → LacksTextAt separator text k)
    → drop i text ≡ separator ++ drop (i + length separator) text
    → cut separator text ≡ Some (take i text, drop (i + length separator) text)
cut_some separator [] i some before here =
    absurd (nothing_in separator (i + length separator) i some here)
cut_some separator (byte ∷ text) zero some before here =
    let first : begins (byte ∷ text) separator ≡ true = begins_with separator (byte ∷ text) _ here in
    let plain : 0 + length separator ≡ length separator = omega arith in
    rw (first, plain) refl
cut_some separator (byte ∷ text) (suc i) some before here =
    let first : begins (byte ∷ text) separator ≡ false =
    begins_not separator (byte ∷ text) (before 0 (omega arith)) in
    let one : suc i + length separator ≡ suc (i + length separator) = omega arith in
    let rest : cut separator text ≡ Some (take i text, drop (i + length separator) text) =
    cut_some separator text i some (λ k below. before (suc k) (omega arith))
    (here ∙ ap (λ n. separator ++ drop n (byte ∷ text)) one) in
    rw (first, rest, one) refl

pub cut_last_some : (separator text : List ℕ) (i : ℕ) → 0 < length separator
    → ((k : ℕ) → i < k → k ≤ length text → LacksTextAt separator text k)
    → drop i text ≡ separator ++ drop (i + length separator) text
    → cut_last separator text ≡ Some (take i text, drop (i + length separator) text)
cut_last_some separator [] i some behind here =
    absurd (nothing_in separator (i + length separator) i some here)
cut_last_some separator (byte ∷ text) zero some behind here =
    let rest : cut_last separator text ≡ None =
    cut_last_none separator text (λ k fits. behind (suc k) (omega arith) (omega arith)) in
    let first : begins (byte ∷ text) separator ≡ true = begins_with separator (byte ∷ text) _ here in
    let plain : 0 + length separator ≡ length separator = omega arith in
    rw (rest, first, plain) refl
cut_last_some separator (byte ∷ text) (suc i) some behind here =
    let one : suc i + length separator ≡ suc (i + length separator) = omega arith in
    let rest : cut_last separator text ≡ Some (take i text, drop (i + length separator) text) =
    cut_last_some separator text i some (λ k above fits. behind (suc k) (omega arith) (omega arith))
    (here ∙ ap (λ n. separator ++ drop n (byte ∷ text)) one) in
    rw (rest, one) refl

-- the two sides of a cut
abbrev pub sides : Option (Bor (List ℕ) × Bor (List ℕ)) → Option (List ℕ × List ℕ)
sides r = option_map (λ parts. (parts.0.now, parts.1.now)) r

abbrev pub pair : List ℕ → List ℕ → Option (List ℕ × List ℕ)
pair a b = Some (a, b)

both : (a b x y : List ℕ) → a ≡ x → b ≡ y → pair a b ≡ pair x y
both a b x y e f = λ i. Some (e i, f i)

pub cut_gives : (separator text : List ℕ) (r : Option (Bor (List ℕ) × Bor (List ℕ))) → 0 < length separator
    → MatchOption r (FindsText separator text None) (λ x. (i : ℕ) × (j : ℕ) × FindsText separator text (Some (i, j))
    × (x.0.now ≡ take i text) × (x.1.now ≡ drop j text) × (i ≤ j) × (length x.0.now ≡ i)
    × (length x.1.now + j ≡ length text))
    → sides r ≡ cut separator text
cut_gives separator text None some h = sym (cut_none separator text h)
cut_gives separator text (Some x) some h =
    let here : drop h.0 text ≡ separator ++ drop (h.0 + length separator) text =
    h.2.1.split ∙ ap (λ n. separator ++ drop n text) h.2.1.ends in
    both _ _ _ _ h.3 (h.4 ∙ ap (λ n. drop n text) h.2.1.ends)
    ∙ sym (cut_some separator text h.0 some h.2.0 here)

pub cut_last_gives : (separator text : List ℕ) (r : Option (Bor (List ℕ) × Bor (List ℕ)))
    → 0 < length separator
    → MatchOption r (RFindsText separator text None) (λ x. (i : ℕ) × (j : ℕ) × RFindsText separator text (Some (i, j))
    × (x.0.now ≡ take i text) × (x.1.now ≡ drop j text) × (i ≤ j) × (length x.0.now ≡ i)
    × (length x.1.now + j ≡ length text))
    → sides r ≡ cut_last separator text
cut_last_gives separator text None some h = sym (cut_last_none separator text h)
cut_last_gives separator text (Some x) some h =
    let here : drop h.0 text ≡ separator ++ drop (h.0 + length separator) text =
    h.2.1.split ∙ ap (λ n. separator ++ drop n text) h.2.1.ends in
    both _ _ _ _ h.3 (h.4 ∙ ap (λ n. drop n text) h.2.1.ends)
    ∙ sym (cut_last_some separator text h.0 some h.2.0 here)

-- what is after the first separator is shorter
pub cut_shorter : (separator text : List ℕ) (r : Option (Bor (List ℕ) × Bor (List ℕ))) → 0 < length separator
    → MatchOption r (FindsText separator text None) (λ x. (i : ℕ) × (j : ℕ) × FindsText separator text (Some (i, j))
    × (x.0.now ≡ take i text) × (x.1.now ≡ drop j text) × (i ≤ j) × (length x.0.now ≡ i)
    × (length x.1.now + j ≡ length text))
    → IfSome r (λ x. length x.1.now < length text)
cut_shorter separator text None some h = tt
cut_shorter separator text (Some x) some h =
    let ends : h.1 ≡ h.0 + length separator = h.2.1.ends in
    let whole : length x.1.now + h.1 ≡ length text = h.7 in omega arith

-- bytes of a separator that has begun
skipped : (separator : List ℕ) (n : ℕ) (text : List ℕ) → pieces_after separator n text ≡ pieces separator (drop n text)
skipped separator zero [] = refl
skipped separator (suc n) [] = refl
skipped separator zero (byte ∷ text) = refl
skipped separator (suc n) (byte ∷ text) = skipped separator n text

dropped : (n : ℕ) (byte : ℕ) (text : List ℕ) → 0 < n → drop n (byte ∷ text) ≡ drop (n - 1) text
dropped zero byte text some = absurd (omega arith)
dropped (suc n) byte text some = ap (λ k. drop k text) (omega arith)

-- the parts of an equation between cuts
left_is : (a b x y : List ℕ) → pair a b ≡ pair x y → a ≡ x
left_is a b x y e = ap (λ (r : Option (List ℕ × List ℕ)). (unwrap_or r (a, b)).0) e

right_is : (a b x y : List ℕ) → pair a b ≡ pair x y → b ≡ y
right_is a b x y e = ap (λ (r : Option (List ℕ × List ℕ)). (unwrap_or r (a, b)).1) e

no_some : {A : Type 0} (x : A) → None ≡ Some x → ⊥
no_some x e = cc

-- a text without a separator is one piece
none_case : (separator : List ℕ) (byte : ℕ) (text : List ℕ) (starts : Bool) (r : Option (List ℕ × List ℕ))
    → (r ≡ None → pieces separator text ≡ text ∷ [])
    → None ≡ cond starts (pair [] (drop (length separator) (byte ∷ text)))
    (option_map (λ parts. (byte ∷ parts.0, parts.1)) r)
    → cond starts ([] ∷ pieces_after separator (length separator - 1) text)
    (onto_first byte (pieces separator text)) ≡ (byte ∷ text) ∷ []
none_case separator byte text true r rest e = absurd (no_some _ e)
none_case separator byte text false None rest e = rw (rest refl) refl
none_case separator byte text false (Some parts) rest e = absurd (no_some _ e)

pub pieces_none : (separator text : List ℕ) → None ≡ cut separator text → pieces separator text ≡ text ∷ []
pieces_none separator [] e = refl
pieces_none separator (byte ∷ text) e = none_case separator byte text (begins (byte ∷ text) separator)
    (cut separator text) (λ h. pieces_none separator text (sym h)) e

-- the first piece of a text with a separator
some_case : (separator : List ℕ) (byte : ℕ) (text : List ℕ) (starts : Bool) (r : Option (List ℕ × List ℕ))
    (piece behind : List ℕ) → 0 < length separator
    → ((a b : List ℕ) → pair a b ≡ r → pieces separator text ≡ a ∷ pieces separator b)
    → pair piece behind ≡ cond starts (pair [] (drop (length separator) (byte ∷ text)))
    (option_map (λ parts. (byte ∷ parts.0, parts.1)) r)
    → cond starts ([] ∷ pieces_after separator (length separator - 1) text)
    (onto_first byte (pieces separator text)) ≡ piece ∷ pieces separator behind
some_case separator byte text true r piece behind some rest e =
    let front : piece ≡ [] = left_is _ _ _ _ e in
    let back : behind ≡ drop (length separator) (byte ∷ text) = right_is _ _ _ _ e in
    let skip : pieces_after separator (length separator - 1) text ≡ pieces separator behind =
    skipped separator (length separator - 1) text
    ∙ ap (pieces separator) (sym (back ∙ dropped (length separator) byte text some)) in
    λ i. (sym front) i ∷ skip i
some_case separator byte text false None piece behind some rest e = absurd (no_some _ (sym e))
some_case separator byte text false (Some parts) piece behind some rest e =
    let front : piece ≡ byte ∷ parts.0 = left_is _ _ _ _ e in
    let back : behind ≡ parts.1 = right_is _ _ _ _ e in
    ap (onto_first byte) (rest parts.0 parts.1 refl)
    ∙ (λ i. (sym front) i ∷ pieces separator ((sym back) i))

pub pieces_some : (separator text piece behind : List ℕ) → 0 < length separator
    → pair piece behind ≡ cut separator text → pieces separator text ≡ piece ∷ pieces separator behind
pieces_some separator [] piece behind some e = absurd (no_some _ (sym e))
pieces_some separator (byte ∷ text) piece behind some e = some_case separator byte text
    (begins (byte ∷ text) separator) (cut separator text) piece behind some
    (λ a b h. pieces_some separator text a b some h) e

-- the pieces that a cut makes
pub cut_pieces : (separator text : List ℕ) (r : Option (Bor (List ℕ) × Bor (List ℕ))) → 0 < length separator
    → sides r ≡ cut separator text
    → MatchOption r (pieces separator text ≡ text ∷ [])
    (λ parts. pieces separator text ≡ parts.0.now ∷ pieces separator parts.1.now)
cut_pieces separator text None some e = pieces_none separator text e
cut_pieces separator text (Some parts) some e =
    pieces_some separator text parts.0.now parts.1.now some e
