-- Giving back what was taken, and taking what was given back, leaves a sound book as it was.
use Rattle.std.proofs.Common.{◌≡◌, ℕ, zero, suc, ◌+◌, ◌*◌, ◌%◌, ◌/◌, ◌<◌, ◌≤◌, Bool, true, false, refl, sym, ap, ◌∙◌}
use Rattle.std.proofs.Common.{arith, List, [], ◌∷◌, length, Option, Some, None, eq-eqb, if◌then◌else◌}
use Rattle.std.proofs.Math.Nat.{add-mod_right, mod-add-div, mul-mod_left}
use Rattle.std.proofs.lemmas.Bool.{leb-true, le-leb, eqb-true, and_parts, and_from}
use Rattle.std.specs.Prelude.{nat_eq, nat_le, is_none}
use Rattle.buddy_book.specs.Book.{Book, upper_half, take_first, below_taken, take_past, is_buddy, lower_half, merged}
use Rattle.buddy_book.specs.Book.{give_first, give_past}
use Rattle.buddy_book.specs.Shown.{is_sound_list, is_sound, IsAdditive, list_weight, weight}

-- what a sound list says of its head
pub record SoundHead (top size block : ℕ) (free : List ℕ) : Type 0 where
  pub aligned : block % size ≡ 0
  pub fits : block + size ≤ top
  pub unmerged : is_none (lower_half size block free) ≡ true
  pub rest : is_sound_list top size free ≡ true

pub sound_head : (top size block : ℕ) (free : List ℕ) → is_sound_list top size (block ∷ free) ≡ true
    → SoundHead top size block free
sound_head top size block free e =
    let one = and_parts (nat_eq (block % size) 0) _ e in
    let two = and_parts (nat_le (block + size) top) _ one.1 in
    let three = and_parts (is_none (lower_half size block free)) _ two.1 in
    record {
      aligned = eqb-true (block % size) 0 one.0;
      fits = leb-true (block + size) top two.0;
      unmerged = three.0;
      rest = three.1;
    }

pub sound_list : (top size block : ℕ) (free : List ℕ) → SoundHead top size block free
    → is_sound_list top size (block ∷ free) ≡ true
sound_list top size block free h =
    and_from (nat_eq (block % size) 0) _ (eq-eqb (block % size) 0 h.aligned)
    (and_from (nat_le (block + size) top) _ (le-leb (block + size) top h.fits)
    (and_from (is_none (lower_half size block free)) _ h.unmerged h.rest))

-- none is none
none_is : {A : Type 0} (o : Option A) → is_none o ≡ true → o ≡ None
none_is None e = refl
none_is (Some x) e = cc

-- a multiple of twice a number is one of the number
of_double : (size block : ℕ) → block % (2 * size) ≡ 0 → block % size ≡ 0
of_double size block h =
    let q = block / (2 * size) in
    let whole : block ≡ 2 * q * size = sym (mod-add-div block (2 * size)) ∙ ap (λ r. r + 2 * size * q) h
    ∙ omega arith in
    ap (λ b. b % size) whole ∙ mul-mod_left (2 * q) size

-- what a take from a sound book did
pub record Took (top size block : ℕ) (book after : Book) : Type 0 where
  pub aligned : block % size ≡ 0
  pub fits : block + size ≤ top
  pub undone : give_first size block after ≡ book
  pub sound : is_sound top size after ≡ true
  pub weights : (f : ℕ → ℕ → ℕ) → IsAdditive f → weight f size book ≡ f block size + weight f size after
  pub count : length after ≡ length book

abbrev pub TookIf : ℕ → ℕ → Book → Option (ℕ × Book) → Type 0
TookIf top size book None = Unit {0}
TookIf top size book (Some (block, after)) = Took top size block book after

pub upper_merges : (size low : ℕ) → low % (2 * size) ≡ 0 → lower_half size (low + size) (low ∷ []) ≡ Some low
upper_merges size low h =
    let buddy : is_buddy size low (low + size) ≡ true = and_from (nat_eq (low + size) (low + size)) _
    (eq-eqb (low + size) (low + size) refl) (eq-eqb (low % (2 * size)) 0 h) in
    ap (λ b. if b then Some low else None) buddy

after_upper : (top size : ℕ) (higher : Book) (taken : Option (ℕ × Book)) → TookIf top (2 * size) higher taken
    → TookIf top size ([] ∷ higher) (upper_half size taken)
after_upper top size higher None t = tt
after_upper top size higher (Some (low, after)) t =
    record {
      aligned = add-mod_right low size ∙ of_double size low t.aligned;
      fits = let h = t.fits in omega arith;
      undone = ap (merged (low + size) (low ∷ []) after (λ l. give_first (2 * size) l after))
          (upper_merges size low t.aligned) ∙ ap (λ b. [] ∷ b) t.undone;
      sound = and_from (is_sound_list top size (low ∷ [])) _
          (sound_list top size low [] (record {
            aligned = of_double size low t.aligned;
            fits = let h = t.fits in
                omega arith;
            unmerged = refl;
            rest = refl;
          })) t.sound;
      weights = λ f additive. let w = t.weights f additive in let a = additive low size in omega arith;
      count = ap suc t.count;
    }

pub take_first_took : (top size : ℕ) (book : Book) → is_sound top size book ≡ true
    → TookIf top size book (take_first size book)
take_first_took top size [] e = tt
take_first_took top size ((block ∷ free) ∷ higher) e =
    let parts = and_parts (is_sound_list top size (block ∷ free)) _ e in
    let head = sound_head top size block free parts.0 in
    record {
      aligned = head.aligned;
      fits = head.fits;
      undone = ap (merged block free higher (λ l. give_first (2 * size) l higher))
          (none_is (lower_half size block free) head.unmerged);
      sound = and_from (is_sound_list top size free) _ head.rest parts.1;
      weights = λ f additive. omega arith;
      count = refl;
    }
take_first_took top size ([] ∷ higher) e = after_upper top size higher (take_first (2 * size) higher)
    (take_first_took top (2 * size) higher e)

-- what a give to a sound book did
pub record Gave (top size block : ℕ) (book after : Book) : Type 0 where
  pub undone : take_first size after ≡ Some (block, book)
  pub sound : is_sound top size after ≡ true
  pub weights : (f : ℕ → ℕ → ℕ) → IsAdditive f → weight f size after ≡ f block size + weight f size book
  pub count : length after ≡ length book

abbrev upper_pair : ℕ → List ℕ → Book → Option (ℕ × Book)
upper_pair block free higher = Some (block, free ∷ higher)

-- a number doubled so many times
abbrev pub doubled : ℕ → ℕ → ℕ
doubled zero size = size
doubled (suc n) size = doubled n (2 * size)

-- what a lower half says
pub record IsMerge (size block low : ℕ) (free : List ℕ) : Type 0 where
  pub alone : free ≡ low ∷ []
  pub upper : block ≡ low + size
  pub aligned : low % (2 * size) ≡ 0

chosen : (b : Bool) (x low : ℕ) → (if b then Some x else None) ≡ Some low → (b ≡ true) × (x ≡ low)
chosen true x low e = (refl, ap (λ o. elim o as (λ _. ℕ) [ Some n ↦ n | None ↦ x ]) e)
chosen false x low e = cc

pub lower_half-some : (size block low : ℕ) (free : List ℕ) → lower_half size block free ≡ Some low
    → IsMerge size block low free
lower_half-some size block low [] e = cc
lower_half-some size block low (a ∷ []) e =
    let c = chosen (is_buddy size a block) a low e in
    let parts = and_parts (nat_eq block (a + size)) _ c.0 in
    record {
      alone = ap (λ x. x ∷ []) c.1;
      upper = eqb-true block (a + size) parts.0 ∙ ap (λ x. x + size) c.1;
      aligned = ap (λ x. x % (2 * size)) (sym c.1) ∙ eqb-true (a % (2 * size)) 0 parts.1;
    }
lower_half-some size block low (a ∷ (b ∷ free)) e = cc

same_taken : (a b : ℕ) (xs ys : List ℕ) (higher : Book) → a ≡ b → xs ≡ ys
    → upper_pair a xs higher ≡ upper_pair b ys higher
same_taken a b xs ys higher e f = ap (λ x. upper_pair x xs higher) e ∙ ap (λ l. upper_pair b l higher) f

module _ (top : ℕ) (has_room : 0 < top) where
  -- a merge, or a new head, if the next order gives well
  merged_gave : (size block : ℕ) (free : List ℕ) (higher : Book) → is_sound_list top size free ≡ true
      → is_sound top (2 * size) higher ≡ true → block % size ≡ 0 → block + size ≤ top
      → ((low : ℕ) → low % (2 * size) ≡ 0 → low + 2 * size ≤ top
      → Gave top (2 * size) low higher (give_first (2 * size) low higher)) → (half : Option ℕ)
      → lower_half size block free ≡ half → Gave top size block (free ∷ higher)
      (merged block free higher (λ l. give_first (2 * size) l higher) half)
  merged_gave size block free higher sound_free sound_higher aligned fits next (Some low) is_half =
      let merge = lower_half-some size block low free is_half in
      let gave = next low merge.aligned (let u = merge.upper in omega arith) in
      record {
        undone = ap (upper_half size) gave.undone ∙ same_taken (low + size) block (low ∷ []) free higher
            (sym merge.upper) (sym merge.alone);
        sound = gave.sound;
        weights = λ f additive. let w = gave.weights f additive in let a = additive low size in let b =
            ap (λ x. f x size) merge.upper in let c = ap (list_weight f size) merge.alone in omega arith;
        count = ap suc gave.count;
      }
  merged_gave size block free higher sound_free sound_higher aligned fits next None is_half =
      record {
        undone = refl;
        sound = and_from (is_sound_list top size (block ∷ free)) _
            (sound_list top size block free (record {
              aligned = aligned;
              fits = fits;
              unmerged = ap is_none is_half;
              rest = sound_free;
            })) sound_higher;
        weights = λ f additive. omega arith;
        count = refl;
      }

  pub give_first_gave : (size block : ℕ) (book : Book) → is_sound top size book ≡ true
      → doubled (length book) size ≡ 2 * top → block % size ≡ 0 → block + size ≤ top
      → Gave top size block book (give_first size block book)
  give_first_gave size block [] e ends aligned fits = absurd (omega arith)
  give_first_gave size block (free ∷ higher) e ends aligned fits =
      let parts = and_parts (is_sound_list top size free) _ e in
      merged_gave size block free higher parts.0 parts.1 aligned fits
      (λ low a f. give_first_gave (2 * size) low higher parts.1 ends a f) (lower_half size block free) refl

-- what a take past the lists of lower orders did
pub record TookBlock (top lower size block : ℕ) (book after : Book) : Type 0 where
  pub aligned : block % doubled lower size ≡ 0
  pub fits : block + doubled lower size ≤ top
  pub undone : give_past lower (doubled lower size) block after ≡ book
  pub sound : is_sound top size after ≡ true
  pub weights : (f : ℕ → ℕ → ℕ) → IsAdditive f → weight f size book ≡ f block (doubled lower size) + weight f size after
  pub count : length after ≡ length book

abbrev pub TookPast : ℕ → ℕ → ℕ → Book → Option (ℕ × Book) → Type 0
TookPast top lower size book None = Unit {0}
TookPast top lower size book (Some (block, after)) = TookBlock top lower size block book after

after_first : (top size : ℕ) (book : Book) (taken : Option (ℕ × Book)) → TookIf top size book taken
    → TookPast top 0 size book taken
after_first top size book None t = tt
after_first top size book (Some (block, after)) t = record
    { aligned = t.aligned; fits = t.fits; undone = t.undone; sound = t.sound; weights = t.weights; count = t.count }

after_below : (top lower size : ℕ) (free : List ℕ) (higher : Book) → is_sound_list top size free ≡ true
    → (taken : Option (ℕ × Book)) → TookPast top lower (2 * size) higher taken
    → TookPast top (suc lower) size (free ∷ higher) (below_taken free taken)
after_below top lower size free higher e None t = tt
after_below top lower size free higher e (Some (block, after)) t =
    record {
      aligned = t.aligned;
      fits = t.fits;
      undone = ap (λ b. free ∷ b) t.undone;
      sound = and_from (is_sound_list top size free) _ e t.sound;
      weights = λ f additive. let w = t.weights f additive in omega arith;
      count = ap suc t.count;
    }

-- what a give past the lists of lower orders did
pub record GavePast (top lower size block : ℕ) (book after : Book) : Type 0 where
  pub undone : take_past lower (doubled lower size) after ≡ Some (block, book)
  pub sound : is_sound top size after ≡ true
  pub weights : (f : ℕ → ℕ → ℕ) → IsAdditive f → weight f size after ≡ f block (doubled lower size) + weight f size book
  pub count : length after ≡ length book

-- past the lists of lower orders
pub take_past_took : (top lower size : ℕ) (book : Book) → is_sound top size book ≡ true
    → TookPast top lower size book (take_past lower (doubled lower size) book)
take_past_took top zero size book e = after_first top size book (take_first size book) (take_first_took top size book e)
take_past_took top (suc lower) size [] e = tt
take_past_took top (suc lower) size (free ∷ higher) e =
    let parts = and_parts (is_sound_list top size free) _ e in
    after_below top lower size free higher parts.0 (take_past lower (doubled lower (2 * size)) higher)
    (take_past_took top lower (2 * size) higher parts.1)

pub give_past_gave : (top : ℕ) → 0 < top → (lower size block : ℕ) (book : Book) → is_sound top size book ≡ true
    → doubled (length book) size ≡ 2 * top → lower < length book → block % doubled lower size ≡ 0
    → block + doubled lower size ≤ top → GavePast top lower size block book
    (give_past lower (doubled lower size) block book)
give_past_gave top room zero size block book e ends below aligned fits =
    let gave = give_first_gave top room size block book e ends aligned fits in
    record { undone = gave.undone; sound = gave.sound; weights = gave.weights; count = gave.count }
give_past_gave top room (suc lower) size block [] e ends below aligned fits = absurd (omega arith)
give_past_gave top room (suc lower) size block (free ∷ higher) e ends below aligned fits =
    let parts = and_parts (is_sound_list top size free) _ e in
    let gave = give_past_gave top room lower (2 * size) block higher parts.1 ends (omega arith) aligned fits in
    record {
      undone = ap (below_taken free) gave.undone;
      sound = and_from (is_sound_list top size free) _ parts.0 gave.sound;
      weights = λ f additive. let w = gave.weights f additive in omega arith;
      count = ap suc gave.count;
    }
