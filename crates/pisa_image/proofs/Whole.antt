-- What is read as an image is its bytes, and its bytes are read as it.
use Rattle.std.proofs.Common.{◌≡◌, ℕ, ◌+◌, ◌*◌, ◌≤◌, Bool, true, false, cond, eqb, List, [], ◌∷◌, ◌++◌}
use Rattle.std.proofs.Common.{length, Option, Some, None, Result, Ok, Err, refl, sym, ap, subst, ◌∙◌, append_assoc}
use Rattle.std.proofs.Common.{arith, inl, inr}
use Rattle.std.specs.Prelude.{◌⊎◌, count_by, nat_eq, IfOk}
use Rattle.std.specs.List.{All, flat_map, AllByRecursion}
use Rattle.std.proofs.lemmas.Bool.{eqb-true}
use Rattle.std.proofs.lemmas.Bool.Decides.{nat_tests}
use Rattle.std.proofs.lemmas.List.{append-nil, nil_from_length}
use Rattle.std.proofs.lemmas.List.Elements.{recursion_from_All}
use Rattle.std.proofs.lemmas.List.Sums.{sum_by-cons}
use Rattle.pisa_isa.specs.rpp_words.Words.{IsWord}
use Rattle.pisa_isa.specs.declared.cell.Op.{Op}
use Rattle.pisa_isa.specs.declared.cell.Op.TheVariants.{Start}
use Rattle.pisa_isa.specs.declared.cell.Cell.{Cell}
use Rattle.pisa_isa.specs.declared.image.TheConstants.{MOST_CELLS, MOST_STATICS}
use Rattle.pisa_isa.specs.declared.image.SealError.{SealError}
use Rattle.pisa_isa.specs.declared.image.SealError.TheVariants as seal
use Rattle.pisa_isa.specs.Table.{IsCell}
use Rattle.pisa_isa.specs.Notes.{NoteLists, NotedImage, no_notes, fits}
use Rattle.pisa_isa.specs.Image.{Segments, IsImage, is_start_op, is_finish_op, is_start, is_finish, refusal_by}
use Rattle.pisa_isa.specs.Image.{first_seal_refusal}
use Rattle.pisa_image.specs.declared.reading.TheConstants.{MARK, VERSION, OLD_VERSION}
use Rattle.pisa_image.specs.declared.error.ImageError.{ImageError}
use Rattle.pisa_image.specs.declared.error.ImageError.TheVariants.{NoStart, NoFinish, ImageMagic}
use Rattle.pisa_image.specs.declared.error.ImageError.TheVariants.{ImageTrailing, NoMemory}
use Rattle.pisa_image.specs.Numbers.{◌>>=◌, refused_as, word_bytes, words_bytes, read_word_at, words_at}
use Rattle.pisa_image.specs.ImageBytes.{cell_bytes, header_bytes, segment_bytes, notes_bytes, image_bytes}
use Rattle.pisa_image.specs.ImageBytes.{old_image_bytes, AreBytesOf}
use Rattle.pisa_image.specs.Reading.{ImageGives, ImageFails, tested_word, number_between, cell_at, cells_at, header_at}
use Rattle.pisa_image.specs.Reading.{segments}
use Rattle.pisa_image.specs.Reading.{segments_at, notes_of, notes_at, ended, sealed, noted, noted_at, image_at}
use Rattle.pisa_image.specs.Reading.{number_refusal, is_of_counts, as_image_error}
use Rattle.pisa_image.proofs.Many.{IsBytes, Takes, takes_then, bind_ok, ok_is, many_take, many_again}
use Rattle.pisa_image.proofs.Words.{read_as, word_takes, word_again}
use Rattle.pisa_image.proofs.NoteBytes.{between_takes, between_again, notes_take, notes_again}
use Rattle.pisa_image.proofs.Cells.{passed, tested_takes, tested_again, cell_takes, cell_again}
use Rattle.pisa_isa.proofs.Sealed.{every_one_to_one}

-- the header

record HasHeader (bytes : List ℕ) (x : ℕ × ℕ × ℕ × List ℕ) : Type 0 where
  takes : Takes bytes (header_bytes x.0 x.1 x.2) x.3
  from_old : OLD_VERSION ≤ x.0
  to_new : x.0 ≤ VERSION

abbrev is_mark : ℕ → Bool
is_mark n = nat_eq n MARK

header_takes : (bytes : List ℕ) (x : ℕ × ℕ × ℕ × List ℕ) → IsBytes bytes → header_at bytes ≡ Ok x → HasHeader bytes x
unfolding header_at
header_takes bytes x fits e =
    let a = bind_ok (tested_word is_mark (ImageMagic 0) 0 bytes)
    (λ mark. number_between OLD_VERSION VERSION 4 mark.1 >>= λ version. number_between 2 MOST_CELLS 8 version.1 >>=
    λ cells. number_between 0 MOST_STATICS 12 cells.1 >>= λ statics. Ok
    (version.0, cells.0, statics.0, statics.1)) x e in
    let b = bind_ok (number_between OLD_VERSION VERSION 4 a.0.1)
    (λ version. number_between 2 MOST_CELLS 8 version.1 >>= λ cells. number_between 0 MOST_STATICS 12 cells.1 >>= λ
    statics. Ok (version.0, cells.0, statics.0, statics.1)) x a.2 in
    let c = bind_ok (number_between 2 MOST_CELLS 8 b.0.1)
    (λ cells. number_between 0 MOST_STATICS 12 cells.1 >>= λ statics. Ok (b.0.0, cells.0, statics.0, statics.1)) x
    b.2 in
    let d = bind_ok (number_between 0 MOST_STATICS 12 c.0.1) (λ statics. Ok (b.0.0, c.0.0, statics.0, statics.1)) x c.2
    in
    let ta = tested_takes is_mark (ImageMagic 0) 0 bytes a.0 fits a.1 in
    let tb = between_takes OLD_VERSION VERSION 4 a.0.1 b.0 ta.0.rest_fits b.1 in
    let tc = between_takes 2 MOST_CELLS 8 b.0.1 c.0 tb.takes.rest_fits c.1 in
    let td = between_takes 0 MOST_STATICS 12 c.0.1 d.0 tc.takes.rest_fits d.1 in
    let mark : a.0.0 ≡ MARK = eqb-true a.0.0 MARK ta.2 in
    let ab = takes_then bytes (word_bytes a.0.0) a.0.1 (word_bytes b.0.0) b.0.1 ta.0 tb.takes in
    let ac = takes_then bytes (word_bytes a.0.0 ++ word_bytes b.0.0) b.0.1 (word_bytes c.0.0) c.0.1 ab tc.takes in
    let ad = takes_then bytes (word_bytes a.0.0 ++ word_bytes b.0.0 ++ word_bytes c.0.0) c.0.1 (word_bytes d.0.0) d.0.1
    ac td.takes in
    let made : ℕ × ℕ × ℕ × List ℕ = (b.0.0, c.0.0, d.0.0, d.0.1) in
    let marked : Takes bytes (word_bytes MARK ++ word_bytes b.0.0 ++ word_bytes c.0.0 ++ word_bytes d.0.0) d.0.1 =
    subst (λ (n : ℕ). Takes bytes (word_bytes n ++ word_bytes b.0.0 ++ word_bytes c.0.0 ++ word_bytes d.0.0) d.0.1) mark
    ad in
    subst (HasHeader bytes) (ok_is made x d.2) (record { takes = marked; from_old = tb.from; to_new = tb.to })

header_again : (version cells statics : ℕ) (rest : List ℕ) → OLD_VERSION ≤ version → version ≤ VERSION → 2 ≤ cells
    → cells ≤ MOST_CELLS → statics ≤ MOST_STATICS
    → header_at (header_bytes version cells statics ++ rest) ≡ Ok (version, cells, statics, rest)
unfolding header_at
header_again version cells statics rest from_old to_new two most few =
    let r3 : List ℕ = word_bytes statics ++ rest in
    let r2 : List ℕ = word_bytes cells ++ r3 in
    let r1 : List ℕ = word_bytes version ++ r2 in
    let a : tested_word is_mark (ImageMagic 0) 0 (word_bytes MARK ++ r1) ≡ Ok (MARK, r1) =
    tested_again is_mark (ImageMagic 0) 0 MARK r1 (omega arith) refl in
    let b : number_between OLD_VERSION VERSION 4 r1 ≡ Ok (version, r2) =
    between_again OLD_VERSION VERSION 4 version r2 from_old to_new (omega arith) in
    let c : number_between 2 MOST_CELLS 8 r2 ≡ Ok (cells, r3) =
    between_again 2 MOST_CELLS 8 cells r3 two most (omega arith) in
    let d : number_between 0 MOST_STATICS 12 r3 ≡ Ok (statics, rest) =
    between_again 0 MOST_STATICS 12 statics rest (omega arith) few (omega arith) in
    rw (a, b, c, d) refl

-- the code and the static cells

pub record HasSegments (cells statics : ℕ) (bytes : List ℕ) (x : Segments × List ℕ) : Type 0 where
  pub takes : Takes bytes (flat_map cell_bytes x.0.code ++ words_bytes x.0.statics) x.1
  pub cell_count : length x.0.code ≡ cells
  pub static_count : length x.0.statics ≡ statics
  pub are_cells : AllByRecursion IsCell x.0.code

pub segments_take : (cells statics : ℕ) (bytes : List ℕ) (x : Segments × List ℕ) → IsBytes bytes
    → segments_at cells statics bytes ≡ Ok x → HasSegments cells statics bytes x
unfolding segments_at
segments_take cells statics bytes x fits e =
    let from : ℕ = 16 + 8 * cells in
    let a = bind_ok (cells_at cells 16 bytes) (λ code. refused_as number_refusal (words_at statics from code.1)
    >>= λ words. Ok (segments code.0 words.0, words.1)) x e in
    let b = bind_ok (refused_as number_refusal (words_at statics from a.0.1))
    (λ words. Ok (segments a.0.0 words.0, words.1)) x a.2 in
    let code = many_take cell_at 8 cell_bytes IsCell cell_takes cells 16 bytes a.0 fits a.1 in
    let words = many_take read_word_at 4 word_bytes IsWord word_takes statics from a.0.1 b.0 code.0.rest_fits
    (read_as number_refusal (words_at statics from a.0.1) b.0 b.1) in
    let made : Segments × List ℕ = (segments a.0.0 b.0.0, b.0.1) in
    subst (HasSegments cells statics bytes) (ok_is made x b.2) (record {
      takes = takes_then bytes (flat_map cell_bytes a.0.0) a.0.1 (words_bytes b.0.0) b.0.1 code.0 words.0;
      cell_count = code.1;
      static_count = words.1;
      are_cells = code.2;
    })

segments_again : (code : List Cell) (statics rest : List ℕ) → AllByRecursion IsCell code → AllByRecursion IsWord statics
    → segments_at (length code) (length statics) (flat_map cell_bytes code ++ (words_bytes statics ++ rest))
    ≡ Ok (segments code statics, rest)
unfolding segments_at
segments_again code statics rest are_cells are_words =
    let from : ℕ = 16 + 8 * length code in
    let words : words_at (length statics) from (words_bytes statics ++ rest) ≡ Ok (statics, rest) =
    many_again read_word_at 4 word_bytes IsWord word_again statics from rest are_words in
    rw (many_again cell_at 8 cell_bytes IsCell cell_again code 16 (words_bytes statics ++ rest) are_cells, words) refl

-- the seal

by_counts : (code : List Cell) → All IsCell code → first_seal_refusal code
    ≡ refusal_by None (count_by is_start code) (count_by is_finish code)
by_counts code cells = ap (λ o. refusal_by o (count_by is_start code) (count_by is_finish code))
    (every_one_to_one code cells)

abbrev refused : Bool → Bool → Option SealError
refused starts finishes = cond starts (cond finishes None (Some seal.NoFinish)) (Some seal.NoStart)

abbrev judged : Bool → Bool → Segments → Result Segments ImageError
judged starts finishes image = cond starts (cond finishes (Ok image) (Err NoFinish)) (Err NoStart)

record IsCounted (starts finishes : Bool) (image : Segments) (refusal : SealError) : Type 0 where
  counted : is_of_counts refusal ≡ true
  same : ImageFails (as_image_error refusal) (judged starts finishes image)

counts_refuse : (starts finishes : Bool) (image : Segments) (refusal : SealError)
    → refused starts finishes ≡ Some refusal → IsCounted starts finishes image refusal
counts_refuse true true image refusal e = absurd cc
counts_refuse true false image refusal e = let same : the_finish ≡ refusal = cc in
    subst (IsCounted true false image) same (record { counted = refl; same = refl })
  where
    the_finish : SealError
    the_finish = seal.NoFinish
counts_refuse false finishes image refusal e = let same : the_start ≡ refusal = cc in
    subst (IsCounted false finishes image) same (record { counted = refl; same = refl })
  where
    the_start : SealError
    the_start = seal.NoStart

pub is_refused : (code : List Cell) (statics : List ℕ) (refusal : SealError) → All IsCell code
    → first_seal_refusal code ≡ Some refusal
    → (is_of_counts refusal ≡ true) × ImageFails (as_image_error refusal) (sealed (segments code statics))
is_refused code statics refusal cells e =
    let h = counts_refuse (nat_eq (count_by is_start code) 1) (nat_eq (count_by is_finish code) 1)
    (segments code statics) refusal (sym (by_counts code cells) ∙ e) in
    (h.counted, h.same)

-- the whole

sealed_is : (starts finishes : Bool) (image x : Segments) → judged starts finishes image ≡ Ok x → image ≡ x
sealed_is true true image x e = cc
sealed_is true false image x e = absurd cc
sealed_is false finishes image x e = absurd cc

-- the notes that end the bytes, by the version
record HasNotes (version : ℕ) (image : Segments) (bytes : List ℕ) (n : NotedImage) : Type 0 where
  same_image : n.image ≡ image
  by_version : ((version ≡ OLD_VERSION) × (n.notes ≡ no_notes) × (bytes ≡ []))
      ⊎ ((version ≡ OLD_VERSION → ⊥) × (bytes ≡ notes_bytes n.notes))

notes_by_version : (version cells statics at : ℕ) (bytes : List ℕ) (x : NoteLists × ℕ × List ℕ) → IsBytes bytes
    → notes_of version cells statics at bytes ≡ Ok x
    → ((version ≡ OLD_VERSION) × (x.0 ≡ no_notes) × (bytes ≡ x.2))
    ⊎ ((version ≡ OLD_VERSION → ⊥) × Takes bytes (notes_bytes x.0) x.2)
notes_by_version version cells statics at bytes x fits e = by (nat_eq version OLD_VERSION) refl e
  where
    none : NoteLists × ℕ × List ℕ
    none = (no_notes, at, bytes)

    differs : (v : ℕ) → nat_eq v OLD_VERSION ≡ false → v ≡ OLD_VERSION → ⊥
    differs v f t = grind (arith, nat_tests)

    by : (b : Bool) → nat_eq version OLD_VERSION ≡ b → cond b (Ok none) (notes_at cells statics at bytes) ≡ Ok x
        → ((version ≡ OLD_VERSION) × (x.0 ≡ no_notes) × (bytes ≡ x.2))
        ⊎ ((version ≡ OLD_VERSION → ⊥) × Takes bytes (notes_bytes x.0) x.2)
    by true t e =
        let same : none ≡ x = ok_is none x e in
        inl (
          eqb-true version OLD_VERSION t,
          sym (ap (λ (y : NoteLists × ℕ × List ℕ). y.0) same),
          ap (λ (y : NoteLists × ℕ × List ℕ). y.2) same,
        )
    by false t e = inr (differs version t, (notes_take cells statics at bytes x fits e).takes)

noted_takes : (version cells statics : ℕ) (image : Segments) (bytes : List ℕ) (n : NotedImage) → IsBytes bytes
    → noted_at version cells statics image bytes ≡ Ok n → HasNotes version image bytes n
unfolding noted_at
noted_takes version cells statics image bytes n fits e =
    let from : ℕ = 16 + 8 * cells + 4 * statics in
    let a = bind_ok (notes_of version cells statics from bytes)
    (λ notes. ended notes.0 notes.1 notes.2 >>= λ whole. sealed image >>= λ known. Ok (noted whole known)) n e in
    let b = bind_ok (ended a.0.0 a.0.1 a.0.2) (λ whole. sealed image >>= λ known. Ok (noted whole known)) n a.2 in
    let c = bind_ok (sealed image) (λ known. Ok (noted b.0 known)) n b.2 in
    let g = passed (eqb (length a.0.2) 0) (ImageTrailing a.0.1) a.0.0 b.0 b.1 in
    let nothing : a.0.2 ≡ [] = nil_from_length a.0.2 (eqb-true (length a.0.2) 0 g.0) in
    let known : image ≡ c.0 = sealed_is (nat_eq (count_by is_start image.code) 1)
    (nat_eq (count_by is_finish image.code) 1) image c.0 c.1 in
    let made : NotedImage = noted b.0 c.0 in
    let first : Segments = c.0 in
    let by : ((version ≡ OLD_VERSION) × (b.0 ≡ no_notes) × (bytes ≡ []))
    ⊎ ((version ≡ OLD_VERSION → ⊥) × (bytes ≡ notes_bytes b.0)) =
    elim (notes_by_version version cells statics from bytes a.0 fits a.1) [
      | inl p ↦ inl (p.0, sym g.1 ∙ p.1, p.2 ∙ nothing)
      | inr p ↦ inr (
        p.0,
        p.1.parts ∙ ap (λ (t : List ℕ). notes_bytes a.0.0 ++ t) nothing
            ∙ append-nil (notes_bytes a.0.0) ∙ ap notes_bytes g.1,
      )
    ] in
    subst (HasNotes version image bytes) (ok_is made n c.2) (record { same_image = sym known; by_version = by })

is_new : (v : ℕ) → OLD_VERSION ≤ v → v ≤ VERSION → (v ≡ OLD_VERSION → ⊥) → v ≡ VERSION
is_new v from to differs = omega (arith, differs)

same_bytes : (n : NotedImage) (version : ℕ) (image : Segments) (bytes rest : List ℕ) → HasNotes version image rest n
    → OLD_VERSION ≤ version → version ≤ VERSION
    → bytes ≡ segment_bytes version image ++ rest → AreBytesOf n bytes
same_bytes n version image bytes rest h from to e =
    let here : bytes ≡ segment_bytes version n.image ++ rest = e
    ∙ ap (λ (i : Segments). segment_bytes version i ++ rest) (sym h.same_image) in
    elim h.by_version [
      | inl p ↦ inr (
        p.1,
        here ∙ ap (λ (t : List ℕ). segment_bytes version n.image ++ t) p.2
            ∙ append-nil (segment_bytes version n.image) ∙ ap (λ (v : ℕ). segment_bytes v n.image) p.0,
      )
      | inr p ↦ inl (here ∙ ap (λ (t : List ℕ). segment_bytes version n.image ++ t) p.1
          ∙ ap (λ (v : ℕ). segment_bytes v n.image ++ notes_bytes n.notes) (is_new version from to p.0))
    ]

pub image_takes : (bytes : List ℕ) (n : NotedImage) → IsBytes bytes → image_at bytes ≡ Ok n → AreBytesOf n bytes
unfolding image_at
image_takes bytes n fits e =
    let a = bind_ok (header_at bytes) (λ header. segments_at header.1 header.2 header.3 >>= λ body. noted_at header.0
    header.1 header.2 body.0 body.1) n e in
    let b = bind_ok (segments_at a.0.1 a.0.2 a.0.3) (λ body. noted_at a.0.0 a.0.1 a.0.2 body.0 body.1) n a.2 in
    let head = header_takes bytes a.0 fits a.1 in
    let body = segments_take a.0.1 a.0.2 a.0.3 b.0 head.takes.rest_fits b.1 in
    let notes = noted_takes a.0.0 a.0.1 a.0.2 b.0.0 b.0.1 n body.takes.rest_fits b.2 in
    let both = (takes_then bytes (header_bytes a.0.0 a.0.1 a.0.2) a.0.3
    (flat_map cell_bytes b.0.0.code ++ words_bytes b.0.0.statics) b.0.1 head.takes body.takes).parts in
    let flat : bytes ≡ (header_bytes a.0.0 a.0.1 a.0.2 ++ flat_map cell_bytes b.0.0.code ++ words_bytes b.0.0.statics)
    ++ b.0.1 =
    both ∙ ap (λ (t : List ℕ). t ++ b.0.1) (sym (append_assoc (header_bytes a.0.0 a.0.1 a.0.2)
    (flat_map cell_bytes b.0.0.code) (words_bytes b.0.0.statics))) in
    let counted : bytes ≡ segment_bytes a.0.0 b.0.0 ++ b.0.1 =
    flat ∙ ap (λ (k : ℕ). (header_bytes a.0.0 k a.0.2 ++ flat_map cell_bytes b.0.0.code ++ words_bytes b.0.0.statics)
    ++ b.0.1) (sym body.cell_count)
    ∙ ap (λ (k : ℕ). (header_bytes a.0.0 (length b.0.0.code) k ++ flat_map cell_bytes b.0.0.code
    ++ words_bytes b.0.0.statics) ++ b.0.1) (sym body.static_count) in
    same_bytes n a.0.0 b.0.0 bytes b.0.1 notes head.from_old head.to_new counted

not_both : (op : Op) → is_start_op op ≡ true → is_finish_op op ≡ true → ⊥
not_both Start s f = cc
not_both _ s f = cc

one_of : (b : Bool) (n : ℕ) → n ≡ 1 → cond b 1 0 ≡ n → b ≡ true
one_of true n h e = refl
one_of false n h e = absurd (omega arith)

count_one : (p : Cell → Bool) (c : Cell) → cond (p c) 1 0 ≡ count_by p (c ∷ [])
count_one p c = omega (arith, sum_by-cons (λ x. cond (p x) 1 0) c [])

two_cells : (code : List Cell) → count_by is_start code ≡ 1 → count_by is_finish code ≡ 1 → 2 ≤ length code
two_cells [] s f = absurd (omega arith)
two_cells (c ∷ []) s f = absurd (not_both c.op (one_of (is_start c) (count_by is_start (c ∷ [])) s
    (count_one is_start c)) (one_of (is_finish c) (count_by is_finish (c ∷ [])) f (count_one is_finish c)))
two_cells (c ∷ d ∷ code) s f = omega arith

abbrev counts : Segments → NoteLists → Result NotedImage ImageError
counts image notes = sealed image >>= λ known. Ok (noted notes known)

sealed_again : (image : Segments) (notes : NoteLists) → IsImage image → counts image notes ≡ Ok (noted notes image)
sealed_again image notes i = rw (i.one_start, i.one_finish) refl

-- the segments at the beginning of these bytes are read
front_again : (version : ℕ) (image : Segments) (rest : List ℕ) → IsImage image → All IsWord image.statics
    → OLD_VERSION ≤ version → version ≤ VERSION
    → image_at (segment_bytes version image ++ rest) ≡ noted_at version (length image.code) (length image.statics) image
    rest
unfolding image_at
front_again version image rest i words from to =
    let code = image.code in
    let statics = image.statics in
    let cells : List ℕ = flat_map cell_bytes code in
    let behind : List ℕ = cells ++ (words_bytes statics ++ rest) in
    let grouped : segment_bytes version image ++ rest ≡ header_bytes version (length code) (length statics) ++ behind =
    append_assoc (header_bytes version (length code) (length statics) ++ cells) (words_bytes statics) rest
    ∙ append_assoc (header_bytes version (length code) (length statics)) cells (words_bytes statics ++ rest) in
    let head : header_at (segment_bytes version image ++ rest) ≡ Ok (version, length code, length statics, behind) =
    ap header_at grouped ∙ header_again version (length code) (length statics) behind from to
    (two_cells code i.one_start i.one_finish) i.is_code.in_limit i.statics_in_limit in
    let body : segments_at (length code) (length statics) behind ≡ Ok (image, rest) =
    segments_again code statics rest (recursion_from_All IsCell code i.is_code.cells)
    (recursion_from_All IsWord statics words) in
    rw (head, body) refl

pub image_again : (n : NotedImage) → IsImage n.image → fits n.image n.notes ≡ true → All IsWord n.image.statics
    → image_at (image_bytes n) ≡ Ok n
unfolding noted_at
image_again n i fit words =
    let cells = length n.image.code in
    let statics = length n.image.statics in
    let notes = notes_again cells statics (16 + 8 * cells + 4 * statics) n.notes i.is_code.in_limit i.statics_in_limit
    fit in
    front_again VERSION n.image (notes_bytes n.notes) i words (omega arith) (omega arith)
    ∙ rw notes (sealed_again n.image n.notes i)

pub old_again : (image : Segments) → IsImage image → All IsWord image.statics
    → image_at (old_image_bytes image) ≡ Ok (noted no_notes image)
unfolding noted_at
old_again image i words =
    ap image_at (sym (append-nil (old_image_bytes image)))
    ∙ front_again OLD_VERSION image [] i words (omega arith) (omega arith)
    ∙ sealed_again image no_notes i

-- for the contract of the reader

pub is_found : (bytes : List ℕ) (r : Result NotedImage ImageError) → IsBytes bytes
    → ImageGives (λ n. n) r (image_at bytes)
    → IfOk r (λ n. AreBytesOf n bytes)
is_found bytes (Ok x) fits given = image_takes bytes x fits given
is_found bytes (Err e) fits given = tt

-- a refusal within is a refusal of the whole
pub fails_with : {X Y : Type 0} (e : ImageError) (inner : Result X ImageError) (whole : Result Y ImageError)
    → ((r : ImageError) → inner ≡ Err r → whole ≡ Err r) → ImageFails e inner → ImageFails e whole
fails_with NoMemory inner whole go f = tt
fails_with e inner whole go f = go e f
