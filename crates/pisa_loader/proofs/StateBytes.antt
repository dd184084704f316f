-- What is read as a state is its bytes, and its bytes are read as it.
use Rattle.std.proofs.Common.{◌≡◌, ℕ, ◌+◌, ◌*◌, ◌^◌, ◌<◌, Bool, true, false, cond, List, [], ◌++◌, length, Result, Ok}
use Rattle.std.proofs.Common.{Err, refl, sym, ap, subst, ◌∙◌, append_assoc, arith}
use Rattle.std.specs.Prelude.{nat_eq, IfOk}
use Rattle.std.proofs.lemmas.Bool.{eqb-true}
use Rattle.std.proofs.lemmas.Bool.Decides.{nat_tests}
use Rattle.std.proofs.lemmas.List.{append-nil, nil_from_length}
use Rattle.std.proofs.lemmas.List.Elements.{All-from_recursion, recursion_from_All}
use Rattle.pisa_machine.specs.rpp_words.Words.{IsWord}
use Rattle.pisa_machine.specs.pisa_isa.Image.{Segments}
use Rattle.pisa_machine.specs.pisa_isa.Machine.{IsState, Memory}
use Rattle.pisa_image.proofs.pisa_isa_laws.Keeps.{steps-IsState}
use Rattle.pisa_machine.specs.Position.{Position, IsMachine, first_position}
use Rattle.pisa_image.specs.declared.error.NumberError.{NumberError}
use Rattle.pisa_image.specs.Numbers.{◌>>=◌, refused_as, word_bytes, words_bytes, read_word_at, words_at}
use Rattle.pisa_image.proofs.Many.{IsBytes, Takes, Taken, takes_then, bind_ok, ok_is, many_take, many_again}
use Rattle.pisa_image.proofs.Words.{read_as, word_takes, word_again}
use Rattle.pisa_loader.specs.declared.state.TheConstants.{STATE_MARK, STATE_VERSION}
use Rattle.pisa_loader.specs.declared.error.LoadError.{LoadError}
use Rattle.pisa_loader.specs.declared.error.LoadError.TheVariants.{BadState, NoMemory}
use Rattle.pisa_loader.specs.States.{Gives, Fails, load_refusal, loaded_memory, IsMemory, state_bytes, known_word}
use Rattle.pisa_loader.specs.States.{state_at, at_start}

-- a refusal within is a refusal of the whole
pub fails_with : {X Y : Type 0} (e : LoadError) (inner : Result X LoadError) (whole : Result Y LoadError)
    → ((r : LoadError) → inner ≡ Err r → whole ≡ Err r) → Fails e inner → Fails e whole
fails_with NoMemory inner whole go f = tt
fails_with e inner whole go f = go e f

-- so many numbers of a state
abbrev state_words : (count at : ℕ) → List ℕ → Result (List ℕ × List ℕ) LoadError
state_words count at bytes = refused_as load_refusal (words_at count at bytes)

words_take : (count at : ℕ) (bytes : List ℕ) (x : List ℕ × List ℕ) → IsBytes bytes
    → state_words count at bytes ≡ Ok x → Taken word_bytes IsWord count bytes x
words_take count at bytes x fits e = many_take read_word_at 4 word_bytes IsWord word_takes count at bytes x fits
    (read_as load_refusal (words_at count at bytes) x e)

-- a test that passed
passed : {A : Type 0} (b : Bool) (d : LoadError) (x y : A) → cond b (Ok x) (Err d) ≡ Ok y → (b ≡ true) × (x ≡ y)
passed true d x y e = (refl, cc)
passed false d x y e = absurd cc

known_takes : (known at : ℕ) (bytes rest : List ℕ) → IsBytes bytes → known_word known at bytes ≡ Ok rest
    → Takes bytes (word_bytes known) rest
known_takes known at bytes rest fits e =
    let a = bind_ok (refused_as load_refusal (read_word_at at bytes))
    (λ number. cond (nat_eq number.0 known) (Ok number.1) (Err (BadState at))) rest e in
    let g = passed (nat_eq a.0.0 known) (BadState at) a.0.1 rest a.2 in
    let t = word_takes at bytes a.0 fits (read_as load_refusal (read_word_at at bytes) a.0 a.1) in
    let same : a.0.0 ≡ known = eqb-true a.0.0 known g.0 in
    subst (λ (r : List ℕ). Takes bytes (word_bytes known) r) g.1
    (subst (λ (n : ℕ). Takes bytes (word_bytes n) a.0.1) same t.0)

known_again : (known at : ℕ) (rest : List ℕ) → IsWord known → known_word known at (word_bytes known ++ rest) ≡ Ok rest
known_again known at rest w =
    let same : nat_eq known known ≡ true = grind (arith, nat_tests) in
    ap (λ (r : Result (ℕ × List ℕ) NumberError). refused_as load_refusal r >>= λ number. cond
    (nat_eq number.0 known) (Ok number.1) (Err (BadState at))) (word_again at known rest w) ∙ rw same refl

-- the five parts

pub record HasState (count : ℕ) (bytes : List ℕ) (m : Memory) : Type 0 where
  pub spelled : bytes ≡ state_bytes m
  pub is_memory : IsMemory count m

abbrev spelled_with : (count : ℕ) → Memory → List ℕ
spelled_with count m = word_bytes STATE_MARK ++ word_bytes STATE_VERSION ++ words_bytes m.regs ++ word_bytes count
    ++ words_bytes m.cells

pub state_takes : (count : ℕ) (bytes : List ℕ) (m : Memory) → IsBytes bytes → state_at count bytes ≡ Ok m
    → HasState count bytes m
unfolding state_at
state_takes count bytes m fits e =
    let a = bind_ok (known_word STATE_MARK 0 bytes) (λ marked. known_word STATE_VERSION 4 marked >>= λ versioned.
    state_words 32 8 versioned >>= λ regs. known_word count 136 regs.1 >>= λ counted. state_words count 140
    counted >>= λ cells. cond (nat_eq (length cells.1) 0) (Ok (loaded_memory regs.0 cells.0))
    (Err (BadState (140 + 4 * count)))) m e in
    let b = bind_ok (known_word STATE_VERSION 4 a.0) (λ versioned. state_words 32 8 versioned >>= λ regs. known_word
    count 136 regs.1 >>= λ counted. state_words count 140 counted >>= λ cells. cond (nat_eq (length cells.1) 0)
    (Ok (loaded_memory regs.0 cells.0)) (Err (BadState (140 + 4 * count)))) m a.2 in
    let r = bind_ok (state_words 32 8 b.0) (λ regs. known_word count 136 regs.1 >>= λ counted. state_words count 140
    counted >>= λ cells. cond (nat_eq (length cells.1) 0) (Ok (loaded_memory regs.0 cells.0))
    (Err (BadState (140 + 4 * count)))) m b.2 in
    let n = bind_ok (known_word count 136 r.0.1) (λ counted. state_words count 140 counted >>= λ cells. cond
    (nat_eq (length cells.1) 0) (Ok (loaded_memory r.0.0 cells.0)) (Err (BadState (140 + 4 * count)))) m r.2 in
    let d = bind_ok (state_words count 140 n.0) (λ cells. cond (nat_eq (length cells.1) 0)
    (Ok (loaded_memory r.0.0 cells.0))
    (Err (BadState (140 + 4 * count)))) m n.2 in
    let g = passed (nat_eq (length d.0.1) 0) (BadState (140 + 4 * count)) (loaded_memory r.0.0 d.0.0) m d.2 in
    let ta = known_takes STATE_MARK 0 bytes a.0 fits a.1 in
    let tb = known_takes STATE_VERSION 4 a.0 b.0 ta.rest_fits b.1 in
    let tr = words_take 32 8 b.0 r.0 tb.rest_fits r.1 in
    let tn = known_takes count 136 r.0.1 n.0 tr.0.rest_fits n.1 in
    let td = words_take count 140 n.0 d.0 tn.rest_fits d.1 in
    let nothing : d.0.1 ≡ [] = nil_from_length d.0.1 (eqb-true (length d.0.1) 0 g.0) in
    let ab = takes_then bytes (word_bytes STATE_MARK) a.0 (word_bytes STATE_VERSION) b.0 ta tb in
    let ar = takes_then bytes (word_bytes STATE_MARK ++ word_bytes STATE_VERSION) b.0 (words_bytes r.0.0) r.0.1 ab tr.0
    in
    let an = takes_then bytes (word_bytes STATE_MARK ++ word_bytes STATE_VERSION ++ words_bytes r.0.0) r.0.1
    (word_bytes count) n.0 ar tn in
    let ad = takes_then bytes (word_bytes STATE_MARK ++ word_bytes STATE_VERSION ++ words_bytes r.0.0
    ++ word_bytes count) n.0 (words_bytes d.0.0) d.0.1 an td.0 in
    let made : Memory = loaded_memory r.0.0 d.0.0 in
    let whole : bytes ≡ spelled_with count made = ad.parts ∙ ap (λ (t : List ℕ). spelled_with count made ++ t) nothing
    ∙ append-nil (spelled_with count made) in
    let counted : bytes ≡ state_bytes made = whole ∙ ap (λ (k : ℕ). spelled_with k made) (sym td.1) in
    subst (HasState count bytes) g.1 (record {
      spelled = counted;
      is_memory = record {
        registers = tr.1;
        size = td.1;
        register_words = All-from_recursion IsWord r.0.0 tr.2;
        cell_words = All-from_recursion IsWord d.0.0 td.2;
      };
    })

pub state_again : (count : ℕ) (m : Memory) → count < 2 ^ 32 → IsMemory count m → state_at count (state_bytes m) ≡ Ok m
unfolding state_at
state_again count m low i =
    let regs : List ℕ = m.regs in
    let cells : List ℕ = m.cells in
    let r5 : List ℕ = words_bytes cells in
    let r4 : List ℕ = word_bytes count ++ r5 in
    let r3 : List ℕ = words_bytes regs ++ r4 in
    let r2 : List ℕ = word_bytes STATE_VERSION ++ r3 in
    let counted : state_bytes m ≡ spelled_with count m = ap (λ (k : ℕ). spelled_with k m) i.size in
    let grouped : spelled_with count m ≡ word_bytes STATE_MARK ++ r2 =
    append_assoc (word_bytes STATE_MARK ++ word_bytes STATE_VERSION ++ words_bytes regs) (word_bytes count) r5
    ∙ append_assoc (word_bytes STATE_MARK ++ word_bytes STATE_VERSION) (words_bytes regs) r4 in
    let a : known_word STATE_MARK 0 (word_bytes STATE_MARK ++ r2) ≡ Ok r2 = known_again STATE_MARK 0 r2 (omega arith) in
    let b : known_word STATE_VERSION 4 r2 ≡ Ok r3 = known_again STATE_VERSION 4 r3 (omega arith) in
    let first : words_at 32 8 r3 ≡ Ok (regs, r4) = ap (λ (k : ℕ). words_at k 8 r3) (sym i.registers)
    ∙ many_again read_word_at 4 word_bytes IsWord word_again regs 8 r4
    (recursion_from_All IsWord regs i.register_words) in
    let n : known_word count 136 r4 ≡ Ok r5 = known_again count 136 r5 low in
    let second : words_at count 140 r5 ≡ Ok (cells, []) =
    ap (λ (k : ℕ). words_at k 140 r5) (sym i.size)
    ∙ ap (words_at (length cells) 140) (sym (append-nil r5))
    ∙ many_again read_word_at 4 word_bytes IsWord word_again cells 140 []
    (recursion_from_All IsWord cells i.cell_words) in
    ap (state_at count) (counted ∙ grouped) ∙ rw (a, b, first, n, second) refl

-- for the contracts

pub machine_is_state : (p : Position) → IsMachine p → IsState p.state
machine_is_state p i = steps-IsState p.image.code p.made _ p.state i.is_image.is_code i.reached.is_state
    i.reached.reaches

at_start_is : (image : Segments) (read : Result Memory LoadError) (p : Position) → at_start image read ≡ Ok p
    → (m : Memory) × (read ≡ Ok m) × (first_position image m.regs m.cells ≡ p)
at_start_is image (Ok m) p e = (m, refl, ok_is {E = LoadError} (first_position image m.regs m.cells) p e)
at_start_is image (Err x) p e = absurd cc

pub record IsRead (image : Segments) (count : ℕ) (bytes : List ℕ) (p : Position) : Type 0 where
  pub spelled : bytes ≡ state_bytes (loaded_memory p.state.regs p.state.cells)
  pub size : length p.state.cells ≡ count

pub is_read : (image : Segments) (count : ℕ) (bytes : List ℕ) (p : Position) → IsBytes bytes
    → at_start image (state_at count bytes) ≡ Ok p → IsRead image count bytes p
is_read image count bytes p fits e =
    let a = at_start_is image (state_at count bytes) p e in
    let h = state_takes count bytes a.0 fits a.1 in
    subst (IsRead image count bytes) a.2 (record { spelled = h.spelled; size = h.is_memory.size })

pub is_found : (image : Segments) (count : ℕ) (bytes : List ℕ) (r : Result Position LoadError) → IsBytes bytes
    → Gives (λ p. p) r (at_start image (state_at count bytes))
    → IfOk r (λ p. bytes ≡ state_bytes (loaded_memory p.state.regs p.state.cells))
is_found image count bytes (Ok p) fits given = (is_read image count bytes p fits given).spelled
is_found image count bytes (Err e) fits given = tt

pub is_sized : (image : Segments) (count : ℕ) (bytes : List ℕ) (r : Result Position LoadError) → IsBytes bytes
    → Gives (λ p. p) r (at_start image (state_at count bytes))
    → IfOk r (λ p. length p.state.cells ≡ count)
is_sized image count bytes (Ok p) fits given = (is_read image count bytes p fits given).size
is_sized image count bytes (Err e) fits given = tt

pub start_again : (image : Segments) (count : ℕ) (m : Memory) (bytes : List ℕ) → count < 2 ^ 32 → IsMemory count m
    → bytes ≡ state_bytes m
    → at_start image (state_at count bytes) ≡ Ok (first_position image m.regs m.cells)
start_again image count m bytes low i e = ap (at_start image) (ap (state_at count) e ∙ state_again count m low i)

pub saved_memory : (p : Position) → IsMachine p → IsMemory (length p.state.cells)
    (loaded_memory p.state.regs p.state.cells)
saved_memory p i =
    let s = machine_is_state p i in
    record { registers = s.count; size = refl; register_words = s.words; cell_words = s.cell_words }
