-- What `link` writes, one routine after another.
use Rattle.std.proofs.Common.{◌≡◌, ℕ, zero, suc, ◌+◌, ◌^◌, ◌<◌, ◌≤◌, List, [], ◌∷◌, ◌++◌, length, refl, sym, ap, ◌∙◌}
use Rattle.std.proofs.Common.{subst, arith, length-append, append_assoc, take, drop, get_or, true, false, Some, None}
use Rattle.std.specs.Prelude.{not, cond, nat_lt, position, count_by}
use Rattle.std.specs.List.{All, position_or_len}
use Rattle.std.proofs.lemmas.Bool.Decides.{nat_tests}
use Rattle.code_conventions.specs.pisa_isa.declared.cell.Cell.{Cell}
use Rattle.paired_code.specs.Cells.{start_cell, finish}
use Rattle.paired_code.specs.declared.part.Symbol.{Symbol}
use Rattle.paired_code.specs.Link.{link_positions, linked, routine_code, routines_code, routines_size, first_top}
use Rattle.paired_code.specs.Link.{link_code}
use Rattle.paired_code.specs.Link.{link_size, Linked}
use Rattle.paired_code.specs.Fit.{AllSymbolsFit, EachFit}
use Rattle.paired_code.specs.Code.{Code, bodies}
use Rattle.code_conventions.specs.pisa_isa.declared.image.TheConstants.{MOST_CELLS}
use Rattle.code_conventions.specs.pisa_isa.declared.image.SealError.{SealError}
use Rattle.code_conventions.specs.pisa_isa.Table.{IsCell, IsInRange, is_one_to_one}
use Rattle.code_conventions.specs.pisa_isa.Image.{is_start, is_finish, refusal_by, first_seal_refusal}
use Rattle.paired_code.proofs.Linking.{length-routine, length-linked, length-link}
use Rattle.paired_code.proofs.Whole.{linked_law, cells_all, one_start, one_finish}

drop_suc : (xs : List Code) (i : ℕ) (x : Code) → i < length xs → x ≡ get_or xs i x
    → bodies (drop i xs) ≡ x.cells ∷ bodies (drop (suc i) xs)
drop_suc [] i x l e = absurd (omega arith)
drop_suc (y ∷ ys) zero x l e = ap (λ (z : Code). z.cells ∷ bodies ys) (sym e)
drop_suc (y ∷ ys) (suc i) x l e = drop_suc ys i x (omega arith) e

bodies_drop : (xs : List Code) (i : ℕ) (x : Code) → i < length xs → x ≡ get_or xs i x
    → bodies (drop i xs) ≡ x.cells ∷ bodies (drop (i + 1) xs)
bodies_drop xs i x l e = let k : suc i ≡ i + 1 = omega arith in drop_suc xs i x l e
    ∙ ap (λ n. x.cells ∷ bodies (drop n xs)) k

fit_suc : (xs : List Code) (i : ℕ) (x : Code) → i < length xs → x ≡ get_or xs i x → AllSymbolsFit x.cells
    → EachFit (bodies (take i xs)) → EachFit (bodies (take (suc i) xs))
fit_suc [] i x l e h k = absurd (omega arith)
fit_suc (y ∷ ys) zero x l e h k = (subst (λ (z : Code). AllSymbolsFit z.cells) e h, tt)
fit_suc (y ∷ ys) (suc i) x l e h k = (k.0, fit_suc ys i x (omega arith) e h k.1)

pub fit_take : (xs : List Code) (i : ℕ) (x : Code) → i < length xs → x ≡ get_or xs i x → AllSymbolsFit x.cells
    → EachFit (bodies (take i xs)) → EachFit (bodies (take (i + 1) xs))
fit_take xs i x l e h k = let q : suc i ≡ i + 1 = omega arith in
    subst (λ n. EachFit (bodies (take n xs))) q (fit_suc xs i x l e h k)

pub routines_step : (rs : List ℕ) (xs : List Code) (i : ℕ) (x : Code) (old new all : List Cell) (cells : List Symbol)
    → i < length xs → x ≡ get_or xs i x → cells ≡ x.cells → new ≡ old ++ routine_code rs (length old) cells
    → old ++ routines_code rs (length old) (bodies (drop i xs)) ≡ all
    → length old + routines_size (bodies (drop i xs)) < 2 ^ 30
    → (new ++ routines_code rs (length new) (bodies (drop (i + 1) xs)) ≡ all)
    × (length new + routines_size (bodies (drop (i + 1) xs)) < 2 ^ 30)
routines_step rs xs i x old new all cells l e c n a s =
    let t = length old in
    let more = bodies (drop (i + 1) xs) in
    let b = bodies_drop xs i x l e in
    let n' : new ≡ old ++ routine_code rs t x.cells = n ∙ ap (λ z. old ++ routine_code rs t z) c in
    let len : length new ≡ t + 1 + 1 + 1 + length x.cells + 1 = ap length n'
    ∙ (omega (arith, length-append old (routine_code rs t x.cells), length-routine rs t x.cells)) in
    let size : routines_size (bodies (drop i xs)) ≡ length x.cells + 4 + routines_size more = ap routines_size b in (
      ap (λ z. z ++ routines_code rs (length new) more) n'
          ∙ ap (λ k. (old ++ routine_code rs t x.cells) ++ routines_code rs k more) len
          ∙ append_assoc old (routine_code rs t x.cells) _ ∙ ap (λ z. old ++ routines_code rs t z) (sym b) ∙ a,
      omega arith,
    )

pub pushed : (old new : List Cell) (x y : Cell) → x ≡ y → new ≡ old ++ x ∷ [] → new ≡ old ++ y ∷ []
pushed old new x y e h = h ∙ ap (λ (z : Cell). old ++ z ∷ []) e

pub head_built : (rs : List ℕ) (main cells : List Symbol) (c0 c1 c2 c3 : List Cell) → cells ≡ main → c0 ≡ []
    → c1 ≡ c0 ++ start_cell ∷ [] → c2 ≡ c1 ++ linked rs (length c1) cells → c3 ≡ c2 ++ finish ∷ []
    → c3 ≡ (start_cell ∷ linked rs 1 main) ++ finish ∷ []
head_built rs main cells c0 c1 c2 c3 e e0 e1 e2 e3 =
    let k1 : c1 ≡ start_cell ∷ [] = e1 ∙ ap (λ z. z ++ start_cell ∷ []) e0 in
    e3 ∙ ap (λ z. z ++ finish ∷ []) (e2 ∙ ap (λ z. z ++ linked rs (length z) cells) k1
    ∙ ap (λ z. start_cell ∷ linked rs 1 z) e)

pub head_length : (rs : List ℕ) (main : List Symbol) (c : List Cell)
    → c ≡ (start_cell ∷ linked rs 1 main) ++ finish ∷ []
    → length c ≡ 1 + length main + 1
head_length rs main c e = ap length e ∙ omega (
  arith,
  length-append (linked rs 1 main) (finish ∷ []),
  length-linked rs 1 main,
)

pub link_built : (main cells : List Symbol) (bs bs1 bs2 : List (List Symbol)) (rs rs1 rs2 : List ℕ) (n : ℕ)
    (c0 c1 c2 c3 c4 : List Cell) → cells ≡ main → n ≡ length cells → bs1 ≡ bs → bs2 ≡ bs
    → rs ≡ link_positions (1 + n + 1) bs1
    → rs1 ≡ rs → rs2 ≡ rs → c0 ≡ [] → c1 ≡ c0 ++ start_cell ∷ [] → c2 ≡ c1 ++ linked rs1 (length c1) cells
    → c3 ≡ c2 ++ finish ∷ [] → c4 ≡ c3 ++ routines_code rs2 (length c3) bs2 → c4 ≡ link_code main bs
link_built main cells bs bs1 bs2 rs rs1 rs2 n c0 c1 c2 c3 c4 ec en eb1 eb2 er e1 e2 k0 k1 k2 k3 k4 =
    let r = link_positions (first_top main) bs in
    let r0 : rs ≡ r = er ∙ ap (λ z. link_positions (1 + n + 1) z) eb1
    ∙ ap (λ z. link_positions (1 + z + 1) bs) (en ∙ ap length ec) in
    let h = head_built rs1 main cells c0 c1 c2 c3 ec k0 k1 k2 k3 in
    let len = head_length rs1 main c3 h in
    let h' : c3 ≡ (start_cell ∷ linked r 1 main) ++ finish ∷ [] = h
    ∙ ap (λ z. (start_cell ∷ linked z 1 main) ++ finish ∷ []) (e1 ∙ r0) in
    let tail : routines_code rs2 (length c3) bs2 ≡ routines_code r (first_top main) bs =
    ap (λ z. routines_code z (length c3) bs2) (e2 ∙ r0) ∙ ap (λ z. routines_code r z bs2) len
    ∙ ap (routines_code r (first_top main)) eb2 in
    k4 ∙ ap (λ z. z ++ routines_code rs2 (length c3) bs2) h'
    ∙ ap (λ z. ((start_cell ∷ linked r 1 main) ++ finish ∷ []) ++ z) tail
    ∙ append_assoc (start_cell ∷ linked r 1 main) (finish ∷ []) (routines_code r (first_top main) bs)

pub law_built : (main : List Symbol) (bs : List (List Symbol)) (code : List Cell) → link_size main bs ≤ MOST_CELLS
    → code ≡ link_code main bs → Linked main bs (record { code = code; routines = link_positions (first_top main) bs })
law_built main bs code s e = subst (λ z. Linked main bs
    (record { code = z; routines = link_positions (first_top main) bs }))
    (sym e) (linked_law main bs (omega arith))

pub in_range : (main : List Symbol) (bs : List (List Symbol)) (code : List Cell) → AllSymbolsFit main → EachFit bs
    → code ≡ link_code main bs → All IsInRange code
in_range main bs code h k e = subst (All IsInRange) (sym e) (λ i d l. (cells_all main bs h k i d l).in_range)

-- no cell is refused
none_fails : (xs : List Cell) → All IsCell xs → position_or_len (λ c. not (is_one_to_one c)) xs ≡ length xs
none_fails [] h = refl
none_fails (c ∷ xs) h =
    let one : is_one_to_one c ≡ true = (h 0 c (omega arith)).one_to_one in
    let e = none_fails xs (λ i d l. h (suc i) d (omega arith)) in
    ap (λ t. cond (not (not t)) (1 + position_or_len (λ c. not (is_one_to_one c)) xs) 0) one
    ∙ (let n : 1 + position_or_len (λ c. not (is_one_to_one c)) xs ≡ suc (length xs) = omega arith in n)

past : (k n : ℕ) → k ≡ n → cond (nat_lt k n) (Some k) None ≡ None
past k n e = let l : nat_lt k n ≡ false = grind (arith, nat_tests) in ap (λ t. cond t (Some k) None) l

none_refused : (xs : List Cell) → All IsCell xs → position (λ c. not (is_one_to_one c)) xs ≡ None
none_refused xs h = past (position_or_len (λ c. not (is_one_to_one c)) xs) (length xs) (none_fails xs h)

pub accepted : (main : List Symbol) (bs : List (List Symbol)) (code : List Cell) → AllSymbolsFit main → EachFit bs
    → code ≡ link_code main bs → first_seal_refusal code ≡ None
accepted main bs code h k e =
    ap first_seal_refusal e
    ∙ ap (λ o. refusal_by o (count_by is_start (link_code main bs)) (count_by is_finish (link_code main bs)))
    (none_refused (link_code main bs) (cells_all main bs h k))
    ∙ ap (λ n. refusal_by None n (count_by is_finish (link_code main bs))) (one_start main bs h k)
    ∙ ap (λ n. refusal_by None 1 n) (one_finish main bs h k)

pub code_length : (main : List Symbol) (bs : List (List Symbol)) (code : List Cell) → code ≡ link_code main bs
    → length code ≡ link_size main bs
code_length main bs code e = ap length e ∙ length-link main bs

pub not_refused : (r : SealError) → None ≡ Some r → ⊥
not_refused r e = cc
