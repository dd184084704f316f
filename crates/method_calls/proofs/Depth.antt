-- The check of the depth, the place of a method, and what a body puts by.
use Rattle.std.proofs.Common.{◌≡◌, ◌≢◌, ℕ, ◌+◌, ◌-◌, ◌^◌, ◌<◌, ◌≤◌, Bool, true, false, List, [], ◌∷◌, length}
use Rattle.std.proofs.Common.{refl}
use Rattle.std.proofs.Common.{sym}
use Rattle.std.proofs.Common.{ap, ◌∙◌, arith}
use Rattle.std.specs.Prelude.{nat_lt, slice_index, slice_set, int_lt, pos, if◌then◌else◌}
use Rattle.std.proofs.lemmas.List.{get_or-set_same, get_or-set_other, set-get_or}
use Rattle.std.proofs.Math.ListN.{length-set}
use Rattle.std.proofs.lemmas.Bool.Decides.{nat_tests}
use Rattle.refine_form.specs.rpp_words.declared.input.TheConstants.{FRAME_WORDS}
use Rattle.refine_form.specs.rpp_words.Words.{sum_of, negated, is_less, signed}
use Rattle.refine_form.specs.pisa_isa.declared.cell.Cell.{Cell}
use Rattle.refine_form.specs.pisa_isa.Machine.{Memory}
use Rattle.refine_form.specs.pisa_isa.declared.fixed.TheConstants.{END_CELL}
use Rattle.refine_form.specs.code_conventions.declared.memory.TheConstants.{PLACE_WORD, TABLE_HEADER}
use Rattle.refine_form.specs.code_conventions.declared.faults.TheConstants.{TOO_DEEP}
use Rattle.refine_form.specs.code_conventions.declared.registers.TheConstants.{ADDRESS, CONTENT, FRAME, LINK, MOVED, OBJECT}
use Rattle.refine_form.specs.code_conventions.declared.registers.TheConstants.{VALUE}
use Rattle.refine_form.specs.paired_code.Machine.{Image}
use Rattle.refine_form.specs.paired_code.Layout.{check_differ_cells}
use Rattle.refine_form.specs.paired_code.Pieces.{Done, Trapped, Will}
use Rattle.refine_form.proofs.paired_code_laws.Laws.{will_of}
use Rattle.refine_form.proofs.paired_code_laws.Call.{set_set}
use Rattle.refine_form.specs.paired_code.Layout.{Differ}
use Rattle.refine_form.proofs.paired_code_laws.Checks.{runs_passes, runs_fails}
use Rattle.refine_form.specs.code_conventions.Cells.{add, exch, addi}
use Rattle.method_calls.specs.CallCode.{end_row, depth_code, fetch_row, save_row}
use Rattle.refine_form.proofs.Rows.{Ran, here, next, will_row}
use Rattle.method_calls.proofs.Addresses.{sum_is, difference_is, less_is}
use Rattle.refine_form.proofs.Rules.{will_in, will_in_trap}
use Rattle.refine_form.specs.paired_code.Rows.{line}
use Rattle.method_calls.proofs.Exchanges.{exchanges}
use Rattle.refine_form.proofs.Memories.{mk}

more_is : (x i z : ℕ) → x + i ≡ z → i < 2 ^ 32 → z < 2 ^ 32 → sum_of x (negated (negated i)) ≡ z
more_is x i z e h k = omega arith

-- a cell that is emptied and filled again
pub filled : (cs : List ℕ) (i : ℕ) → slice_set (slice_set cs i 0) i (slice_index cs i) ≡ cs
filled cs i = set_set cs i 0 (slice_index cs i) ∙ set-get_or cs i 0

pub emptied : (cs : List ℕ) (i : ℕ) → i < length cs → slice_index (slice_set cs i 0) i ≡ 0
emptied cs i h = get_or-set_same cs i 0 0 h

signed_small : (v : ℕ) → v < 2 ^ 31 → signed v ≡ pos v
signed_small v h = by (nat_lt v (2 ^ 31)) (grind (arith, nat_tests))
  where
    by : (b : Bool) → b ≡ true → (if b then pos v else package.Rattle.std.specs.Prelude.negsuc (2 ^ 32 - 1 - v)) ≡ pos v
    by true e = refl
    by false e = absurd (cc)

small_words : (u v : ℕ) → u < 2 ^ 31 → v < 2 ^ 31 → is_less u v ≡ nat_lt u v
small_words u v g h = ap (λ z. int_lt z (signed v)) (signed_small u g) ∙ ap (int_lt (pos u)) (signed_small v h)

pub below : (u v : ℕ) → u < v → v < 2 ^ 31 → is_less u v ≡ true
below u v p h = small_words u v (omega arith) h ∙ grind (arith, nat_tests)

pub above_zero : (v : ℕ) → 0 < v → v < 2 ^ 31 → is_less 0 v ≡ true
above_zero v p h = below 0 v p h

-- ---- the depth

module _ (im : Image) (ob fr : ℕ) (cs : List ℕ) (inside : END_CELL < length cs)
    (small : slice_index cs END_CELL < 2 ^ 31)
    (fits : fr + FRAME_WORDS ≤ slice_index cs END_CELL) where
  abbrev end : ℕ
  end = slice_index cs END_CELL

  -- the last frame that fits begins before it
  abbrev last : ℕ
  last = end - FRAME_WORDS

  abbrev gone : List ℕ
  gone = slice_set cs END_CELL 0

  abbrev depth_mem : ℕ → ℕ → ℕ → List ℕ → Memory
  depth_mem a b g l = mk 0 ob fr a b 0 g 0 l

  last_is : end ≡ last + FRAME_WORDS
  last_is = omega (arith, fits)

  finds_end : Will im (line end_row) false (depth_mem 0 0 0 cs) (λ o. o ≡ Done (depth_mem END_CELL last 0 gone) 3)
  finds_end =
      will_row im false end_row 3 _ _
      (next refl (omega arith) refl
      (next refl (omega arith) (exchanges false CONTENT ADDRESS (depth_mem END_CELL 0 0 cs) inside)
      (next refl (omega arith) (ap (λ v. Done (depth_mem END_CELL v 0 gone) 1)
      (less_is end FRAME_WORDS last last_is (omega (arith, small)))) here)))

  leaves_end : Will im (line end_row) true (depth_mem END_CELL last 0 gone) (λ o. o ≡ Done (depth_mem 0 0 0 cs) 3)
  leaves_end =
      let l1 : END_CELL < length gone = omega (arith, length-set cs END_CELL 0, inside) in
      will_row im true (addi CONTENT (negated FRAME_WORDS) ∷ exch CONTENT ADDRESS ∷ addi ADDRESS END_CELL ∷ []) 3 _ _
      (next refl (omega arith) (ap (λ v. Done (depth_mem END_CELL v 0 gone) 1)
      (sum_is last FRAME_WORDS end (omega (arith, last_is)) (omega (arith, small))))
      (next refl (omega arith) (exchanges true CONTENT ADDRESS (depth_mem END_CELL end 0 gone) l1
      ∙ ap (λ v. Done (depth_mem END_CELL v 0 (slice_set gone END_CELL end)) 1) (emptied cs END_CELL inside)
      ∙ ap (λ l. Done (depth_mem END_CELL 0 0 l) 1) (filled cs END_CELL))
      (next refl (omega arith) refl here)))

  -- if one more call may be open, nothing happens
  pub depth_passes : (d : Bool) → fr + FRAME_WORDS < end → Will im depth_code d (depth_mem 0 0 0 cs)
      (λ o. o ≡ Done (depth_mem 0 0 0 cs) 8)
  depth_passes d h =
      let other : fr ≢ last = λ e. omega (arith, last_is, h, e) in
      will_in im d (line end_row) (check_differ_cells FRAME CONTENT TOO_DEEP) _ _ _ _ 3 2 3 finds_end
      (will_of im _ d _ _ _ (runs_passes im d (Differ FRAME CONTENT) TOO_DEEP (depth_mem END_CELL last 0 gone) other)
      refl)
      leaves_end

  -- else it traps
  pub depth_traps : fr + FRAME_WORDS ≡ end → Will im depth_code false (depth_mem 0 0 0 cs)
      (λ o. (k : ℕ) × (k ≤ 4) × (o ≡ Trapped TOO_DEEP k))
  depth_traps h =
      let same : fr ≡ last = omega (arith, last_is, h) in
      will_in_trap im false (line end_row) (check_differ_cells FRAME CONTENT TOO_DEEP) _ _ 3 14 1 finds_end
      (will_of im _ false _ _ _ (runs_fails im false (Differ FRAME CONTENT) TOO_DEEP (depth_mem END_CELL last 0 gone)
      same)
      (1, omega arith, refl))

-- ---- the place of a method

module _ (im : Image) (ob fr slot place : ℕ) (cs : List ℕ) (inside : ob < length cs)
    (small : slice_index cs ob < 2 ^ 23) (slot_small : slot < 2 ^ 20)
    (entry_in : slice_index cs ob + (TABLE_HEADER + slot) < length cs)
    (apart : slice_index cs ob + (TABLE_HEADER + slot) ≢ ob)
    (entry : slice_index cs (slice_index cs ob + (TABLE_HEADER + slot)) ≡ place) (place_small : place < 2 ^ 32) where
  abbrev table : ℕ
  table = slice_index cs ob

  abbrev at_entry : ℕ
  at_entry = slice_index cs ob + (TABLE_HEADER + slot)

  abbrev fetch_mem : ℕ → ℕ → ℕ → List ℕ → Memory
  fetch_mem b c p l = mk 0 ob fr 0 b c 0 p l

  abbrev no_table : List ℕ
  no_table = slice_set cs ob 0

  abbrev no_entry : List ℕ
  no_entry = slice_set no_table at_entry 0

  out_in : ob < length no_table
  out_in = omega (arith, length-set cs ob 0, inside)

  entry_there : at_entry < length no_table
  entry_there = omega (arith, length-set cs ob 0, entry_in)

  entry_out : at_entry < length no_entry
  entry_out = omega (arith, length-set no_table at_entry 0, entry_there)

  same_entry : slice_index no_table at_entry ≡ place
  same_entry = get_or-set_other cs ob at_entry 0 0 apart ∙ entry

  -- the table's address goes out, and the place is copied there
  table_back : (d : Bool) (p : ℕ) → package.Rattle.refine_form.specs.paired_code.Laws.outcome_of d (exch MOVED OBJECT)
      (fetch_mem 0 table p no_table) ≡ Done (fetch_mem 0 0 p cs) 1
  table_back d p = exchanges d MOVED OBJECT (fetch_mem 0 table p no_table) out_in
      ∙ ap (λ v. Done (fetch_mem 0 v p (slice_set no_table ob table)) 1) (emptied cs ob inside)
      ∙ ap (λ l. Done (fetch_mem 0 0 p l) 1) (filled cs ob)

  entry_back : (d : Bool) (p : ℕ) → package.Rattle.refine_form.specs.paired_code.Laws.outcome_of d (exch CONTENT MOVED)
      (fetch_mem place at_entry p no_entry) ≡ Done (fetch_mem 0 at_entry p no_table) 1
  entry_back d p =
      exchanges d CONTENT MOVED (fetch_mem place at_entry p no_entry) entry_out
      ∙ ap (λ v. Done (fetch_mem v at_entry p (slice_set no_entry at_entry place)) 1)
      (emptied no_table at_entry entry_there)
      ∙ ap (λ v. Done (fetch_mem 0 at_entry p (slice_set no_entry at_entry v)) 1) (sym same_entry)
      ∙ ap (λ l. Done (fetch_mem 0 at_entry p l) 1) (filled no_table at_entry)

  fetches : Ran false (fetch_row slot) 7 (fetch_mem 0 0 0 cs) (fetch_mem 0 0 place cs)
  fetches =
      next refl (omega arith) (exchanges false MOVED OBJECT (fetch_mem 0 0 0 cs) inside)
      (next refl (omega (arith, slot_small)) (ap (λ v. Done (fetch_mem 0 v 0 no_table) 1)
      (sum_is table (TABLE_HEADER + slot) at_entry refl (omega (arith, small, slot_small))))
      (next refl (omega arith) (exchanges false CONTENT MOVED (fetch_mem 0 at_entry 0 no_table) entry_there
      ∙ ap (λ v. Done (fetch_mem v at_entry 0 no_entry) 1) same_entry)
      (next refl (omega arith) (ap (λ v. Done (fetch_mem place at_entry v no_entry) 1)
      (sum_is 0 place place (omega arith) (omega (arith, place_small))))
      (next refl (omega arith) (entry_back false place)
      (next refl (omega arith) (ap (λ v. Done (fetch_mem 0 v place no_table) 1)
      (less_is at_entry (TABLE_HEADER + slot) table refl (omega (arith, small, slot_small))))
      (next refl (omega arith) (table_back false place) here))))))

  abbrev pub fetch_back : List Cell
  fetch_back =
      exch MOVED OBJECT ∷ addi MOVED (negated (TABLE_HEADER + slot)) ∷ exch CONTENT MOVED ∷ add VALUE CONTENT
      ∷ exch CONTENT MOVED ∷ addi MOVED (TABLE_HEADER + slot) ∷ exch MOVED OBJECT ∷ []

  unfetches : Ran true fetch_back 7 (fetch_mem 0 0 place cs) (fetch_mem 0 0 0 cs)
  unfetches =
      next refl (omega arith) (exchanges true MOVED OBJECT (fetch_mem 0 0 place cs) inside)
      (next refl (omega arith) (ap (λ v. Done (fetch_mem 0 v place no_table) 1)
      (more_is table (TABLE_HEADER + slot) at_entry refl (omega (arith, slot_small))
      (omega (arith, small, slot_small))))
      (next refl (omega arith) (exchanges true CONTENT MOVED (fetch_mem 0 at_entry place no_table) entry_there
      ∙ ap (λ v. Done (fetch_mem v at_entry place no_entry) 1) same_entry)
      (next refl (omega arith) (ap (λ v. Done (fetch_mem place at_entry v no_entry) 1)
      (difference_is place place 0 (omega arith) (omega (arith, place_small))))
      (next refl (omega arith) (entry_back true 0)
      (next refl (omega (arith, slot_small)) (ap (λ v. Done (fetch_mem 0 v 0 no_table) 1)
      (less_is at_entry (TABLE_HEADER + slot) table refl (omega (arith, small, slot_small))))
      (next refl (omega arith) (table_back true 0) here))))))

  pub will_fetch : Will im (line (fetch_row slot)) false (fetch_mem 0 0 0 cs)
      (λ o. o ≡ Done (fetch_mem 0 0 place cs) 7)
  will_fetch = will_row im false (fetch_row slot) 7 _ _ fetches

  pub will_unfetch : Will im (line (fetch_row slot)) true (fetch_mem 0 0 place cs)
      (λ o. o ≡ Done (fetch_mem 0 0 0 cs) 7)
  will_unfetch = will_row im true fetch_back 7 _ _ unfetches

-- ---- what a body puts by

module _ (im : Image) (ob fr link place : ℕ) (cs : List ℕ) (inside : fr + PLACE_WORD < length cs) (small : fr < 2 ^ 23)
  where
    pub will_save : slice_index cs fr ≡ 0 → slice_index cs (fr + PLACE_WORD) ≡ 0
        → Will im (line save_row) false (mk link ob fr 0 0 0 0 place cs)
        (λ o. o ≡ Done (mk 0 ob fr 0 0 0 0 0 (slice_set (slice_set cs fr link) (fr + PLACE_WORD) place)) 4)
    will_save z z2 =
        let cs1 = slice_set cs fr link in
        let e : slice_index cs1 (fr + PLACE_WORD) ≡ 0 = get_or-set_other cs fr (fr + PLACE_WORD) link 0
        (λ q. omega arith)
        ∙ z2 in
        will_row im false save_row 4 _ _
        (next refl (omega arith) (exchanges false LINK FRAME (mk link ob fr 0 0 0 0 place cs) (omega arith)
        ∙ ap (λ v. Done (mk v ob fr 0 0 0 0 place cs1) 1) z)
        (next refl (omega arith) (ap (λ v. Done (mk 0 ob v 0 0 0 0 place cs1) 1)
        (sum_is fr PLACE_WORD (fr + PLACE_WORD) refl (omega arith)))
        (next refl (omega arith) (exchanges false VALUE FRAME (mk 0 ob (fr + PLACE_WORD) 0 0 0 0 place cs1)
        (omega (arith, length-set cs fr link)) ∙ ap (λ v. Done
        (mk 0 ob (fr + PLACE_WORD) 0 0 0 0 v (slice_set cs1 (fr + PLACE_WORD) place)) 1) e)
        (next refl (omega arith) (ap (λ v. Done (mk 0 ob v 0 0 0 0 0 (slice_set cs1 (fr + PLACE_WORD) place)) 1)
        (less_is (fr + PLACE_WORD) PLACE_WORD fr refl (omega arith))) here))))

    pub will_restore : slice_index cs fr ≡ link → slice_index cs (fr + PLACE_WORD) ≡ place
        → Will im (line save_row) true (mk 0 ob fr 0 0 0 0 0 cs)
        (λ o. o ≡ Done (mk link ob fr 0 0 0 0 place (slice_set (slice_set cs (fr + PLACE_WORD) 0) fr 0)) 4)
    will_restore z z2 =
        let cs1 = slice_set cs (fr + PLACE_WORD) 0 in
        let e : slice_index cs1 fr ≡ link = get_or-set_other cs (fr + PLACE_WORD) fr 0 0 (λ q. omega arith) ∙ z in
        will_row im true (addi FRAME (negated PLACE_WORD) ∷ exch VALUE FRAME ∷ addi FRAME PLACE_WORD ∷ exch LINK FRAME
        ∷ []) 4 _ _
        (next refl (omega arith) (ap (λ v. Done (mk 0 ob v 0 0 0 0 0 cs) 1)
        (sum_is fr PLACE_WORD (fr + PLACE_WORD) refl (omega arith)))
        (next refl (omega arith) (exchanges true VALUE FRAME (mk 0 ob (fr + PLACE_WORD) 0 0 0 0 0 cs) inside
        ∙ ap (λ v. Done (mk 0 ob (fr + PLACE_WORD) 0 0 0 0 v cs1) 1) z2)
        (next refl (omega arith) (ap (λ v. Done (mk 0 ob v 0 0 0 0 place cs1) 1)
        (less_is (fr + PLACE_WORD) PLACE_WORD fr refl (omega arith)))
        (next refl (omega arith) (exchanges true LINK FRAME (mk 0 ob fr 0 0 0 0 place cs1)
        (omega (arith, length-set cs (fr + PLACE_WORD) 0)) ∙ ap
        (λ v. Done (mk v ob fr 0 0 0 0 place (slice_set cs1 fr 0))
        1) e) here))))
