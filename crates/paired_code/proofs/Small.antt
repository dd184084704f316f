-- The empty fragment, a plain instruction, a memory exchange and a check.
use Rattle.std.proofs.Common.{◌≡◌, ◌≢◌, ℕ, ◌+◌, ◌^◌, ◌<◌, ◌≤◌, Bool, true, false, List, [], ◌∷◌, Some, refl, sym, ap}
use Rattle.std.proofs.Common.{◌∙◌, subst, ⊎_elim, arith}
use Rattle.std.specs.Prelude.{nat_lt, if◌then◌else◌}
use Rattle.code_conventions.specs.pisa_isa.declared.cell.Cell.{Cell}
use Rattle.code_conventions.specs.Cells.{bra}
use Rattle.paired_code.specs.Cells.{bgtz, bltz, data_word}
use Rattle.paired_code.specs.declared.part.Symbol.{Symbol}
use Rattle.paired_code.specs.declared.part.Symbol.TheVariants.{Own}
use Rattle.code_conventions.specs.pisa_isa.Machine.{stop_at, fetch, Memory}
use Rattle.code_conventions.specs.pisa_isa.declared.machine.Stop.TheVariants.{Trap, BadAddress}
use Rattle.paired_code.proofs.Words.{is_positive, is_negative, toward, near, near_is}
use Rattle.paired_code.specs.Machine.{state, Image, is_single, memory_reg, effect_along}
use Rattle.paired_code.specs.Layout.{bool_xor, Frame, frame_address, at, Stands, between, check_cells}
use Rattle.paired_code.specs.Pieces.{Inside, cell, stay, Done, Trapped, Bad, Still, Way, Halts, Ends, finishes, traps}
use Rattle.paired_code.specs.Pieces.{bad, still, Runs, near_end, far_end}
use Rattle.paired_code.specs.Laws.{outcome_of}
use Rattle.paired_code.proofs.Paths.{append}
use Rattle.paired_code.proofs.Steps.{oriented, Takes, Has, calm_way, leap, calm_single, single_stop, stop_by}
use Rattle.paired_code.proofs.Steps.{has_its_cell, either_way, calm_gt, calm_lt, takes_gt, takes_lt}
use Rattle.paired_code.proofs.Ways.{has, and_then, from_to, stand_still, jump, not_zero, zero_positive, zero_negative}
use Rattle.paired_code.proofs.Laws.{ends_at}
use Rattle.paired_code.proofs.Branch.{between_same}

-- any run makes no step, so far
pub runs_still : (im : Image) (p : List Symbol) (d : Bool) (m : Memory) → Runs im p d m (Still 0)
runs_still im p d m = record { run = λ f i h st. still (record { last = at f d _ m; depth = 0; path = stay }) }

pub runs_empty : (im : Image) (d : Bool) (m : Memory) → Runs im [] d m (Done m 0)
runs_empty im false m = record {
  run = λ f i h st. let e : i ≡ i + 0 = omega arith in
      ends_at refl e (finishes stand_still);
}
runs_empty im true m = record {
  run = λ f i h st. let e : i ≡ i + 0 = omega arith in
      ends_at e refl (finishes stand_still);
}

-- ---- check_zero

module _ (im : Image) (f : Frame) (i r code : ℕ) where
  record Parts : Type 0 where
    j : Has im f i (bra (between i (i + 2)))
    trap : fetch im.code (frame_address f (i + 1)) ≡ Some (data_word code)
    k : Has im f (i + 2) (bra (between (i + 2) i))
    gt : Has im f (i + 3) (bgtz r (between (i + 3) (i + 1)))
    lt : Has im f (i + 4) (bltz r (between (i + 4) (i + 1)))

  data_is : (flip : Bool) → oriented flip (data_word code) ≡ data_word code
  data_is false = refl
  data_is true = ap data_word (either_way (nat_lt code (2 ^ 32)) code)

  has_by : (x x' : ℕ) (c c' : Cell) → x ≡ x' → c ≡ c' → Has im f x c → Has im f x' c'
  has_by x x' c c' e k h = subst (λ z. Has im f z c') e (subst (λ z. Has im f x z) k h)

  parts : i + 5 < 2 ^ 30 → Stands im f i (check_cells r code) → Parts
  parts h s =
      let s1 = s.1 in let s2 = s1.1 in let s3 = s2.1 in let s4 = s3.1 in
      record {
        j = has_by i i _ _ refl (ap bra (between_same 0 2 i (i + 2) (omega arith) (omega arith) (omega arith)
            (omega arith) (omega arith))) (has im f i _ s.0);
        trap = has im f (i + 1) (data_word code) s1.0 ∙ ap Some (data_is f.flip);
        k = has_by _ _ _ _ (let e : i + 1 + 1 ≡ i + 2 = omega arith in e)
            (ap bra (between_same 2 0 (i + 2) i (omega arith) (omega arith) (omega arith) (omega arith) (omega arith)))
            (has im f (i + 1 + 1) _ s2.0);
        gt = has_by _ _ _ _ (let e : i + 1 + 1 + 1 ≡ i + 3 = omega arith in e)
            (ap (bgtz r) (between_same 3 1 (i + 3) (i + 1) (omega arith) (omega arith) (omega arith) (omega arith)
            (omega arith))) (has im f (i + 1 + 1 + 1) _ s3.0);
        lt = has_by _ _ _ _ (let e : i + 1 + 1 + 1 + 1 ≡ i + 4 = omega arith in e)
            (ap (bltz r) (between_same 4 1 (i + 4) (i + 1) (omega arith) (omega arith) (omega arith) (omega arith)
            (omega arith))) (has im f (i + 1 + 1 + 1 + 1) _ s4.0);
      }

  module _ (l : i + 5 < 2 ^ 30) (c : Parts) (m : Memory) where
    pass_jump : (d : Bool) → Way im f d i (i + 5) 2 (near_end d i (i + 3)) m (far_end d i (i + 3)) m
    pass_jump false = from_to refl refl (let e : i + 2 + 1 ≡ i + 3 = omega arith in e)
        (jump im f false i (i + 5) i (i + 2) m (omega arith) (omega arith) (omega arith) (omega arith) (omega arith)
        (omega arith) (omega arith) c.j c.k)
    pass_jump true = from_to refl (let e : i + 2 + 1 ≡ i + 3 = omega arith in e) refl
        (jump im f true i (i + 5) (i + 2) i m (omega arith) (omega arith) (omega arith) (omega arith) (omega arith)
        (omega arith) (omega arith) c.k c.j)

    pass_gt : (d : Bool) → is_positive (memory_reg m r) ≡ false → Way im f d i (i + 5) 1 (near_end d (i + 3) (i + 4)) m
        (far_end d (i + 3) (i + 4)) m
    pass_gt false h = from_to refl refl (let e : i + 3 + 1 ≡ i + 4 = omega arith in e)
        (calm_way im f false i (i + 5) (i + 3) _ m m (omega arith) (omega arith) c.gt (calm_gt f.flip false r m _ h))
    pass_gt true h = from_to refl (let e : i + 3 + 1 ≡ i + 4 = omega arith in e) refl
        (calm_way im f true i (i + 5) (i + 3) _ m m (omega arith) (omega arith) c.gt (calm_gt f.flip true r m _ h))

    pass_lt : (d : Bool) → is_negative (memory_reg m r) ≡ false → Way im f d i (i + 5) 1 (near_end d (i + 4) (i + 5)) m
        (far_end d (i + 4) (i + 5)) m
    pass_lt false h = from_to refl refl (let e : i + 4 + 1 ≡ i + 5 = omega arith in e)
        (calm_way im f false i (i + 5) (i + 4) _ m m (omega arith) (omega arith) c.lt (calm_lt f.flip false r m _ h))
    pass_lt true h = from_to refl (let e : i + 4 + 1 ≡ i + 5 = omega arith in e) refl
        (calm_way im f true i (i + 5) (i + 4) _ m m (omega arith) (omega arith) c.lt (calm_lt f.flip true r m _ h))

    -- a way to a cell that leaps to the DATA cell
    halts : (d : Bool) (k x g : ℕ) (b : Cell) → Way im f d i (i + 5) k g m (near d x) m → x ≢ i + 1 → i ≤ x → x < i + 5
        → Has im f x b → Takes f.flip b m (between x (i + 1)) → Halts im f d i (i + 5) (k + 1) g m (Trap code)
    halts d k x g b w ne lo hi h t = record {
      last = state (frame_address f (i + 1)) (toward d x (i + 1)) (bool_xor f.flip d) m;
      depth = 0;
      path = append w.path (leap im f d i (i + 5) x (i + 1) b m ne (omega arith) (omega arith) lo hi h t);
      stops = ap (λ o. stop_at o (state (frame_address f (i + 1)) (toward d x (i + 1)) (bool_xor f.flip d) m)) c.trap;
      inside = cell (i + 1) (omega arith) (omega arith);
    }

pub runs_check_zero : (im : Image) (d : Bool) (r code : ℕ) (m : Memory) → memory_reg m r ≡ 0
    → Runs im (check_cells r code) d m (Done m 4)
runs_check_zero im false r code m z = record {
  run = λ f i l st. let c = parts im f i r code l st in
      finishes (and_then (pass_jump im f i r code l c m false)
      (and_then (pass_gt im f i r code l c m false (zero_positive _ z))
      (pass_lt im f i r code l c m false (zero_negative _ z))));
}
runs_check_zero im true r code m z = record {
  run = λ f i l st. let c = parts im f i r code l st in
      finishes (and_then (and_then (pass_lt im f i r code l c m true (zero_negative _ z))
      (pass_gt im f i r code l c m true (zero_positive _ z))) (pass_jump im f i r code l c m true));
}

pub runs_check_other : (im : Image) (d : Bool) (r code : ℕ) (m : Memory) → memory_reg m r ≢ 0
    → (k : ℕ) × (k ≤ 4) × Runs im (check_cells r code) d m (Trapped code k)
runs_check_other im d r code m nz = ⊎_elim (λ s. up d s.0 s.1) (λ s. down d s.0 s.1) (not_zero (memory_reg m r) nz)
  where
    up : (d : Bool) → is_positive (memory_reg m r) ≡ true → is_negative (memory_reg m r) ≡ false
        → (k : ℕ) × (k ≤ 4) × Runs im (check_cells r code) d m (Trapped code k)
    up false s n = (
      3,
      omega arith,
      record {
        run = λ f i l st. let c = parts im f i r code l st in
            traps (halts im f i r code l c m false 2 (i + 3) i _ (pass_jump im f i r code l c m false)
            (λ e. omega arith) (omega arith) (omega arith) c.gt (takes_gt f.flip r m _ s));
      },
    )
    up true s n = (
      2,
      omega arith,
      record {
        run = λ f i l st. let c = parts im f i r code l st in
            traps (halts im f i r code l c m true 1 (i + 3) (i + 5) _
            (from_to refl refl (let e : i + 4 ≡ i + 3 + 1 = omega arith in e)
            (pass_lt im f i r code l c m true n)) (λ e. omega arith) (omega arith) (omega arith) c.gt
            (takes_gt f.flip r m _ s));
      },
    )

    down : (d : Bool) → is_positive (memory_reg m r) ≡ false → is_negative (memory_reg m r) ≡ true
        → (k : ℕ) × (k ≤ 4) × Runs im (check_cells r code) d m (Trapped code k)
    down false n s = (
      4,
      omega arith,
      record {
        run = λ f i l st. let c = parts im f i r code l st in
            traps (halts im f i r code l c m false 3 (i + 4) i _
            (and_then (pass_jump im f i r code l c m false) (pass_gt im f i r code l c m false n))
            (λ e. omega arith) (omega arith) (omega arith) c.lt (takes_lt f.flip r m _ s));
      },
    )
    down true n s = (
      1,
      omega arith,
      record {
        run = λ f i l st. let c = parts im f i r code l st in
            traps (halts im f i r code l c m true 0 (i + 4) (i + 5) _
            (from_to refl refl (let e : i + 5 ≡ i + 4 + 1 = omega arith in e) stand_still) (λ e. omega arith)
            (omega arith) (omega arith) c.lt (takes_lt f.flip r m _ s));
      },
    )

-- ---- one instruction

runs_acting : (im : Image) (c : Cell) (d : Bool) (m : Memory) → is_single c ≡ true → c.imm < 2 ^ 32
    → has_its_cell c m ≡ true → Runs im (Own c ∷ []) d m (Done (effect_along d c m) 1)
runs_acting im c false m h w t = record {
  run = λ f i l st. finishes
      (calm_way im f false i (i + 1) i c m _ (omega arith) (omega arith) (has im f i c st.0)
      (calm_single f.flip false c m h w t));
}
runs_acting im c true m h w t = record {
  run = λ f i l st. finishes
      (calm_way im f true i (i + 1) i c m _ (omega arith) (omega arith) (has im f i c st.0)
      (calm_single f.flip true c m h w t));
}

runs_stopping : (im : Image) (c : Cell) (d : Bool) (m : Memory) → is_single c ≡ true → has_its_cell c m ≡ false
    → Runs im (Own c ∷ []) d m (Bad (memory_reg m c.b) 0)
runs_stopping im c d m h t = record { run = λ f i l st. go f i st d }
  where
    halts_here : (f : Frame) (i : ℕ) → Stands im f i (Own c ∷ []) → (d : Bool)
        → Halts im f d i (i + 1) 0 (near d i) m (BadAddress (memory_reg m c.b))
    halts_here f i st d = record {
      last = at f d (near d i) m;
      depth = 0;
      path = stay;
      stops = subst (λ z. stop_at (fetch im.code z) (at f d (near d i) m) ≡ Some (BadAddress (memory_reg m c.b)))
          (sym (near_is f.flip d f.base i)) (ap (λ o. stop_at o (at f d (near d i) m)) (has im f i c st.0)
          ∙ single_stop f.flip (bool_xor f.flip d) c m _ h ∙ ap (λ t. stop_by t (memory_reg m c.b)) t);
      inside = subst (λ z. Inside f i (i + 1) 0 z 0) (sym (near_is f.flip d f.base i))
          (cell i (omega arith) (omega arith));
    }

    go : (f : Frame) (i : ℕ) → Stands im f i (Own c ∷ []) → (d : Bool)
        → Ends im f d i (i + 1) (near_end d i (i + 1)) m (far_end d i (i + 1)) (Bad (memory_reg m c.b) 0)
    go f i st false = bad (halts_here f i st false)
    go f i st true = bad (halts_here f i st true)

single_out : (im : Image) (c : Cell) (d : Bool) (m : Memory) (t : Bool) → is_single c ≡ true → c.imm < 2 ^ 32
    → has_its_cell c m ≡ t → Runs im (Own c ∷ []) d m (if t then Done (effect_along d c m) 1 else Bad (memory_reg m c.b)
    0)
single_out im c d m true h w e = runs_acting im c d m h w e
single_out im c d m false h w e = runs_stopping im c d m h e

-- any single instruction: no branch, end or data word
pub runs_single : (im : Image) (c : Cell) (d : Bool) (m : Memory) → is_single c ≡ true → c.imm < 2 ^ 32
    → Runs im (Own c ∷ []) d m (outcome_of d c m)
runs_single im c d m h w = single_out im c d m (has_its_cell c m) h w refl
