-- Words of memory at addresses in registers: opened, tried, loaded.
use Rattle.std.proofs.Common.{◌≡◌, ◌≢◌, ℕ, ◌+◌, ◌^◌, ◌<◌, true, false, List, [], ◌∷◌, length, length-set, refl}
use Rattle.std.proofs.Common.{ap, arith}
use Rattle.std.specs.Prelude.{slice_index, slice_set, bit_xor}
use Rattle.std.proofs.lemmas.List.{get_or-set_same, set-set}
use Rattle.refine_heap.specs.pisa_isa.Machine.{Memory}
use Rattle.refine_heap.specs.rpp_words.Words.{is_less}
use Rattle.refine_heap.specs.code_conventions.declared.registers.TheConstants.{CONTENT, FIRST_WORD, NOUGHT, OTHER_PLACE}
use Rattle.refine_heap.specs.code_conventions.declared.registers.TheConstants.{PLACE}
use Rattle.refine_heap.specs.paired_code.Machine.{memory_reg}
use Rattle.refine_heap.specs.paired_code.Layout.{check_equal_cells, check_differ_cells, check_positive_cells}
use Rattle.refine_heap.specs.paired_code.Layout.{Equal, Differ, Positive}
use Rattle.refine_heap.proofs.paired_code_laws.Checks.{runs_passes, runs_fails}
use Rattle.expr_uncompute.specs.register_expressions.Code.{xor, exch}
use Rattle.expr_uncompute.specs.register_expressions.Number.{Bases}
use Rattle.expr_uncompute.proofs.register_expressions_laws.Comparing.{above, not_above}
use Rattle.expr_uncompute.proofs.register_expressions_laws.Goes.{Goes, Traps, goes_around, goes_to, goes_xor_to}
use Rattle.expr_uncompute.proofs.register_expressions_laws.Goes.{goes_exch, traps_mid}
use Rattle.expr_uncompute.proofs.register_expressions_laws.Scratch.{Scratch, mem}
use Rattle.object_codegen.specs.Code.{nil_place, some_place, load_cells}

-- ---- checks

pub goes_zero : (r code : ℕ) (m : Memory) → memory_reg m r ≡ memory_reg m NOUGHT
    → Goes (check_equal_cells r NOUGHT code) 2 m m
goes_zero r code m e = record {
  ahead = λ im. runs_passes im false (Equal r NOUGHT) code m e;
  back = λ im. runs_passes im true (Equal r NOUGHT) code m e;
}

pub traps_zero : (r code : ℕ) (m : Memory) → memory_reg m r ≢ memory_reg m NOUGHT
    → Traps (check_equal_cells r NOUGHT code) 1 code m
traps_zero r code m n = record { ahead = λ im. (1, omega arith, runs_fails im false (Equal r NOUGHT) code m n) }

pub goes_differ : (r s code : ℕ) (m : Memory) → memory_reg m r ≢ memory_reg m s
    → Goes (check_differ_cells r s code) 2 m m
goes_differ r s code m n = record {
  ahead = λ im. runs_passes im false (Differ r s) code m n;
  back = λ im. runs_passes im true (Differ r s) code m n;
}

pub traps_differ : (r s code : ℕ) (m : Memory) → memory_reg m r ≡ memory_reg m s
    → Traps (check_differ_cells r s code) 1 code m
traps_differ r s code m e = record { ahead = λ im. (1, omega arith, runs_fails im false (Differ r s) code m e) }

pub goes_positive : (r code : ℕ) (m : Memory) → is_less 0 (memory_reg m r) ≡ true
    → Goes (check_positive_cells r code) 2 m m
goes_positive r code m h = record {
  ahead = λ im. runs_passes im false (Positive r) code m h;
  back = λ im. runs_passes im true (Positive r) code m h;
}

pub traps_positive : (r code : ℕ) (m : Memory) → is_less 0 (memory_reg m r) ≡ false
    → Traps (check_positive_cells r code) 1 code m
traps_positive r code m h = record { ahead = λ im. (1, omega arith, runs_fails im false (Positive r) code m h) }

module _ (b : Bases) (f : ℕ → ℕ) (s : Scratch) where
  -- a flag, a word, and a reference
  abbrev pub at : (o x w : ℕ) → List ℕ → Memory
  at o x w zs = mem b f (record s { outcome = o; content = x; first = w }) zs

  -- the register r has the address a, whatever the flag and the word are
  pub record Points (r a w : ℕ) : Type 0 where
    pub opens : (o x : ℕ) (zs : List ℕ) → a < length zs → Goes (exch CONTENT r ∷ []) 1 (at o x w zs)
        (at o (slice_index zs a) w (slice_set zs a x))

  pub by_place : (w : ℕ) → Points PLACE s.place w
  by_place w = record {
    opens = λ o x zs h. goes_exch _ (λ z zs. at o z w zs) s.place x zs h refl (omega arith)
        (λ z zs. refl) (λ z zs. refl);
  }

  pub by_other : (w : ℕ) → Points OTHER_PLACE s.other w
  by_other w = record {
    opens = λ o x zs h. goes_exch _ (λ z zs. at o z w zs) s.other x zs h refl (omega arith)
        (λ z zs. refl) (λ z zs. refl);
  }

  pub by_first : (w : ℕ) → Points FIRST_WORD w w
  by_first w = record {
    opens = λ o x zs h. goes_exch _ (λ z zs. at o z w zs) w x zs h refl (omega arith) (λ z zs. refl)
        (λ z zs. refl);
  }

  -- a word is taken out: x is in the register, and 0 in its cell
  pub opened : {r a w : ℕ} → Points r a w → (zs : List ℕ) (x : ℕ) → a < length zs → slice_index zs a ≡ x
      → Goes (exch CONTENT r ∷ []) 1 (at 0 0 w zs) (at 0 x w (slice_set zs a 0))
  opened {a = a} {w = w} p zs x h e = goes_to refl refl (ap (λ z. at 0 z w (slice_set zs a 0)) e) (p.opens 0 0 zs h)

  -- a word changed
  pub changed : {r a w k : ℕ} {mid : List Rattle.refine_heap.specs.paired_code.declared.part.Symbol.Symbol}
      → Points r a w
      → (zs : List ℕ) (x y : ℕ) → a < length zs → slice_index zs a ≡ x
      → Goes mid k (at 0 x w (slice_set zs a 0)) (at 0 y w (slice_set zs a 0))
      → Goes (Rattle.expr_uncompute.specs.register_expressions.Code.around (exch CONTENT r ∷ []) mid) (1 + (k + 1))
      (at 0 0 w zs)
      (at 0 0 w (slice_set zs a y))
  changed {a = a} {w = w} p zs x y h e g =
      let h' : a < length (slice_set zs a y) = rw (length-set zs a y) h in
      goes_around (opened p zs x h e) g (goes_to refl refl (ap (at 0 y w) (set-set zs a y 0))
      (opened p (slice_set zs a y) y h' (get_or-set_same zs a y 0 h)))

  -- ---- nil, or the fault

  pub nil_goes : {r a w : ℕ} → Points r a w → (code : ℕ) (zs : List ℕ) → a < length zs → slice_index zs a ≡ 0
      → Goes (nil_place r code) 4 (at 0 0 w zs) (at 0 0 w zs)
  nil_goes {a = a} {w = w} p code zs h e = goes_around (opened p zs 0 h e) (goes_zero CONTENT code _ refl)
      (opened p zs 0 h e)

  pub nil_traps : {r a w : ℕ} → Points r a w → (code : ℕ) (zs : List ℕ) → a < length zs → slice_index zs a ≢ 0
      → Traps (nil_place r code) 2 code (at 0 0 w zs)
  nil_traps {a = a} {w = w} p code zs h n = traps_mid (opened p zs (slice_index zs a) h refl)
      (traps_zero CONTENT code _ n)

  -- ---- not nil, or the fault

  pub some_goes : {r a w : ℕ} → Points r a w → (code : ℕ) (zs : List ℕ) (x : ℕ) → a < length zs → slice_index zs a ≡ x
      → x < 2 ^ 31 → x ≢ 0 → Goes (some_place r code) 4 (at 0 0 w zs) (at 0 0 w zs)
  some_goes p code zs x h e l n = goes_around (opened p zs x h e) (goes_positive CONTENT code _ (above x l n))
      (opened p zs x h e)

  pub some_traps : {r a w : ℕ} → Points r a w → (code : ℕ) (zs : List ℕ) → a < length zs → slice_index zs a ≡ 0
      → Traps (some_place r code) 2 code (at 0 0 w zs)
  some_traps p code zs h e = traps_mid (opened p zs 0 h e) (traps_positive CONTENT code _ not_above)

  -- ---- a word xored into the reference

  pub load_goes : {r a : ℕ} → ((w : ℕ) → Points r a w) → (zs : List ℕ) (x w w' : ℕ) → a < length zs
      → slice_index zs a ≡ x → bit_xor w x ≡ w' → Goes (load_cells r) 3 (at 0 0 w zs) (at 0 0 w' zs)
  load_goes {a = a} p zs x w w' h e l =
      goes_around (opened (p w) zs x h e) (goes_xor_to _ (λ z. at 0 x z (slice_set zs a 0)) w x w' l refl (omega arith)
      (λ z. refl) (λ z. refl)) (opened (p w') zs x h e)
