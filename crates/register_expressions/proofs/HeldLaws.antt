-- The value of an expression whose subexpressions are in registers, or its truth value, xored into
-- a register.
use Rattle.std.proofs.Common.{◌≡◌, ◌≢◌, ℕ, ◌+◌, ◌^◌, ◌<◌, ◌≤◌, inl, inr, Bool, true, false, List, [], ◌∷◌, length}
use Rattle.std.proofs.Common.{refl, sym, ap, ◌∙◌, subst, ⊎_elim, arith}
use Rattle.std.specs.Prelude.{bit_xor, if◌then◌else◌, slice_index, slice_set, Result, Ok, Err}
use Rattle.std.proofs.lemmas.Bool.{cases_eq}
use Rattle.code_scope.proofs.rpp_words_laws.Laws.{xor-twice}
use Rattle.code_scope.specs.rpp_tree.declared.tree.BinOp.{BinOp}
use Rattle.code_scope.specs.rpp_tree.Tree.{Expression, Number, Null, Variable, Element, Binary}
use Rattle.code_scope.specs.pisa_isa.Machine.{Memory}
use Rattle.code_scope.specs.code_conventions.declared.registers.TheConstants.{CONTENT, FRAME, NOUGHT, OBJECT, OUTCOME}
use Rattle.code_scope.specs.paired_code.declared.part.Symbol.{Symbol}
use Rattle.code_scope.specs.paired_code.Machine.{Image, memory_reg, memory_with_reg}
use Rattle.code_scope.specs.paired_code.Pieces.{Done, Trapped, Runs}
use Rattle.code_scope.specs.roopl_semantics.Operators.{operated, is_true, truth_word}
use Rattle.code_scope.specs.refine_form.declared.spot.Spot.{Spot}
use Rattle.register_expressions.specs.Code.{Target, words, xor, around, truth_cells, part, core, give_cells, held_cells}
use Rattle.register_expressions.specs.Code.{given_cells, held_value_cells, base_of, reach_cells, held_truth_cells}
use Rattle.register_expressions.specs.Code.{held_test_cells}
use Rattle.register_expressions.specs.declared.held.Kind.{Kind}
use Rattle.register_expressions.specs.declared.held.Kind.TheVariants as which
use Rattle.register_expressions.specs.Held.{kind, own, beside, past, need, told_need, is_variable, is_zero_literal}
use Rattle.register_expressions.specs.Held.{expression_spot}
use Rattle.register_expressions.specs.Held.{is_truth}
use Rattle.register_expressions.specs.Number.{Bases, spot_address, word_given, number, Sees}
use Rattle.register_expressions.specs.Steps.{held_steps, given_steps, held_value_steps, held_truth_steps}
use Rattle.register_expressions.specs.Steps.{held_test_steps}
use Rattle.register_expressions.specs.Laws.{bases_of, Ready, Xored, truth_of}
use Rattle.register_expressions.proofs.Goes.{Goes, Traps, TrapsBoth, traps_around, both_more, goes_to, goes_around}
use Rattle.register_expressions.proofs.Goes.{runs_along}
use Rattle.register_expressions.proofs.HeldBounds.{need_least}
use Rattle.register_expressions.proofs.Known.{tabulated_is, known, known_same, known_set, taken, xori_goes, xor_goes}
use Rattle.register_expressions.proofs.Known.{written_at, written_off, written_same, written_again}
use Rattle.register_expressions.proofs.Numbers.{AllWords}
use Rattle.register_expressions.proofs.Opened.{Free, Apart, Changes, Opens, both_of, both_joined, Fine, fine_left}
use Rattle.register_expressions.proofs.Opened.{fine_right, Alike, Reads, reads_self, held_traps, before_traps}
use Rattle.register_expressions.proofs.Opened.{told_traps, less_free, ok_fine, leaf_none, zero_none, given_is, zero_is}
use Rattle.register_expressions.proofs.Opened.{shows, past_is, own_truth, told_goes, told_opens, value_word}
use Rattle.register_expressions.proofs.Opened.{more_change, more_open, held_opens, Shows, out_goes, taken_word}
use Rattle.register_expressions.proofs.Opened.{taken_other}
use Rattle.register_expressions.proofs.Results.{written}
use Rattle.register_expressions.proofs.Ways.{one_err}

module _ (n : ℕ) (b : Bases) (zs : List ℕ) (spot : List ℕ → Spot) (small : length zs ≤ 2 ^ 31) (room : 25 ≤ n)
    (low : ℕ) (inside : low ≤ length zs) (all : AllWords zs) (into : ℕ) (hi : into < n) (top : ℕ)
    (away : Apart 0 top into) where
  -- these cells and no others
  abbrev only : List ℕ → Type 0
  only ws = ws ≡ zs

  still_small : (ws : List ℕ) → ws ≡ zs → length ws ≤ 2 ^ 31
  still_small ws e = subst (λ u. length u ≤ 2 ^ 31) (sym e) small

  still_inside : (ws : List ℕ) → ws ≡ zs → low ≤ length ws
  still_inside ws e = subst (λ u. low ≤ length u) (sym e) inside

  alike : (e : Expression) → Alike n b (λ ws. ws ≡ zs) spot still_small (omega arith) low still_inside zs all e
  alike e ws q = subst (λ u. Reads n b (λ ws. ws ≡ zs) spot still_small (omega arith) low still_inside zs all u e)
      (sym q) (reads_self n b (λ ws. ws ≡ zs) spot still_small (omega arith) low still_inside zs all e)

  -- another value in the register into which a result is xored stays there
  free_written : (f : ℕ → ℕ) (v : ℕ) → Free b 0 top f → Free b 0 top (written f into v)
  free_written f v r = record {
    object_is = written_off f into v OBJECT away.object_not ∙ r.object_is;
    frame_is = written_off f into v FRAME away.frame_not ∙ r.frame_is;
    content_is = written_off f into v CONTENT away.content_not ∙ r.content_is;
    nought_is = written_off f into v NOUGHT away.nought_not ∙ r.nought_is;
    outcome_is = written_off f into v OUTCOME away.outcome_not ∙ r.outcome_is;
    clear = λ q lo up. written_off f into v q (λ e. ⊎_elim (λ l. omega arith) (λ l. omega arith) away.side)
        ∙ r.clear q lo up;
  }

  module _ {w : List Symbol} {t : ℕ} (c : Changes n b only w t 0 top) where
    into_stays : (f : ℕ → ℕ) → c.puts f into ≡ f into
    into_stays f = ⊎_elim (λ l. c.low f into l) (λ l. c.high f into l) away.side

    puts_written : (f : ℕ → ℕ) (v r : ℕ) → c.puts (written f into v) r ≡ written (c.puts f) into v r
    puts_written f v r = ⊎_elim (λ e. subst (λ r. c.puts (written f into v) r ≡ written (c.puts f) into v r) (sym e)
        (into_stays (written f into v) ∙ written_at f into v ∙ sym (written_at (c.puts f) into v)))
        (λ k. c.local (written f into v) f r (written_off f into v r k) ∙ sym (written_off (c.puts f) into v r k))
        (cases_eq r into)

    -- between these cells and back
    around_into : {mid : List Symbol} {u : ℕ} (v : ℕ) → ((f : ℕ → ℕ) → Free b 0 top f
        → Goes mid u (known n (written (c.puts f) into (f into)) zs)
        (known n (written (c.puts f) into (bit_xor (f into) v)) zs))
        → (f : ℕ → ℕ) → Free b 0 top f
        → Goes (around w mid) (t + (u + t)) (known n f zs) (known n (written f into (bit_xor (f into) v)) zs)
    around_into v mid f r =
        let v' : ℕ = bit_xor (f into) v in
        goes_around (c.goes f r zs refl) (goes_to refl (known_same n _ _ zs
        (λ q l. written_same (c.puts f) into (f into) q (into_stays f))) refl (mid f r))
        (goes_to refl refl (known_same n _ _ zs (λ q l. puts_written f v' q))
        (c.goes (written f into v') (free_written f v' r) zs refl))

  module _ (e : Expression) (fits : need e ≤ top) (few : top ≤ 9) (sees : Sees spot b low zs e)
      (fine : Fine spot b zs e)
    where
      abbrev v : ℕ
      v = word_given (number spot b zs e)

      hc : CONTENT < n
      hc = omega arith

      -- the expression opened in the first registers
      open_first : Opens n b only (held_cells spot e 0) (held_steps e) 0 (need e) (word_given (number spot b zs e))
      open_first = more_open n b only (omega arith) refl
          (held_opens n b only spot still_small hc low still_inside zs all e 0 (omega arith) (omega arith) fine sees
          (alike e))

      abbrev wide : Changes n b only (held_cells spot e 0) (held_steps e) 0 top
      wide = more_change n b only (omega arith) fits open_first.change

      part_not : part 0 ≢ into
      part_not q = ⊎_elim (λ l. omega arith) (λ l. (let a = need_least e in
          omega arith)) away.side

      plain_into : (f : ℕ → ℕ) → Free b 0 top f → Goes (around (held_cells spot e 0) (xor into (part 0) ∷ []))
          (held_steps e + (1 + held_steps e)) (known n f zs)
          (known n (written f into (bit_xor (f into) (word_given (number spot b zs e)))) zs)
      plain_into f r = around_into wide v (λ f r.
          goes_to refl refl (ap (λ u. known n (written (wide.puts f) into (bit_xor (f into) u)) zs) (open_first.has f))
          (xor_goes n (wide.puts f) zs into hi (part 0) (omega arith) part_not (f into))) f r

      -- its truth value
      told : ℕ
      told = truth_word (is_true (word_given (number spot b zs e)))

      truth_mid : (f : ℕ → ℕ) → Free b 0 top f → Goes (truth_cells into (part 0)) 2
          (known n (written (wide.puts f) into (f into)) zs)
          (known n (written (wide.puts f) into (bit_xor (f into)
          (truth_word (is_true (word_given (number spot b zs e))))))
          zs)
      truth_mid f r =
          let vw : v < 2 ^ 32 = value_word spot b zs low all e sees fine in
          told_goes n b only spot still_small hc zs (wide.puts f) into (part 0) (f into) v hi (omega arith)
          (omega arith)
          away.nought_not part_not (wide.low f NOUGHT (omega arith) ∙ r.nought_is) (open_first.has f) vw

      truth_into : (f : ℕ → ℕ) → Free b 0 top f
          → Goes (around (held_cells spot e 0) (truth_cells into (part 0))) (held_steps e + (2 + held_steps e))
          (known n f zs)
          (known n (written f into (bit_xor (f into) (truth_word (is_true (word_given (number spot b zs e)))))) zs)
      truth_into f r = around_into wide (truth_word (is_true (word_given (number spot b zs e)))) truth_mid f r

  -- what an operator gives goes there straight
  given_into : (at : ℕ) (o : BinOp) (left right : Expression) → need (Binary at o left right) ≤ top → top ≤ 9
      → Sees spot b low zs (Binary at o left right) → Fine spot b zs (Binary at o left right) → (c : Kind) → kind o ≡ c
      → (f : ℕ → ℕ) → Free b 0 top f
      → Goes (given_cells spot c o left right (Binary at o left right) into)
      (given_steps c o left right (held_steps (Binary at o left right))) (known n f zs)
      (known n (written f into (bit_xor (f into) (word_given (number spot b zs (Binary at o left right))))) zs)
  given_into at o left right fits few s fine which.Changes q f r =
      plain_into (Binary at o left right) fits few s fine f r
  given_into at o left right fits few s fine which.Neither q f r =
      plain_into (Binary at o left right) fits few s fine f r
  given_into at o left right fits few s fine which.Gives q f r = go (subst (λ c. own c (is_truth left) (is_truth right)
      + (need left + need right) ≤ top) q fits)
    where
      go : 1 + (need left + need right) ≤ top → Goes (given_cells spot which.Gives o left right (Binary at o left right)
          into)
          (given_steps which.Gives o left right (held_steps (Binary at o left right))) (known n f zs)
          (known n (written f into (bit_xor (f into) (word_given (number spot b zs (Binary at o left right))))) zs)
      go fits =
          let hc : CONTENT < n = omega arith in
          let a = need_least left in
          let c = need_least right in
          let both = both_of n b only spot still_small hc {top = top} (omega arith) (omega arith) (omega arith)
          (more_open n b only (omega arith) refl
          (held_opens n b only spot still_small hc low still_inside zs all left 0 (omega arith) (omega arith)
          (fine_left spot b zs o (number spot b zs left) (number spot b zs right) fine) s.0 (alike left)))
          (more_open n b only (omega arith) refl
          (held_opens n b only spot still_small hc low still_inside zs all right (need left)
          (omega arith) (omega arith) (fine_right spot b zs o (number spot b zs left) (number spot b zs right) fine) s.1
          (alike right)))
          (value_word spot b zs low all left s.0 (fine_left spot b zs o (number spot b zs left) (number spot b zs right)
          fine))
          (value_word spot b zs low all right s.1 (fine_right spot b zs o (number spot b zs left)
          (number spot b zs right) fine)) (is_zero_literal right)
          (is_variable left) (is_variable right) (expression_spot spot left) (expression_spot spot right)
          (zero_is spot b zs right)
          (shows n b only spot still_small hc low still_inside zs all left s.0 (alike left))
          (shows n b only spot still_small hc low still_inside zs all right s.1 (alike right)) in
          goes_to refl refl (ap (λ v. known n (written f into (bit_xor (f into) v)) zs)
          (given_is spot b zs at o left right fine))
          (around_into both.change (operated o (word_given (number spot b zs left))
          (word_given (number spot b zs right)))
          (λ f r. both.give o q f r into (f into) hi away zs refl) f r)
  given_into at o left right fits few s fine which.Joins q f r = go (subst (λ c. own c (is_truth left) (is_truth right)
      + (need left + need right) ≤ top) q fits)
    where
      go : 1 + (beside (is_truth left) + beside (is_truth right)) + (need left + need right) ≤ top
          → Goes (given_cells spot which.Joins o left right (Binary at o left right) into)
          (given_steps which.Joins o left right (held_steps (Binary at o left right))) (known n f zs)
          (known n (written f into (bit_xor (f into) (word_given (number spot b zs (Binary at o left right))))) zs)
      go fits =
          let hc : CONTENT < n = omega arith in
          let a = need_least left in
          let c = need_least right in
          let p = past_is (is_truth left) 0 in
          let u = past_is (is_truth right) (told_need left) in
          let one = more_open n b only {most = told_need left} (omega arith) refl
          (told_opens n b only spot still_small hc low still_inside zs all left 0 (omega arith)
          (fine_left spot b zs o (number spot b zs left) (number spot b zs right) fine) s.0
          (held_opens n b only spot still_small hc low still_inside zs all left (past (is_truth left) 0)
          (omega arith) (omega arith) (fine_left spot b zs o (number spot b zs left) (number spot b zs right) fine) s.0
          (alike left))) in
          let two = more_open n b only {most = top} (omega arith) refl
          (told_opens n b only spot still_small hc low still_inside zs all right (told_need left) (omega arith)
          (fine_right spot b zs o (number spot b zs left) (number spot b zs right) fine) s.1
          (held_opens n b only spot still_small hc low still_inside zs all right
          (past (is_truth right) (told_need left))
          (omega arith) (omega arith) (fine_right spot b zs o (number spot b zs left) (number spot b zs right) fine) s.1
          (alike right))) in
          let both = both_joined n b only spot still_small hc {top = top} (omega arith) (omega arith) (omega arith) one
          two in
          goes_to refl refl (ap (λ v. known n (written f into (bit_xor (f into) v)) zs)
          (given_is spot b zs at o left right fine))
          (around_into both.change (operated o (word_given (number spot b zs left))
          (word_given (number spot b zs right)))
          (λ f r. both.give o q f r into (f into) hi away zs refl) f r)

  -- a register into which something is xored while the word of a variable is out
  leaf_into : (sp : Spot) (v t : ℕ) → spot_address b sp < length zs → (mid : List Symbol) → (f : ℕ → ℕ) → Free b 0 top f
      → Goes mid t
      (known n (written (taken n f (base_of sp) (spot_address b sp) zs) into (f into))
      (slice_set zs (spot_address b sp) 0))
      (known n (written (taken n f (base_of sp) (spot_address b sp) zs) into (bit_xor (f into) v))
      (slice_set zs (spot_address b sp) 0))
      → Goes (around (reach_cells sp) mid) (2 + (t + 2)) (known n f zs)
      (known n (written f into (bit_xor (f into) v)) zs)
  leaf_into sp v t below mid f r go =
      goes_to refl (known_same n _ _ zs (λ q l. written_same f into (f into) q refl)) refl
      (out_goes n b only spot still_small (omega arith) zs refl sp mid t into (f into) (bit_xor (f into) v) f
      r.object_is r.frame_is r.content_is away.object_not away.frame_not away.content_not below go)

  pub value_into : (e : Expression) → need e ≤ top → top ≤ 9 → Sees spot b low zs e → Fine spot b zs e → (f : ℕ → ℕ)
      → Free b 0 top f
      → Goes (held_value_cells spot e into) (held_value_steps e) (known n f zs)
      (known n (written f into (bit_xor (f into) (word_given (number spot b zs e)))) zs)
  value_into (Number at word) fits few s g f r =
      goes_to refl (known_same n _ _ zs (λ q l. written_same f into (f into) q refl)) refl
      (xori_goes n f zs into hi word (f into) s)
  value_into (Null at) fits few s g f r = plain_into (Null at) fits few s g f r
  value_into (Variable name) fits few s g f r =
      let sp : Spot = spot name.text in
      let hc : CONTENT < n = omega arith in
      let f' : ℕ → ℕ = taken n f (base_of sp) (spot_address b sp) zs in
      leaf_into sp (slice_index zs (spot_address b sp)) 1 (omega arith) (xor into CONTENT ∷ []) f r
      (goes_to refl refl (ap (λ u. known n (written f' into (bit_xor (f into) u)) (slice_set zs (spot_address b sp) 0))
      (taken_word n b only spot still_small hc zs f sp))
      (xor_goes n f' (slice_set zs (spot_address b sp) 0) into hi CONTENT hc away.content_not (f into)))
  value_into (Element name index) fits few s g f r = plain_into (Element name index) fits few s g f r
  value_into (Binary at o left right) fits few s g f r = given_into at o left right fits few s g (kind o) refl f r

  pub test_into : (e : Expression) → need e ≤ top → top ≤ 9 → Sees spot b low zs e → Fine spot b zs e → (f : ℕ → ℕ)
      → Free b 0 top f
      → Goes (held_test_cells spot e into) (held_test_steps e) (known n f zs)
      (known n (written f into (bit_xor (f into) (truth_word (is_true (word_given (number spot b zs e)))))) zs)
  test_into e fits few s g f r = by (is_truth e) refl
    where
      told : (t : Bool) → Shows n b only spot still_small (omega arith) t (expression_spot spot e)
          (word_given (number spot b zs e))
          → Goes (if t then around (reach_cells (expression_spot spot e)) (truth_cells into CONTENT)
          else around (held_cells spot e 0) (truth_cells into (part 0)))
          (if t then 6 else (held_steps e + (2 + held_steps e))) (known n f zs)
          (known n (written f into (bit_xor (f into) (truth_word (is_true (word_given (number spot b zs e)))))) zs)
      told true shown =
          let sp : Spot = expression_spot spot e in
          let hc : CONTENT < n = omega arith in
          let i = shown zs refl in
          let f' : ℕ → ℕ = taken n f (base_of sp) (spot_address b sp) zs in
          leaf_into sp (truth_word (is_true (word_given (number spot b zs e)))) 2 i.0 (truth_cells into CONTENT) f r
          (told_goes n b only spot still_small hc (slice_set zs (spot_address b sp) 0) f' into CONTENT (f into)
          (word_given (number spot b zs e)) hi hc (omega arith) away.nought_not away.content_not
          (taken_other n b only spot still_small hc zs f sp NOUGHT (λ e. omega arith) (λ e. omega arith)
          (λ e. omega arith) ∙ r.nought_is)
          (taken_word n b only spot still_small hc zs f sp ∙ i.1) (value_word spot b zs low all e s g))
      told false shown = truth_into e fits few s g f r

      by : (t : Bool) → is_truth e ≡ t → Goes (if t then held_value_cells spot e into else held_truth_cells spot e into)
          (if t then held_value_steps e else held_truth_steps e) (known n f zs)
          (known n (written f into (bit_xor (f into) (truth_word (is_true (word_given (number spot b zs e)))))) zs)
      by true q = goes_to refl refl (ap (λ v. known n (written f into (bit_xor (f into) v)) zs)
          (own_truth spot b zs e g q)) (value_into e fits few s g f r)
      by false q = told (is_variable e)
          (shows n b only spot still_small (omega arith) low still_inside zs all e s (alike e))

  -- ---- a fault is a trap, either way

  faults : (e : Expression) → Sees spot b low zs e → (k c : ℕ) → part (k + need e) ≤ n → need e < 10
      → number spot b zs e ≡ Err c → (f : ℕ → ℕ) → Free b k (k + need e) f
      → Traps (held_cells spot e k) (held_steps e) c (known n f zs)
  faults e s k c r h q f p = held_traps n b (λ ws. ws ≡ zs) spot still_small (omega arith) low still_inside zs all e k c
      r h
      s (alike e) q refl f p

  plain_traps : (e : Expression) → need e ≤ top → top ≤ 9 → Sees spot b low zs e → (c : ℕ) → number spot b zs e ≡ Err c
      → (f : ℕ → ℕ) → Free b 0 top f → (mid : List Symbol) → (m : ℕ)
      → TrapsBoth (around (held_cells spot e 0) mid) (held_steps e + (m + held_steps e)) c (known n f zs)
  plain_traps e fits few s c q f p mid m = both_more (omega arith) (traps_around mid
      (faults e s 0 c (omega arith) (omega arith) q f (less_free n b (λ ws. ws ≡ zs) (omega arith) (omega arith) f p)))

  -- with the result of an operator that goes there straight
  given_traps : (at : ℕ) (o : BinOp) (left right : Expression) → need (Binary at o left right) ≤ top → top ≤ 9
      → Sees spot b low zs (Binary at o left right) → (c : ℕ) → number spot b zs (Binary at o left right) ≡ Err c
      → (q : Kind) → kind o ≡ q → (f : ℕ → ℕ) → Free b 0 top f
      → TrapsBoth (given_cells spot q o left right (Binary at o left right) into)
      (given_steps q o left right (held_steps (Binary at o left right))) c (known n f zs)
  given_traps at o left right fits few s c e which.Changes q f r =
      plain_traps (Binary at o left right) fits few s c e f r (xor into (part 0) ∷ []) 1
  given_traps at o left right fits few s c e which.Neither q f r =
      plain_traps (Binary at o left right) fits few s c e f r (xor into (part 0) ∷ []) 1
  given_traps at o left right fits few s c e which.Gives q f r = go (subst (λ c. own c (is_truth left) (is_truth right)
      + (need left + need right) ≤ top) q fits)
    where
      go : 1 + (need left + need right) ≤ top
          → TrapsBoth (given_cells spot which.Gives o left right (Binary at o left right) into)
          (given_steps which.Gives o left right (held_steps (Binary at o left right))) c (known n f zs)
      go fits = both_more (omega arith) (traps_around
          (core (is_zero_literal right) (is_variable left) (is_variable right) (expression_spot spot left)
          (expression_spot spot right)
          (part 0) (part (need left)) (λ a s. give_cells o into a s))
          (before_traps n b only spot still_small (omega arith) low still_inside zs all left right 0 (need left) c
          (omega arith)
          s.0 (alike left) refl (λ j q el g w. faults left s.0 j c q (omega arith) el g w)
          (λ j q er g w. faults right s.1 j c q (omega arith) er g w) f (is_zero_literal right) (is_variable left)
          (is_variable right) (leaf_none spot b zs left c) (zero_none spot b zs right c) (leaf_none spot b zs right c)
          (omega arith) (omega arith) (less_free n b only (omega arith) (omega arith) f r)
          (one_err o (number spot b zs left) (number spot b zs right) c e)))
  given_traps at o left right fits few s c e which.Joins q f r = go (subst (λ c. own c (is_truth left) (is_truth right)
      + (need left + need right) ≤ top) q fits)
    where
      go : 1 + (beside (is_truth left) + beside (is_truth right)) + (need left + need right) ≤ top
          → TrapsBoth (given_cells spot which.Joins o left right (Binary at o left right) into)
          (given_steps which.Joins o left right (held_steps (Binary at o left right))) c (known n f zs)
      go fits = both_more (omega arith) (traps_around (give_cells o into (part 0) (part (told_need left)))
          (told_traps n b only spot still_small (omega arith) low still_inside zs all left right 0 (told_need left) c
          (omega arith)
          s.0 (alike left) refl (λ j q el g w. faults left s.0 j c q (omega arith) el g w)
          (λ j q er g w. faults right s.1 j c q (omega arith) er g w) f
          (omega arith) (omega arith) (less_free n b only (omega arith) (omega arith) f r)
          (one_err o (number spot b zs left) (number spot b zs right) c e)))

  pub value_traps : (e : Expression) → need e ≤ top → top ≤ 9 → Sees spot b low zs e → (c : ℕ)
      → number spot b zs e ≡ Err c → (f : ℕ → ℕ) → Free b 0 top f
      → TrapsBoth (held_value_cells spot e into) (held_value_steps e) c (known n f zs)
  value_traps (Number at word) fits few s c e f r = absurd (cc)
  value_traps (Null at) fits few s c e f r = absurd (cc)
  value_traps (Variable name) fits few s c e f r = absurd (cc)
  value_traps (Element name index) fits few s c e f r =
      plain_traps (Element name index) fits few s c e f r (xor into (part 0) ∷ []) 1
  value_traps (Binary at o left right) fits few s c e f r = given_traps at o left right fits few s c e (kind o) refl f r

  pub test_traps : (e : Expression) → need e ≤ top → top ≤ 9 → Sees spot b low zs e → (c : ℕ)
      → number spot b zs e ≡ Err c → (f : ℕ → ℕ) → Free b 0 top f
      → TrapsBoth (held_test_cells spot e into) (held_test_steps e) c (known n f zs)
  test_traps e fits few s c q f r = by (is_truth e)
    where
      told : (t : Bool) → is_variable e ≡ t → TrapsBoth (if t
          then around (reach_cells (expression_spot spot e)) (truth_cells into CONTENT)
          else around (held_cells spot e 0) (truth_cells into (part 0)))
          (if t then 6 else (held_steps e + (2 + held_steps e))) c (known n f zs)
      told true t = absurd (leaf_none spot b zs e c q t)
      told false t = plain_traps e fits few s c q f r (truth_cells into (part 0)) 2

      by : (t : Bool) → TrapsBoth (if t then held_value_cells spot e into else held_truth_cells spot e into)
          (if t then held_value_steps e else held_truth_steps e) c (known n f zs)
      by true = value_traps e fits few s c q f r
      by false = told (is_variable e) refl

-- ---- over memories

target_apart : (into : ℕ) → Target into → Apart 0 9 into
target_apart into (inl l) = record {
  object_not = λ e. omega arith;
  frame_not = λ e. omega arith;
  content_not = λ e. omega arith;
  nought_not = λ e. omega arith;
  outcome_not = λ e. omega arith;
  side = inl (omega arith);
}
target_apart into (inr (inl (lo, up))) = record {
  object_not = λ e. omega arith;
  frame_not = λ e. omega arith;
  content_not = λ e. omega arith;
  nought_not = λ e. omega arith;
  outcome_not = λ e. omega arith;
  side = inl (omega arith);
}
target_apart into (inr (inr (lo, up))) = record {
  object_not = λ e. omega arith;
  frame_not = λ e. omega arith;
  content_not = λ e. omega arith;
  nought_not = λ e. omega arith;
  outcome_not = λ e. omega arith;
  side = inr (omega arith);
}

target_small : (into : ℕ) → Target into → into < 32
target_small into (inl l) = omega arith
target_small into (inr (inl (lo, up))) = omega arith
target_small into (inr (inr (lo, up))) = omega arith

free_of : (free n : ℕ) (m : Memory) → Ready free n m → Free (bases_of m) 0 9 (memory_reg m)
free_of free n m h = record {
  object_is = refl;
  frame_is = refl;
  content_is = h.clear 6 (inl (omega arith, omega arith));
  nought_is = h.clear 7 (inl (omega arith, omega arith));
  outcome_is = h.clear 10 (inl (omega arith, omega arith));
  clear = λ r lo up. h.clear r (inr (omega arith, omega arith));
}

module _ (spot : List ℕ → Spot) (free into : ℕ) (e : Expression) (m : Memory) (target : Target into)
    (ready : Ready free (words e) m) (sees : Sees spot (bases_of m) (memory_reg m FRAME + free) m.cells e)
    (few : need e < 10)
    (im : Image) (d : Bool) where
  abbrev low : ℕ
  low = memory_reg m FRAME + free

  inside : memory_reg m FRAME + free ≤ length m.cells
  inside = let h = ready.inside in omega arith

  same : known 32 (memory_reg m) m.cells ≡ m
  same = ap (λ r. record m { regs = r }) (sym (tabulated_is 32 m.regs ready.count))

  -- a fragment that xors a number into the register goes there in either direction
  both_ways : (w : List Symbol) (k v : ℕ) → ((f : ℕ → ℕ) → Free (bases_of m) 0 9 f
      → Goes w k (known 32 f m.cells) (known 32 (written f into (bit_xor (f into) v)) m.cells))
      → Runs im w d m (Done (memory_with_reg m into (bit_xor (memory_reg m into) v)) k)
  both_ways w k v go =
      let x : ℕ = bit_xor (memory_reg m into) v in
      let f : ℕ → ℕ = memory_reg m in
      let g : ℕ → ℕ = written f into x in
      let r = free_of free (words e) m ready in
      let away = target_apart into target in
      let at_end : known 32 g m.cells ≡ memory_with_reg m into x =
      sym (known_set 32 f m.cells into x (target_small into target)) ∙ ap (λ z. memory_with_reg z into x) same in
      let again : (q : ℕ) → written g into (bit_xor (g into) v) q ≡ f q =
      λ q. written_again f into x (bit_xor (g into) v) q
      ∙ written_same f into (bit_xor (g into) v) q (sym (ap (λ z. bit_xor z v) (written_at f into x)
      ∙ xor-twice (f into) v)) in
      let back = go g (free_written 32 (bases_of m) m.cells spot ready.small (omega arith) (memory_reg m FRAME + free)
      inside
      ready.words into (target_small into target) 9 away f x r) in
      runs_along (goes_to refl same at_end (go f r))
      (goes_to refl at_end (known_same 32 _ _ m.cells (λ q l. again q) ∙ same) back) im d

  -- or traps in either
  trapped : (w : List Symbol) (k c : ℕ) → ((f : ℕ → ℕ) → Free (bases_of m) 0 9 f
      → TrapsBoth w k c (known 32 f m.cells)) → (j : ℕ) × (j ≤ k) × Runs im w d m (Trapped c j)
  trapped w k c go =
      let a = (go (memory_reg m) (free_of free (words e) m ready)).runs im d in
      (a.0, a.1, subst (λ z. Runs im w d z (Trapped c a.0)) same a.2)

  pub held_value : Xored into (held_value_steps e) m (number spot (bases_of m) m.cells e) im
      (held_value_cells spot e into) d
  held_value = by (number spot (bases_of m) m.cells e) refl
    where
      by : (r : Result ℕ ℕ) → number spot (bases_of m) m.cells e ≡ r
          → Xored into (held_value_steps e) m r im (held_value_cells spot e into) d
      by (Ok v) q =
          let fine = ok_fine spot (bases_of m) m.cells (number spot (bases_of m) m.cells e) v q in
          subst (λ z. Xored into (held_value_steps e) m z im (held_value_cells spot e into) d) (sym fine ∙ q)
          (both_ways (held_value_cells spot e into) (held_value_steps e)
          (word_given (number spot (bases_of m) m.cells e))
          (value_into 32 (bases_of m) m.cells spot ready.small (omega arith) (memory_reg m FRAME + free) inside
          ready.words into
          (target_small into target) 9 (target_apart into target) e (omega arith) (omega arith) sees fine))
      by (Err c) q = trapped (held_value_cells spot e into) (held_value_steps e) c
          (value_traps 32 (bases_of m) m.cells spot ready.small (omega arith) (memory_reg m FRAME + free) inside
          ready.words into
          (target_small into target) 9 (target_apart into target) e (omega arith) (omega arith) sees c q)

  pub held_test : Xored into (held_test_steps e) m (truth_of (number spot (bases_of m) m.cells e)) im
      (held_test_cells spot e into) d
  held_test = by (number spot (bases_of m) m.cells e) refl
    where
      by : (r : Result ℕ ℕ) → number spot (bases_of m) m.cells e ≡ r
          → Xored into (held_test_steps e) m (truth_of r) im (held_test_cells spot e into) d
      by (Ok v) q =
          let fine = ok_fine spot (bases_of m) m.cells (number spot (bases_of m) m.cells e) v q in
          subst (λ z. Xored into (held_test_steps e) m (truth_of z) im (held_test_cells spot e into) d) (sym fine ∙ q)
          (both_ways (held_test_cells spot e into) (held_test_steps e)
          (truth_word (is_true (word_given (number spot (bases_of m) m.cells e))))
          (test_into 32 (bases_of m) m.cells spot ready.small (omega arith) (memory_reg m FRAME + free) inside
          ready.words into
          (target_small into target) 9 (target_apart into target) e (omega arith) (omega arith) sees fine))
      by (Err c) q = trapped (held_test_cells spot e into) (held_test_steps e) c
          (test_traps 32 (bases_of m) m.cells spot ready.small (omega arith) (memory_reg m FRAME + free) inside
          ready.words into
          (target_small into target) 9 (target_apart into target) e (omega arith) (omega arith) sees c q)
