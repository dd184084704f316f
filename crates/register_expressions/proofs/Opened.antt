-- An expression opened in registers, over any memory in which what it reads is the same.
use Rattle.std.proofs.Common.{◌≡◌, ◌≢◌, ℕ, ◌+◌, ◌^◌, ◌<◌, ◌≤◌, ◌⊎◌, inl, inr, Bool, true, false, List, [], ◌∷◌, ◌++◌}
use Rattle.std.proofs.Common.{length, refl, sym, ap}
use Rattle.std.proofs.lemmas.Bool.Decides.{nat_tests}
use Rattle.std.proofs.Common.{◌∙◌, subst, ⊎_elim, arith}
use Rattle.std.specs.Prelude.{slice_index, slice_set, bit_xor, if◌then◌else◌, Result, Ok, Err}
use Rattle.std.specs.Int.Bits.{xor_zero_l, xor_assoc}
use Rattle.code_scope.specs.rpp_words.Words.{is_less}
use Rattle.code_scope.specs.code_conventions.declared.memory.TheConstants.{HEADER_WORDS}
use Rattle.code_scope.specs.rpp_tree.declared.tree.BinOp.{BinOp}
use Rattle.code_scope.specs.rpp_tree.declared.tree.BinOp.TheVariants as op
use Rattle.code_scope.specs.rpp_tree.Tree.{Expression, Number, Null, Variable, Element, Binary}
use Rattle.code_scope.specs.pisa_isa.Machine.{Memory}
use Rattle.code_scope.specs.paired_code.declared.part.Symbol.{Symbol}
use Rattle.code_scope.specs.pisa_isa.Table as table
use Rattle.code_scope.specs.code_conventions.declared.registers.TheConstants.{CONTENT, FRAME, NOUGHT, OBJECT, OUTCOME}
use Rattle.code_scope.specs.roopl_semantics.Operators.{operated, is_true, truth_word}
use Rattle.code_scope.specs.refine_form.declared.spot.Spot.{Spot}
use Rattle.code_scope.specs.refine_form.declared.spot.Spot.TheVariants.{Field, Frame}
use Rattle.register_expressions.specs.Code.{xor, around, base_of, reach_cells, part, before, core, exch, copy_cells}
use Rattle.register_expressions.specs.Code.{nil_check_of, index_check_of, point_of, element_cells, core_cells}
use Rattle.register_expressions.specs.Code.{truth_cells, told_cells, change_cells, literal_cells, give_cells}
use Rattle.register_expressions.specs.Code.{operated_cells, held_cells}
use Rattle.register_expressions.specs.declared.held.Kind.{Kind}
use Rattle.register_expressions.specs.declared.held.Kind.TheVariants.{Gives, Joins, Neither}
use Rattle.register_expressions.specs.declared.held.Kind.TheVariants as which
use Rattle.register_expressions.specs.Held.{kind, own, beside, past, need, told_need, left_at, right_at, is_variable}
use Rattle.register_expressions.specs.Held.{expression_spot, is_literal, literal_in, is_zero_literal, has_element}
use Rattle.register_expressions.specs.Held.{gives_truth, is_truth}
use Rattle.register_expressions.specs.Number.{Bases, spot_address, word_given, word_of, number, combined_words, Sees}
use Rattle.register_expressions.specs.Steps.{operator_steps, before_steps, core_steps, told_steps, operated_steps}
use Rattle.register_expressions.specs.Steps.{held_steps, element_steps}
use Rattle.register_expressions.proofs.HeldChecks.{nil_goes, nil_traps, index_goes, index_traps, point_goes}
use Rattle.register_expressions.proofs.Ways.{ok_is, inside_of, address_of_word, one_err, IsFault, by_index, by_nil}
use Rattle.register_expressions.proofs.Ways.{by_end, fault_of, fault_of_word}
use Rattle.code_scope.specs.rpp_tree.declared.tree.Ident.{Ident}
use Rattle.register_expressions.specs.Number.{element_at, word_in}
use Rattle.register_expressions.proofs.Comparing
use Rattle.register_expressions.proofs.Goes.{Goes, Traps, traps_first, traps_then, traps_more, nothing, goes_seq}
use Rattle.register_expressions.proofs.Goes.{goes_cons, goes_to, goes_around}
use Rattle.register_expressions.proofs.Giving.{change_goes, literal_goes, give_goes, join_goes}
use Rattle.register_expressions.proofs.HeldBounds.{need_least, neither_left, neither_right}
use Rattle.register_expressions.proofs.Known.{known, known_same, word_out, taken, reach_goes, xori_goes, xor_goes}
use Rattle.register_expressions.proofs.Known.{sltx_goes, written_at, written_off, written_local, written_same}
use Rattle.register_expressions.proofs.Known.{written_both}
use Rattle.register_expressions.proofs.Numbers.{AllWords, number_word}
use Rattle.register_expressions.proofs.Results.{written}

-- a truth is its own
truth_again : (t : Bool) → truth_word (is_true (truth_word t)) ≡ truth_word t
truth_again true = refl
truth_again false = refl

-- so is what these operators give
own_truth_of : (o : BinOp) → gives_truth o ≡ true → (x y : ℕ) → operated o x y ≡ truth_word (is_true (operated o x y))
own_truth_of op.AndAlso t x y = sym (truth_again _)
own_truth_of op.OrElse t x y = sym (truth_again _)
own_truth_of op.Less t x y = sym (truth_again _)
own_truth_of op.Greater t x y = sym (truth_again _)
own_truth_of op.AtMost t x y = sym (truth_again _)
own_truth_of op.AtLeast t x y = sym (truth_again _)
own_truth_of op.Equal t x y = sym (truth_again _)
own_truth_of op.NotEqual t x y = sym (truth_again _)
own_truth_of op.Add t x y = absurd (cc)
own_truth_of op.Sub t x y = absurd (cc)
own_truth_of op.Xor t x y = absurd (cc)
own_truth_of op.And t x y = absurd (cc)
own_truth_of op.Or t x y = absurd (cc)
own_truth_of op.Mul t x y = absurd (cc)
own_truth_of op.Div t x y = absurd (cc)
own_truth_of op.Rem t x y = absurd (cc)

pub past_is : (p : Bool) (k : ℕ) → past p k ≡ k + beside p
past_is true k = omega arith
past_is false k = refl

module _ (spot : List ℕ → Spot) (b : Bases) (zs : List ℕ) where
  -- it has a number
  abbrev pub Fine : Expression → Type 0
  Fine e = number spot b zs e ≡ Ok (word_given (number spot b zs e))

  pub fine_left : (o : BinOp) (p q : Result ℕ ℕ) → combined_words o p q ≡ Ok (word_given (combined_words o p q))
      → p ≡ Ok (word_given p)
  fine_left o (Ok x) q e = refl
  fine_left o (Err c) q e = absurd (cc)

  pub fine_right : (o : BinOp) (p q : Result ℕ ℕ) → combined_words o p q ≡ Ok (word_given (combined_words o p q))
      → q ≡ Ok (word_given q)
  fine_right o (Ok x) (Ok y) e = refl
  fine_right o (Ok x) (Err c) e = absurd (cc)
  fine_right o (Err c) q e = absurd (cc)

  both_given : (o : BinOp) (p q : Result ℕ ℕ) → combined_words o p q ≡ Ok (word_given (combined_words o p q))
      → operated o (word_given p) (word_given q) ≡ word_given (combined_words o p q)
  both_given o (Ok x) (Ok y) e = refl
  both_given o (Ok x) (Err c) e = absurd (cc)
  both_given o (Err c) q e = absurd (cc)

  pub given_is : (at : ℕ) (o : BinOp) (left right : Expression) → Fine (Binary at o left right)
      → operated o (word_given (number spot b zs left)) (word_given (number spot b zs right))
      ≡ word_given (number spot b zs (Binary at o left right))
  given_is at o left right h = both_given o (number spot b zs left) (number spot b zs right) h

  -- a leaf has none
  pub leaf_none : (e : Expression) (c : ℕ) → number spot b zs e ≡ Err c → is_variable e ≡ true → ⊥
  leaf_none (Variable name) c e q = absurd (cc)
  leaf_none (Number at word) c e q = absurd (cc)
  leaf_none (Null at) c e q = absurd (cc)
  leaf_none (Element name index) c e q = absurd (cc)
  leaf_none (Binary at o left right) c e q = absurd (cc)

  literal_none : (e : Expression) (c : ℕ) → number spot b zs e ≡ Err c → is_literal e ≡ true → ⊥
  literal_none (Variable name) c e q = absurd (cc)
  literal_none (Number at word) c e q = absurd (cc)
  literal_none (Null at) c e q = absurd (cc)
  literal_none (Element name index) c e q = absurd (cc)
  literal_none (Binary at o left right) c e q = absurd (cc)

  pub zero_none : (e : Expression) (c : ℕ) → number spot b zs e ≡ Err c → is_zero_literal e ≡ true → ⊥
  zero_none (Variable name) c e q = absurd (cc)
  zero_none (Number at word) c e q = absurd (cc)
  zero_none (Null at) c e q = absurd (cc)
  zero_none (Element name index) c e q = absurd (cc)
  zero_none (Binary at o left right) c e q = absurd (cc)

  pub ok_fine : (r : Result ℕ ℕ) (x : ℕ) → r ≡ Ok x → r ≡ Ok (word_given r)
  ok_fine (Ok y) x e = refl
  ok_fine (Err c) x e = absurd (cc)

  number_of : (at : ℕ) (o : BinOp) (left right : Expression) → Fine left → Fine right
      → number spot b zs (Binary at o left right)
      ≡ Ok (operated o (word_given (number spot b zs left)) (word_given (number spot b zs right)))
  number_of at o left right e q = ap (λ z. combined_words o z (number spot b zs right)) e
      ∙ ap (combined_words o (Ok (word_given (number spot b zs left)))) q

  -- if no element is read there is no fault
  pub is_number : (e : Expression) → has_element e ≡ false → Fine e
  is_number (Number at word) h = refl
  is_number (Null at) h = refl
  is_number (Variable name) h = refl
  is_number (Element name index) h = absurd (cc)
  is_number (Binary at o left right) h = ok_fine (number spot b zs (Binary at o left right))
      (operated o (word_given (number spot b zs left)) (word_given (number spot b zs right)))
      (number_of at o left right (is_number left (neither_left (has_element left) (has_element right) h))
      (is_number right (neither_right (has_element left) (has_element right) h)))

  pub literal_is : (e : Expression) → is_literal e ≡ true → word_given (number spot b zs e) ≡ literal_in e
  literal_is (Number at word) q = refl
  literal_is (Null at) q = absurd (cc)
  literal_is (Variable name) q = absurd (cc)
  literal_is (Element name index) q = absurd (cc)
  literal_is (Binary at o left right) q = absurd (cc)

  pub zero_is : (e : Expression) → is_zero_literal e ≡ true → word_given (number spot b zs e) ≡ 0
  zero_is (Number at word) q = grind (arith, nat_tests)
  zero_is (Null at) q = refl
  zero_is (Variable name) q = absurd (cc)
  zero_is (Element name index) q = absurd (cc)
  zero_is (Binary at o left right) q = absurd (cc)

  -- what determines a truth value is that truth value
  pub own_truth : (e : Expression) → Fine e → is_truth e ≡ true
      → word_given (number spot b zs e) ≡ truth_word (is_true (word_given (number spot b zs e)))
  own_truth (Number at word) h t = absurd (cc)
  own_truth (Null at) h t = absurd (cc)
  own_truth (Variable name) h t = absurd (cc)
  own_truth (Element name index) h t = absurd (cc)
  own_truth (Binary at o left right) h t = subst (λ v. v ≡ truth_word (is_true v))
      (given_is at o left right h)
      (own_truth_of o t (word_given (number spot b zs left)) (word_given (number spot b zs right)))

  pub value_word : (low : ℕ) → AllWords zs → (e : Expression) → Sees spot b low zs e → Fine e
      → word_given (number spot b zs e) < 2 ^ 32
  value_word low all e s h = number_word spot b low zs all e s (word_given (number spot b zs e)) h

-- the bases are there, and the registers of subexpressions from k on, up to one, are 0
pub record Free (b : Bases) (k top : ℕ) (f : ℕ → ℕ) : Type 0 where
  pub object_is : f OBJECT ≡ b.object
  pub frame_is : f FRAME ≡ b.frame
  pub content_is : f CONTENT ≡ 0
  pub nought_is : f NOUGHT ≡ 0
  pub outcome_is : f OUTCOME ≡ 0
  pub clear : (r : ℕ) → part k ≤ r → r < part top → f r ≡ 0

-- a register that is none of these
pub record Apart (k top d : ℕ) : Type 0 where
  pub object_not : OBJECT ≢ d
  pub frame_not : FRAME ≢ d
  pub content_not : CONTENT ≢ d
  pub nought_not : NOUGHT ≢ d
  pub outcome_not : OUTCOME ≢ d
  pub side : (d < part k) ⊎ (part top ≤ d)

-- an array with an element at an index
pub record HasElement (arr x : ℕ) (ws : List ℕ) : Type 0 where
  pub array_is : arr ≢ 0
  pub array_small : arr < 2 ^ 31
  pub inside_it : x < slice_index ws arr
  pub length_small : slice_index ws arr < 2 ^ 31
  pub below : arr + x + HEADER_WORDS < length ws

module _ (n : ℕ) (b : Bases) (like : List ℕ → Type 0) where
  -- cells that change only registers of subexpressions, by what these hold
  pub record Changes (w : List Symbol) (t k top : ℕ) : Type 0 where
    pub puts : (ℕ → ℕ) → ℕ → ℕ
    pub goes : (f : ℕ → ℕ) → Free b k top f → (zs : List ℕ) → like zs → Goes w t (known n f zs) (known n (puts f) zs)
    pub low : (f : ℕ → ℕ) (r : ℕ) → r < part k → puts f r ≡ f r
    pub high : (f : ℕ → ℕ) (r : ℕ) → part top ≤ r → puts f r ≡ f r
    pub local : (f g : ℕ → ℕ) (r : ℕ) → f r ≡ g r → puts f r ≡ puts g r

  -- and have a value in the first one
  pub record Opens (w : List Symbol) (t k top v : ℕ) : Type 0 where
    pub change : Changes w t k top
    pub has : (f : ℕ → ℕ) → change.puts f (part k) ≡ v

  -- the registers of parts that are not used yet
  pub still_free : {w : List Symbol} {t k j : ℕ} → (c : Changes w t k j) → k ≤ j → (f : ℕ → ℕ) → (most : ℕ) → j ≤ most
      → Free b k most f → Free b j most (c.puts f)
  still_free {k = k} {j = j} c h f most l r = record {
    object_is = c.low f OBJECT (omega arith) ∙ r.object_is;
    frame_is = c.low f FRAME (omega arith) ∙ r.frame_is;
    content_is = c.low f CONTENT (omega arith) ∙ r.content_is;
    nought_is = c.low f NOUGHT (omega arith) ∙ r.nought_is;
    outcome_is = c.low f OUTCOME (omega arith) ∙ r.outcome_is;
    clear = λ q lo hi. c.high f q lo ∙ r.clear q (omega arith) hi;
  }

  pub less_free : {k j top most : ℕ} → k ≤ j → top ≤ most → (f : ℕ → ℕ) → Free b k most f → Free b j top f
  less_free h l f r = record {
    object_is = r.object_is;
    frame_is = r.frame_is;
    content_is = r.content_is;
    nought_is = r.nought_is;
    outcome_is = r.outcome_is;
    clear = λ q lo hi. r.clear q (omega arith) (omega arith);
  }

  -- one after another
  abbrev both_change : {w v : List Symbol} {t u k j top : ℕ} → k ≤ j → j ≤ top → Changes w t k j → Changes v u j top
      → Changes (w ++ v) (t + u) k top
  both_change {w = w} {v = v} {t = t} {u = u} {k = k} {j = j} {top = top} h l c e = record {
    puts = λ f. e.puts (c.puts f);
    goes = λ f r zs y. goes_seq (c.goes f (less_free (omega arith) l f r) zs y)
        (e.goes (c.puts f) (still_free c h f top l r) zs y);
    low = λ f r q. e.low (c.puts f) r (omega arith) ∙ c.low f r q;
    high = λ f r q. e.high (c.puts f) r q ∙ c.high f r (omega arith);
    local = λ f g r q. e.local (c.puts f) (c.puts g) r (c.local f g r q);
  }

  -- over more registers
  abbrev pub more_change : {w : List Symbol} {t j top k most : ℕ} → k ≤ j → top ≤ most → Changes w t j top
      → Changes w t k most
  more_change h l c = record {
    puts = c.puts;
    goes = λ f r zs y. c.goes f (less_free h l f r) zs y;
    low = λ f r q. c.low f r (omega arith);
    high = λ f r q. c.high f r (omega arith);
    local = c.local;
  }

  -- or none at all
  abbrev no_change : {k top : ℕ} → Changes [] 0 k top
  no_change = record {
    puts = λ f. f;
    goes = λ f r zs y. nothing (known n f zs);
    low = λ f r q. refl;
    high = λ f r q. refl;
    local = λ f g r q. q;
  }

  -- followed by cells that leave all as it is
  abbrev then_same : {w p : List Symbol} {t u k top : ℕ} → (c : Changes w t k top)
      → ((f : ℕ → ℕ) → Free b k top f → (zs : List ℕ) → like zs
      → Goes p u (known n (c.puts f) zs) (known n (c.puts f) zs)) → Changes (w ++ p) (t + u) k top
  then_same c e = record {
    puts = c.puts;
    goes = λ f r zs y. goes_seq (c.goes f r zs y) (e f r zs y);
    low = c.low;
    high = c.high;
    local = c.local;
  }

  -- with a register of parts written at the end
  abbrev then_written : {w p : List Symbol} {t u k j top : ℕ} (v : ℕ) → k ≤ j → j < top → (c : Changes w t k top)
      → ((f : ℕ → ℕ) → Free b k top f → (zs : List ℕ) → like zs
      → Goes p u (known n (c.puts f) zs) (known n (written (c.puts f) (part j) v) zs))
      → Changes (w ++ p) (t + u) k top
  then_written {w = w} {p = p} {t = t} {u = u} {k = k} {j = j} {top = top} v h l c e = record {
    puts = λ f. written (c.puts f) (part j) v;
    goes = λ f r zs y. goes_seq (c.goes f r zs y) (e f r zs y);
    low = λ f r q. written_off (c.puts f) (part j) v r (λ e. omega arith) ∙ c.low f r q;
    high = λ f r q. written_off (c.puts f) (part j) v r (λ e. omega arith) ∙ c.high f r q;
    local = λ f g r q. written_local (c.puts f) (c.puts g) (part j) v r (c.local f g r q);
  }

  pub more_open : {w : List Symbol} {t k top most v v' : ℕ} → top ≤ most → v ≡ v' → Opens w t k top v
      → Opens w t k most v'
  more_open h e p = record { change = more_change (omega arith) h p.change; has = λ f. p.has f ∙ e }

  -- a register that has a value already, or is 0
  pub from_known : {p : List Symbol} {u : ℕ} (zs : List ℕ) (g : ℕ → ℕ) (d x y z : ℕ) → g d ≡ x → y ≡ z
      → Goes p u (known n (written g d x) zs) (known n (written g d y) zs)
      → Goes p u (known n g zs) (known n (written g d z) zs)
  from_known zs g d x y z e q s = goes_to refl (known_same n _ _ zs (λ r l. written_same g d x r e))
      (ap (λ y. known n (written g d y) zs) q) s

  module _ (spot : List ℕ → Spot) (small : (zs : List ℕ) → like zs → length zs ≤ 2 ^ 31) (hc : CONTENT < n) where
    base_not : (sp : Spot) (d : ℕ) → OBJECT ≢ d → FRAME ≢ d → d ≢ base_of sp
    base_not (Field i) d h k e = h (sym e)
    base_not (Frame i) d h k e = k (sym e)

    -- a register changes while a word is out
    pub out_goes : (zs : List ℕ) → like zs → (sp : Spot) (mid : List Symbol) (t d z z' : ℕ) (g : ℕ → ℕ)
        → g OBJECT ≡ b.object → g FRAME ≡ b.frame
        → g CONTENT ≡ 0 → OBJECT ≢ d → FRAME ≢ d → CONTENT ≢ d → spot_address b sp < length zs
        → Goes mid t
        (known n (written (taken n g (base_of sp) (spot_address b sp) zs) d z) (slice_set zs (spot_address b sp) 0))
        (known n (written (taken n g (base_of sp) (spot_address b sp) zs) d z') (slice_set zs (spot_address b sp) 0))
        → Goes (around (reach_cells sp) mid) (2 + (t + 2)) (known n (written g d z) zs) (known n (written g d z') zs)
    out_goes zs y sp mid t d z z' g eo ef ec po pf pc h m = goes_around (there z) m (there z')
      where
        same : (z r : ℕ) → written (written (written g d z) (base_of sp) (spot_address b sp)) CONTENT
            (slice_index zs (spot_address b sp)) r
            ≡ written (written (written g (base_of sp) (spot_address b sp)) CONTENT
            (slice_index zs (spot_address b sp))) d z r
        same z r = written_local (written (written g d z) (base_of sp) (spot_address b sp))
            (written (written g (base_of sp) (spot_address b sp)) d z) CONTENT (slice_index zs (spot_address b sp)) r
            (written_both g d z (base_of sp) (spot_address b sp) r (base_not sp d po pf))
            ∙ written_both (written g (base_of sp) (spot_address b sp)) d z CONTENT
            (slice_index zs (spot_address b sp)) r (λ e. pc (sym e))

        there : (z : ℕ) → Goes (reach_cells sp) 2 (known n (written g d z) zs)
            (known n (written (taken n g (base_of sp) (spot_address b sp) zs) d z)
            (slice_set zs (spot_address b sp) 0))
        there z = goes_to refl refl (known_same n _ _ (slice_set zs (spot_address b sp) 0) (λ r l. same z r))
            (reach_goes n b (written g d z) zs sp hc (written_off g d z OBJECT po ∙ eo)
            (written_off g d z FRAME pf ∙ ef) (written_off g d z CONTENT pc ∙ ec) h (small zs y))

    -- what is in the registers then
    pub taken_word : (zs : List ℕ) (g : ℕ → ℕ) (sp : Spot) → taken n g (base_of sp) (spot_address b sp) zs CONTENT
        ≡ slice_index zs (spot_address b sp)
    taken_word zs g sp = written_at (written g (base_of sp) (spot_address b sp)) CONTENT
        (slice_index zs (spot_address b sp))

    pub taken_other : (zs : List ℕ) (g : ℕ → ℕ) (sp : Spot) (r : ℕ) → OBJECT ≢ r → FRAME ≢ r → CONTENT ≢ r
        → taken n g (base_of sp) (spot_address b sp) zs r ≡ g r
    taken_other zs g sp r po pf pc =
        written_off (written g (base_of sp) (spot_address b sp)) CONTENT (slice_index zs (spot_address b sp)) r
        (λ e. pc (sym e)) ∙ written_off g (base_of sp) (spot_address b sp) r (base_not sp r po pf)

    -- ---- the operands of an operator

    abbrev pub Shows : Bool → Spot → ℕ → Type 0
    Shows true sp x = (zs : List ℕ) → like zs
        → (spot_address b sp < length zs) × (slice_index zs (spot_address b sp) ≡ x)
    Shows false sp x = Unit {0}

    -- an operator xors its result into a register
    given_goes : (o : BinOp) → kind o ≡ Gives → (h : ℕ → ℕ) (ws : List ℕ) (d z a s x y : ℕ) → d < n → a < n → s < n
        → a ≢ d → s ≢ d → h a ≡ x → h s ≡ y → x < 2 ^ 32 → y < 2 ^ 32
        → Goes (give_cells o d a s) (operator_steps o) (known n (written h d z) ws)
        (known n (written h d (bit_xor z (operated o x y))) ws)
    given_goes o q h ws d z a s x y hd ha hs na ns ea es wx wy =
        goes_to refl refl (ap (λ v. known n (written h d (bit_xor z v)) ws)
        (ap (λ v. operated o v (h s)) ea ∙ ap (operated o x) es))
        (give_goes n h ws d hd a s ha hs na ns (subst (λ v. v < 2 ^ 32) (sym ea) wx)
        (subst (λ v. v < 2 ^ 32) (sym es) wy) o q z)

    -- the register of its left operand changes
    changed_goes : (o : BinOp) → kind o ≡ which.Changes → (h : ℕ → ℕ) (ws : List ℕ) (d s x y : ℕ) → d < n → s < n
        → s ≢ d
        → h s ≡ y → x < 2 ^ 32 → y < 2 ^ 32
        → Goes (change_cells o d s) (operator_steps o) (known n (written h d x) ws)
        (known n (written h d (operated o x y)) ws)
    changed_goes o q h ws d s x y hd hs ns es wx wy =
        goes_to refl refl (ap (λ v. known n (written h d (operated o x v)) ws) es)
        (change_goes n h ws d hd o q s hs ns x wx (subst (λ v. v < 2 ^ 32) (sym es) wy))

    -- the operands open, and an operator of this kind that xors its result into any other register
    pub record Both (c : Kind) (w : List Symbol) (t : ℕ) (in_core : (ℕ → ℕ → List Symbol) → List Symbol) (m : BinOp → ℕ)
        (k top x y : ℕ) : Type 0 where
      pub change : Changes w t k top
      pub give : (o : BinOp) → kind o ≡ c → (f : ℕ → ℕ) → Free b k top f → (d z : ℕ) → d < n → Apart k top d
          → (zs : List ℕ) → like zs → Goes (in_core (λ a s. give_cells o d a s)) (m o)
          (known n (written (change.puts f) d z) zs)
          (known n (written (change.puts f) d (bit_xor z (operated o x y))) zs)

    none_of : {k top d : ℕ} → Apart k top d → (r : ℕ) → part k ≤ r → r < part top → r ≢ d
    none_of away r lo hi e = ⊎_elim (λ l. omega arith) (λ l. omega arith) away.side

    module _ {w v : List Symbol} {t u k j top x y : ℕ} (h : k < j) (l : j < top) (room : part top ≤ n)
        (one : Opens w t k j x) (two : Opens v u j top y) (wx : x < 2 ^ 32) (wy : y < 2 ^ 32) where
      abbrev left_alone : Changes w t k top
      left_alone = more_change (omega arith) (omega arith) one.change

      abbrev right_alone : Changes v u k top
      right_alone = more_change (omega arith) (omega arith) two.change

      right_out : (sp : Spot) → Shows true sp y
          → Both Gives w t (λ mid. around (reach_cells sp) (mid (part k) CONTENT)) (λ o. 2 + (operator_steps o + 2)) k
          top
          x y
      right_out sp q = record {
        change = left_alone;
        give = λ o e f r d z hd away zs s.
            let g : ℕ → ℕ = one.change.puts f in
            let g' : ℕ → ℕ = taken n g (base_of sp) (spot_address b sp) zs in
            let i = q zs s in
            let ea : g' (part k) ≡ x = taken_other zs g sp (part k) (λ e. omega arith) (λ e. omega arith)
            (λ e. omega arith) ∙ one.has f in
            let es : g' CONTENT ≡ y = taken_word zs g sp ∙ i.1 in
            out_goes zs s sp (give_cells o d (part k) CONTENT) (operator_steps o) d z (bit_xor z (operated o x y)) g
            (left_alone.low f OBJECT (omega arith) ∙ r.object_is) (left_alone.low f FRAME (omega arith) ∙ r.frame_is)
            (left_alone.low f CONTENT (omega arith) ∙ r.content_is) away.object_not away.frame_not away.content_not i.0
            (given_goes o e g' (slice_set zs (spot_address b sp) 0) d z (part k) CONTENT x y hd (omega arith) hc
            (none_of away (part k) (omega arith) (omega arith)) away.content_not ea es wx wy);
      }

      left_out : (sp : Spot) → Shows true sp x
          → Both Gives v u (λ mid. around (reach_cells sp) (mid CONTENT (part j))) (λ o. 2 + (operator_steps o + 2)) k
          top
          x y
      left_out sp q = record {
        change = right_alone;
        give = λ o e f r d z hd away zs s.
            let g : ℕ → ℕ = two.change.puts f in
            let g' : ℕ → ℕ = taken n g (base_of sp) (spot_address b sp) zs in
            let i = q zs s in
            let es : g' (part j) ≡ y = taken_other zs g sp (part j) (λ e. omega arith) (λ e. omega arith)
            (λ e. omega arith) ∙ two.has f in
            let ea : g' CONTENT ≡ x = taken_word zs g sp ∙ i.1 in
            out_goes zs s sp (give_cells o d CONTENT (part j)) (operator_steps o) d z (bit_xor z (operated o x y)) g
            (right_alone.low f OBJECT (omega arith) ∙ r.object_is) (right_alone.low f FRAME (omega arith) ∙ r.frame_is)
            (right_alone.low f CONTENT (omega arith) ∙ r.content_is) away.object_not away.frame_not away.content_not i.0
            (given_goes o e g' (slice_set zs (spot_address b sp) 0) d z CONTENT (part j) x y hd hc (omega arith)
            away.content_not (none_of away (part j) (omega arith) (omega arith)) ea es wx wy);
      }

      abbrev both_there : Changes (w ++ v) (t + u) k top
      both_there = both_change (omega arith) (omega arith) one.change two.change

      left_stays : (f : ℕ → ℕ) → two.change.puts (one.change.puts f) (part k) ≡ x
      left_stays f = two.change.low (one.change.puts f) (part k) (omega arith) ∙ one.has f

      both_kept : Both Gives (w ++ v) (t + u) (λ mid. mid (part k) (part j)) (λ o. operator_steps o) k top x y
      both_kept = record {
        change = both_there;
        give = λ o e f r d z hd away zs s.
            given_goes o e (two.change.puts (one.change.puts f)) zs d z (part k) (part j) x y hd (omega arith)
            (omega arith) (none_of away (part k) (omega arith) (omega arith))
            (none_of away (part j) (omega arith) (omega arith)) (left_stays f) (two.has (one.change.puts f)) wx wy;
      }

      -- the right operand is 0
      zero_out : (sp : Spot) → Shows true sp x → y ≡ 0
          → Both Gives [] 0 (λ mid. around (reach_cells sp) (mid CONTENT NOUGHT)) (λ o. 2 + (operator_steps o + 2)) k
          top
          x y
      zero_out sp q z0 = record {
        change = no_change;
        give = λ o e f r d z hd away zs s.
            let g' : ℕ → ℕ = taken n f (base_of sp) (spot_address b sp) zs in
            let i = q zs s in
            let es : g' NOUGHT ≡ y = taken_other zs f sp NOUGHT (λ e. omega arith) (λ e. omega arith)
            (λ e. omega arith) ∙ r.nought_is ∙ sym z0 in
            let ea : g' CONTENT ≡ x = taken_word zs f sp ∙ i.1 in
            out_goes zs s sp (give_cells o d CONTENT NOUGHT) (operator_steps o) d z (bit_xor z (operated o x y)) f
            r.object_is r.frame_is r.content_is away.object_not away.frame_not away.content_not i.0
            (given_goes o e g' (slice_set zs (spot_address b sp) 0) d z CONTENT NOUGHT x y hd hc (omega arith)
            away.content_not away.nought_not ea es wx wy);
      }

      zero_kept : y ≡ 0 → Both Gives w t (λ mid. mid (part k) NOUGHT) (λ o. operator_steps o) k top x y
      zero_kept z0 = record {
        change = left_alone;
        give = λ o e f r d z hd away zs s.
            given_goes o e (one.change.puts f) zs d z (part k) NOUGHT x y hd (omega arith) (omega arith)
            (none_of away (part k) (omega arith) (omega arith)) away.nought_not (one.has f)
            (left_alone.low f NOUGHT (omega arith) ∙ r.nought_is ∙ sym z0) wx wy;
      }

      pub both_of : (z p q : Bool) (xs ys : Spot) → (z ≡ true → y ≡ 0) → Shows p xs x → Shows q ys y
          → Both Gives (before z p q w v) (before_steps z p q t u) (λ mid. core z p q xs ys (part k) (part j) mid)
          (λ o. core_steps z p q (operator_steps o)) k top x y
      both_of true true q xs ys z a c = zero_out xs a (z refl)
      both_of true false q xs ys z a c = zero_kept (z refl)
      both_of false true true xs ys z a c = right_out ys c
      both_of false false true xs ys z a c = right_out ys c
      both_of false true false xs ys z a c = left_out xs a
      both_of false false false xs ys z a c = both_kept

      -- the register of its left operand changes by a number
      by_literal : (o : BinOp) → kind o ≡ which.Changes
          → Opens (w ++ literal_cells o (part k) y) (t + 1) k top (operated o x y)
      by_literal o e = record {
        change = then_written (operated o x y) (omega arith) (omega arith) left_alone there;
        has = λ f. written_at (one.change.puts f) (part k) (operated o x y);
      }
        where
          there : (f : ℕ → ℕ) → Free b k top f → (zs : List ℕ) → like zs → Goes (literal_cells o (part k) y) 1
              (known n (one.change.puts f) zs) (known n (written (one.change.puts f) (part k) (operated o x y)) zs)
          there f r zs s = from_known zs (one.change.puts f) (part k) x (operated o x y) (operated o x y) (one.has f)
              refl
              (literal_goes n (one.change.puts f) zs (part k) (omega arith) o e y x wx wy)

      -- an operator that changes the register of its left operand
      pub changed : (o : BinOp) → kind o ≡ which.Changes → (q : Bool) (xs ys : Spot) → Shows q ys y
          → Opens (before false false q w v ++ core false false q xs ys (part k) (part j) (λ a s. change_cells o a s))
          (before_steps false false q t u + core_steps false false q (operator_steps o)) k top (operated o x y)
      changed o e true xs ys q = record {
        change = then_written (operated o x y) (omega arith) (omega arith) left_alone there;
        has = λ f. written_at (one.change.puts f) (part k) (operated o x y);
      }
        where
          there : (f : ℕ → ℕ) → Free b k top f → (zs : List ℕ) → like zs
              → Goes (around (reach_cells ys) (change_cells o (part k) CONTENT)) (2 + (operator_steps o + 2))
              (known n (one.change.puts f) zs) (known n (written (one.change.puts f) (part k) (operated o x y)) zs)
          there f r zs s =
              let g : ℕ → ℕ = one.change.puts f in
              let g' : ℕ → ℕ = taken n g (base_of ys) (spot_address b ys) zs in
              let i = q zs s in
              from_known zs g (part k) x (operated o x y) (operated o x y) (one.has f) refl
              (out_goes zs s ys (change_cells o (part k) CONTENT) (operator_steps o) (part k) x (operated o x y) g
              (left_alone.low f OBJECT (omega arith) ∙ r.object_is) (left_alone.low f FRAME (omega arith) ∙ r.frame_is)
              (left_alone.low f CONTENT (omega arith) ∙ r.content_is) (λ e. omega arith) (λ e. omega arith)
              (λ e. omega arith) i.0 (changed_goes o e g' (slice_set zs (spot_address b ys) 0) (part k) CONTENT x y
              (omega arith) hc (λ e. omega arith) (taken_word zs g ys ∙ i.1) wx wy))
      changed o e false xs ys q = record {
        change = then_written (operated o x y) (omega arith) (omega arith) both_there there;
        has = λ f. written_at (two.change.puts (one.change.puts f)) (part k) (operated o x y);
      }
        where
          there : (f : ℕ → ℕ) → Free b k top f → (zs : List ℕ) → like zs
              → Goes (change_cells o (part k) (part j)) (operator_steps o)
              (known n (two.change.puts (one.change.puts f)) zs)
              (known n (written (two.change.puts (one.change.puts f)) (part k) (operated o x y)) zs)
          there f r zs s =
              let g : ℕ → ℕ = two.change.puts (one.change.puts f) in
              from_known zs g (part k) x (operated o x y) (operated o x y) (left_stays f) refl
              (changed_goes o e g zs (part k) (part j) x y (omega arith) (omega arith) (λ e. omega arith)
              (two.has (one.change.puts f)) wx wy)

    -- the truths of the operands
    pub both_joined : {w v : List Symbol} {t u k j top x y : ℕ} → k < j → j < top → part top ≤ n
        → Opens w t k j (truth_word (is_true x)) → Opens v u j top (truth_word (is_true y))
        → Both Joins (w ++ v) (t + u) (λ mid. mid (part k) (part j)) (λ o. 1) k top x y
    both_joined {k = k} {j = j} {top = top} {x = x} {y = y} h l room one two = record {
      change = both_change (omega arith) (omega arith) one.change two.change;
      give = λ o e f r d z hd away zs s.
          join_goes n (two.change.puts (one.change.puts f)) zs d hd (part k) (part j) (omega arith) (omega arith)
          (none_of away (part k) (omega arith) (omega arith)) (none_of away (part j) (omega arith) (omega arith)) x y
          (two.change.low (one.change.puts f) (part k) (omega arith) ∙ one.has f) (two.has (one.change.puts f)) o e z;
    }

    -- a result in a register below those of the operands
    pub given_to : {w : List Symbol} {t j k top x y : ℕ} {c : Kind} {in_core : (ℕ → ℕ → List Symbol) → List Symbol}
        {m : BinOp → ℕ} → k < j → j < top → part top ≤ n → (o : BinOp) → kind o ≡ c
        → Both c w t in_core m j top x y
        → Opens (w ++ in_core (λ a s. give_cells o (part k) a s)) (t + m o) k top (operated o x y)
    given_to {w = w} {t = t} {j = j} {k = k} {top = top} {x = x} {y = y} {in_core = in_core} {m = m} h l room o e both =
        record {
          change = then_written (operated o x y) (omega arith) (omega arith)
              (more_change (omega arith) (omega arith) both.change) there;
          has = λ f. written_at (both.change.puts f) (part k) (operated o x y);
        }
      where
        there : (f : ℕ → ℕ) → Free b k top f → (zs : List ℕ) → like zs
            → Goes (in_core (λ a s. give_cells o (part k) a s)) (m o)
            (known n (both.change.puts f) zs) (known n (written (both.change.puts f) (part k) (operated o x y)) zs)
        there f r zs s =
            let zero : both.change.puts f (part k) ≡ 0 = both.change.low f (part k) (omega arith)
            ∙ r.clear (part k) (omega arith) (omega arith) in
            let away : Apart j top (part k) = record {
              object_not = λ e. omega arith;
              frame_not = λ e. omega arith;
              content_not = λ e. omega arith;
              nought_not = λ e. omega arith;
              outcome_not = λ e. omega arith;
              side = inl (omega arith);
            } in
            from_known zs (both.change.puts f) (part k) 0 (bit_xor 0 (operated o x y)) (operated o x y) zero
            (xor_zero_l (operated o x y))
            (both.give o e f (less_free (omega arith) (omega arith) f r) (part k) 0 (omega arith) away zs s)

    -- the truth value of a register xored into another
    pub told_goes : (zs : List ℕ) (g : ℕ → ℕ) (d a z v : ℕ) → d < n → a < n → NOUGHT < n → NOUGHT ≢ d → a ≢ d
        → g NOUGHT ≡ 0
        → g a ≡ v → v < 2 ^ 32
        → Goes (truth_cells d a) 2 (known n (written g d z) zs)
        (known n (written g d (bit_xor z (truth_word (is_true v)))) zs)
    told_goes zs g d a z v hd ha hn nd na zero has vw =
        let p : ℕ = table.word_of (is_less (g NOUGHT) (g a)) in
        let q : ℕ = table.word_of (is_less (g a) (g NOUGHT)) in
        let is : bit_xor p q ≡ truth_word (is_true v) =
        ap (λ u. bit_xor (table.word_of (is_less u (g a))) (table.word_of (is_less (g a) u))) zero
        ∙ ap (λ u. bit_xor (table.word_of (is_less 0 u)) (table.word_of (is_less u 0))) has ∙ Comparing.truth_of v vw in
        goes_to refl refl (ap (λ u. known n (written g d u) zs) (xor_assoc z p q ∙ ap (bit_xor z) is))
        (goes_cons (sltx_goes n g zs d hd NOUGHT a hn ha nd na z)
        (sltx_goes n g zs d hd a NOUGHT ha hn na nd (bit_xor z p)))

    -- ---- traps: an operand meets its fault

    no_more : {w : List Symbol} {t c : ℕ} {m : Memory} (p : Bool) (k : ℕ) → Traps w t c m
        → Traps (told_cells p w k) (told_steps p t) c m
    no_more true k tr = tr
    no_more false k tr = traps_more (omega arith) (traps_first (truth_cells (part k) (part (k + 1))) tr)

    before_left : {w : List Symbol} {t c : ℕ} {m : Memory} (v : List Symbol) (u : ℕ) (z l r : Bool) → (l ≡ true → ⊥)
        → Traps w t c m
        → Traps (before z l r w v) (before_steps z l r t u) c m
    before_left v u true true r never tr = absurd (never refl)
    before_left v u true false r never tr = tr
    before_left v u false true true never tr = tr
    before_left v u false false true never tr = tr
    before_left v u false true false never tr = absurd (never refl)
    before_left v u false false false never tr = traps_more (omega arith) (traps_first v tr)

    before_right : {w v : List Symbol} {t u c : ℕ} {m m1 : Memory} (z l r : Bool) → (z ≡ true → ⊥) → (r ≡ true → ⊥)
        → Goes w t m m1 → Traps v u c m1 → Traps v u c m → Traps (before z l r w v) (before_steps z l r t u) c m
    before_right true l r never leafless g tr own = absurd (never refl)
    before_right false true true never leafless g tr own = absurd (leafless refl)
    before_right false false true never leafless g tr own = absurd (leafless refl)
    before_right false true false never leafless g tr own = own
    before_right false false false never leafless g tr own = traps_then g tr

    -- ---- expressions

    -- a register of parts that was 0
    pub opens_by : {w : List Symbol} {t k : ℕ} (v : ℕ) → part k < n
        → ((f : ℕ → ℕ) → Free b k (k + 1) f → (zs : List ℕ) → like zs → Goes w t (known n (written f (part k) 0) zs)
        (known n (written f (part k) (bit_xor 0 v)) zs)) → Opens w t k (k + 1) v
    opens_by {w = w} {t = t} {k = k} v h go = record {
      change = record {
        puts = λ f. written f (part k) v;
        goes = λ f r zs s. from_known zs f (part k) 0 (bit_xor 0 v) v (r.clear (part k) (omega arith) (omega arith))
            (xor_zero_l v) (go f r zs s);
        low = λ f r q. written_off f (part k) v r (λ e. omega arith);
        high = λ f r q. written_off f (part k) v r (λ e. omega arith);
        local = λ f g r q. written_local f g (part k) v r q;
      };
      has = λ f. written_at f (part k) v;
    }

    copy_goes : (sp : Spot) (k x : ℕ) → part k < n → Shows true sp x → (f : ℕ → ℕ) → Free b k (k + 1) f
        → (zs : List ℕ) → like zs
        → Goes (around (reach_cells sp) (xor (part k) CONTENT ∷ [])) 5 (known n (written f (part k) 0) zs)
        (known n (written f (part k) (bit_xor 0 x)) zs)
    copy_goes sp k x h q f r zs s =
        let f' : ℕ → ℕ = taken n f (base_of sp) (spot_address b sp) zs in
        let ws : List ℕ = slice_set zs (spot_address b sp) 0 in
        let i = q zs s in
        out_goes zs s sp (xor (part k) CONTENT ∷ []) 1 (part k) 0 (bit_xor 0 x) f r.object_is r.frame_is r.content_is
        (λ e. omega arith) (λ e. omega arith) (λ e. omega arith) i.0
        (goes_to refl refl (ap (λ v. known n (written f' (part k) (bit_xor 0 v)) ws) (taken_word zs f sp ∙ i.1))
        (xor_goes n f' ws (part k) h CONTENT hc (λ e. omega arith) 0))

    -- a truth by the value opened past it
    told_by : {w : List Symbol} {t k m v : ℕ} (p : Bool) → (p ≡ true → v ≡ truth_word (is_true v)) → 1 ≤ m
        → v < 2 ^ 32 → part (k + (beside p + m)) ≤ n → Opens w t (past p k) (past p k + m) v
        → Opens (told_cells p w k) (told_steps p t) k (k + (beside p + m)) (truth_word (is_true v))
    told_by true e h vw room one = more_open (omega arith) (e refl) one
    told_by {w = w} {t = t} {k = k} {m = m} {v = v} false e h vw room one = record {
      change = then_written (truth_word (is_true v)) (omega arith) (omega arith)
          (more_change (omega arith) (omega arith) one.change) there;
      has = λ f. written_at (one.change.puts f) (part k) (truth_word (is_true v));
    }
      where
        there : (f : ℕ → ℕ) → Free b k (k + (1 + m)) f → (zs : List ℕ) → like zs
            → Goes (truth_cells (part k) (part (k + 1))) 2
            (known n (one.change.puts f) zs)
            (known n (written (one.change.puts f) (part k) (truth_word (is_true v))) zs)
        there f r zs s =
            let g : ℕ → ℕ = one.change.puts f in
            from_known zs g (part k) 0 (bit_xor 0 (truth_word (is_true v))) (truth_word (is_true v))
            (one.change.low f (part k) (omega arith) ∙ r.clear (part k) (omega arith) (omega arith))
            (xor_zero_l (truth_word (is_true v)))
            (told_goes zs g (part k) (part (k + 1)) 0 v (omega arith) (omega arith) (omega arith) (λ e. omega arith)
            (λ e. omega arith) (one.change.low f NOUGHT (omega arith) ∙ r.nought_is) (one.has f) vw)

    -- a right operand that is a number, or any other
    changed_by : {w v : List Symbol} {t u k j top x y : ℕ} → k < j → j < top → part top ≤ n → Opens w t k j x
        → Opens v u j top y → x < 2 ^ 32 → y < 2 ^ 32 → (o : BinOp) → kind o ≡ which.Changes → (z q : Bool) (word : ℕ)
        → (z ≡ true → y ≡ word) → (xs ys : Spot) → Shows q ys y
        → Opens (before z false q w v ++ (if z then literal_cells o (part k) word
        else core false false q xs ys (part k) (part j) (λ a s. change_cells o a s)))
        (before_steps z false q t u + (if z then 1 else core_steps false false q (operator_steps o))) k top
        (operated o x y)
    changed_by h l room one two wx wy o e false q word i xs ys c = changed h l room one two wx wy o e q xs ys c
    changed_by {w = w} {t = t} {k = k} {top = top} {x = x} {y = y} h l room one two wx wy o e true q word i xs ys c =
        subst (λ z. Opens (w ++ literal_cells o (part k) z) (t + 1) k top (operated o x y)) (i refl)
        (by_literal h l room one two wx wy o e)

    -- ---- an element, by what opens its index

    module _ {w : List Symbol} {t x : ℕ} (k m : ℕ) (some : 1 ≤ m) (room : part (k + (2 + m)) ≤ n)
        (one : Opens w t (k + 2) (k + 2 + m) x) (sp : Spot) (arr : ℕ) (shown : Shows true sp arr) where
      abbrev opened_index : Changes w t k (k + (2 + m))
      opened_index = more_change (omega arith) (omega arith) one.change

      abbrev pub with_array : Changes (w ++ copy_cells sp (part (k + 1))) (t + 5) k (k + (2 + m))
      with_array = then_written {j = k + 1} arr (omega arith) (omega arith) opened_index (λ f r ws y.
          (let g : ℕ → ℕ = one.change.puts f in
          let g' : ℕ → ℕ = taken n g (base_of sp) (spot_address b sp) ws in
          let i = shown ws y in
          from_known ws g (part (k + 1)) 0 (bit_xor 0 arr) arr
          (one.change.low f (part (k + 1)) (omega arith) ∙ r.clear (part (k + 1)) (omega arith) (omega arith))
          (xor_zero_l arr)
          (out_goes ws y sp (xor (part (k + 1)) CONTENT ∷ []) 1 (part (k + 1)) 0 (bit_xor 0 arr) g
          (one.change.low f OBJECT (omega arith) ∙ r.object_is) (one.change.low f FRAME (omega arith) ∙ r.frame_is)
          (one.change.low f CONTENT (omega arith) ∙ r.content_is) (λ e. omega arith) (λ e. omega arith)
          (λ e. omega arith) i.0
          (goes_to refl refl (ap (λ z. known n (written g' (part (k + 1)) (bit_xor 0 z))
          (slice_set ws (spot_address b sp) 0)) (taken_word ws g sp ∙ i.1))
          (xor_goes n g' (slice_set ws (spot_address b sp) 0) (part (k + 1)) (omega arith) CONTENT hc
          (λ e. omega arith) 0)))))

      pub has_array : (f : ℕ → ℕ) → with_array.puts f (part (k + 1)) ≡ arr
      has_array f = written_at (one.change.puts f) (part (k + 1)) arr

      pub has_index : (f : ℕ → ℕ) → with_array.puts f (part (k + 2)) ≡ x
      has_index f = written_off (one.change.puts f) (part (k + 1)) arr (part (k + 2)) (λ e. omega arith) ∙ one.has f

      module _ (stands : (ws : List ℕ) → like ws → HasElement arr x ws) where
        abbrev checked : Changes ((w ++ copy_cells sp (part (k + 1)))
            ++ (nil_check_of (part (k + 1)) ++ index_check_of (part (k + 1)) (part (k + 2))))
            ((t + 5) + (2 + 7)) k (k + (2 + m))
        checked = then_same with_array (λ f r ws y.
            (let h = stands ws y in
            let g : ℕ → ℕ = with_array.puts f in
            let ea : g (part (k + 1)) ≡ arr = has_array f in
            let ei : g (part (k + 2)) ≡ x = has_index f in
            let co : g OUTCOME ≡ 0 = with_array.low f OUTCOME (omega arith) ∙ r.outcome_is in
            let cn : g NOUGHT ≡ 0 = with_array.low f NOUGHT (omega arith) ∙ r.nought_is in
            let cc' : g CONTENT ≡ 0 = with_array.low f CONTENT (omega arith) ∙ r.content_is in
            let a1 = h.array_is in
            let a2 = h.array_small in
            let a3 = h.inside_it in
            let a4 = h.length_small in
            let a5 = h.below in
            let len : slice_index ws (g (part (k + 1))) ≡ slice_index ws arr = ap (slice_index ws) ea in
            goes_seq (nil_goes n g ws (part (k + 1)) (omega arith) (omega arith) (λ e. a1 (sym ea ∙ e)))
            (index_goes n g ws (omega arith) co cn cc' (part (k + 1)) (part (k + 2)) (omega arith) (omega arith)
            (λ e. omega arith) (λ e. omega arith) (λ e. omega arith) (λ e. omega arith) (omega arith) (omega arith)
            (omega arith))))

        abbrev pub pointed : Changes (((w ++ copy_cells sp (part (k + 1)))
            ++ (nil_check_of (part (k + 1)) ++ index_check_of (part (k + 1)) (part (k + 2))))
            ++ point_of (part (k + 1)) (part (k + 2))) (element_steps t) k (k + (2 + m))
        pointed = then_written {j = k + 1} (arr + x + HEADER_WORDS) (omega arith) (omega arith) checked (λ f r ws y.
            (let h = stands ws y in
            let l = small ws y in
            let a5 = h.below in
            point_goes n (with_array.puts f) ws (part (k + 1)) (part (k + 2)) x arr (omega arith) (omega arith)
            (λ e. omega arith) (has_array f) (has_index f) (omega arith) (omega arith)))

        pub has_address : (f : ℕ → ℕ) → pointed.puts f (part (k + 1)) ≡ arr + x + HEADER_WORDS
        has_address f = written_at (with_array.puts f) (part (k + 1)) (arr + x + HEADER_WORDS)

        pub pointed_below : (f : ℕ → ℕ) → Free b k (k + (2 + m)) f → pointed.puts f (part k) ≡ 0
        pointed_below f r = written_off (with_array.puts f) (part (k + 1)) (arr + x + HEADER_WORDS) (part k)
            (λ e. omega arith)
            ∙ written_off (one.change.puts f) (part (k + 1)) arr (part k) (λ e. omega arith)
            ∙ one.change.low f (part k) (omega arith) ∙ r.clear (part k) (omega arith) (omega arith)

    module _ (low : ℕ) (inside : (zs : List ℕ) → like zs → low ≤ length zs) (zs : List ℕ) (all : AllWords zs) where
      -- what an expression reads is the same: if it reads elements, all is
      abbrev pub Reads : List ℕ → Expression → Type 0
      Reads ws (Number at word) = Unit {0}
      Reads ws (Null at) = Unit {0}
      Reads ws (Variable name) = word_of spot b ws name.text ≡ word_of spot b zs name.text
      Reads ws (Element name index) = ws ≡ zs
      Reads ws (Binary at o left right) = Reads ws left × Reads ws right

      abbrev pub Alike : Expression → Type 0
      Alike e = (ws : List ℕ) → like ws → Reads ws e

      pub shows : (e : Expression) → Sees spot b low zs e → Alike e → Shows (is_variable e) (expression_spot spot e)
          (word_given (number spot b zs e))
      shows (Number at word) s a = tt
      shows (Null at) s a = tt
      shows (Variable name) s a = λ ws y. (let l = inside ws y in omega arith, a ws y)
      shows (Element name index) s a = tt
      shows (Binary at o left right) s a = tt

      pub told_opens : (e : Expression) (k : ℕ) → part (k + told_need e) ≤ n → Fine spot b zs e → Sees spot b low zs e
          → Opens (held_cells spot e (past (is_truth e) k)) (held_steps e) (past (is_truth e) k)
          (past (is_truth e) k + need e) (word_given (number spot b zs e))
          → Opens (told_cells (is_truth e) (held_cells spot e (past (is_truth e) k)) k)
          (told_steps (is_truth e) (held_steps e)) k (k + told_need e)
          (truth_word (is_true (word_given (number spot b zs e))))
      told_opens e k room h s one = told_by (is_truth e) (own_truth spot b zs e h) (need_least e)
          (value_word spot b zs low all e s h) room one

      pub reads_self : (e : Expression) → Reads zs e
      reads_self (Number at word) = tt
      reads_self (Null at) = tt
      reads_self (Variable name) = refl
      reads_self (Element name index) = refl
      reads_self (Binary at o left right) = (reads_self left, reads_self right)

      index_of : (arr : ℕ) (r : Result ℕ ℕ) (v : ℕ) → word_in zs (element_at zs arr r) ≡ Ok v → r ≡ Ok (word_given r)
      index_of arr (Ok x) v e = refl
      index_of arr (Err c) v e = absurd (cc)

      pub index_fine : (name : List ℕ) (index : Expression)
          → word_in zs (element_at zs (word_of spot b zs name) (number spot b zs index))
          ≡ Ok (word_given (word_in zs (element_at zs (word_of spot b zs name) (number spot b zs index))))
          → Fine spot b zs index
      index_fine name index e = index_of (word_of spot b zs name) (number spot b zs index) _ e

      -- an element, by what opens its index
      module _ (name : Ident) (index : Expression) (k : ℕ) (room : part (k + (2 + need index)) ≤ n)
          (s : Sees spot b low zs (Element name index)) (alike : Alike (Element name index))
          (one : Opens (held_cells spot index (k + 2)) (held_steps index) (k + 2)
          (k + 2 + need index) (word_given (number spot b zs index))) where
        abbrev arr : ℕ
        arr = word_of spot b zs name.text

        abbrev x : ℕ
        x = word_given (number spot b zs index)

        abbrev v : ℕ
        v = word_given (number spot b zs (Element name index))

        shown_array : Shows true (spot name.text) (word_of spot b zs name.text)
        shown_array ws y = (
          let l = inside ws y in let h = s.0 in omega arith,
          ap (λ u. slice_index u (spot_address b (spot name.text))) (alike ws y),
        )

        abbrev array_opened : Changes (held_cells spot index (k + 2) ++ copy_cells (spot name.text) (part (k + 1)))
            (held_steps index + 5) k (k + (2 + need index))
        array_opened = with_array k (need index) (need_least index) room one (spot name.text) arr shown_array

        array_has : (f : ℕ → ℕ) → array_opened.puts f (part (k + 1)) ≡ word_of spot b zs name.text
        array_has f = has_array k (need index) (need_least index) room one (spot name.text) arr shown_array f

        index_has : (f : ℕ → ℕ) → array_opened.puts f (part (k + 2)) ≡ word_given (number spot b zs index)
        index_has f = has_index k (need index) (need_least index) room one (spot name.text) arr shown_array f

        module _ (fine : Fine spot b zs (Element name index)) where
          abbrev in_word : (addr : ℕ) × (element_at zs (word_of spot b zs name.text) (number spot b zs index) ≡ Ok addr)
              × (slice_index zs addr ≡ word_given (number spot b zs (Element name index)))
          in_word = address_of_word zs (element_at zs arr (number spot b zs index)) v fine

          stands_there : like zs → HasElement (word_of spot b zs name.text) (word_given (number spot b zs index)) zs
          stands_there y =
              let i = inside_of zs arr (number spot b zs index) in_word.0 in_word.1 in
              let e : x ≡ i.x = ok_is (sym (index_fine name.text index fine) ∙ i.index) in
              let block = s.1.room i.array_is in
              let short = s.1.short i.array_is in
              let l = inside zs y in
              let m = small zs y in
              let lower = i.below in
              record {
                array_is = i.array_is;
                array_small = omega arith;
                inside_it = omega arith;
                length_small = short;
                below = omega arith;
              }

          word_there : slice_index zs (word_of spot b zs name.text + word_given (number spot b zs index) + HEADER_WORDS)
              ≡ word_given (number spot b zs (Element name index))
          word_there =
              let i = inside_of zs arr (number spot b zs index) in_word.0 in_word.1 in
              let e : x ≡ i.x = ok_is (sym (index_fine name.text index fine) ∙ i.index) in
              ap (λ z. slice_index zs (arr + z + HEADER_WORDS)) e ∙ ap (slice_index zs) i.at ∙ in_word.2

          stands : (ws : List ℕ) → like ws
              → HasElement (word_of spot b zs name.text) (word_given (number spot b zs index)) ws
          stands ws y =
              let q = alike ws y in
              subst (λ u. HasElement (word_of spot b zs name.text) (word_given (number spot b zs index)) u) (sym q)
              (stands_there (subst like q y))

          abbrev place_opened : Changes (element_cells spot name.text (held_cells spot index (k + 2)) k)
              (element_steps (held_steps index)) k (k + (2 + need index))
          place_opened = pointed k (need index) (need_least index) room one (spot name.text) arr shown_array stands

          element_opens : Opens (held_cells spot (Element name index) k) (held_steps (Element name index)) k
              (k + (2 + need index)) (word_given (number spot b zs (Element name index)))
          element_opens = record {
            change = then_written v (omega arith) (omega arith) place_opened (λ f r ws y.
                (let q = alike ws y in
                let t = stands ws y in
                let g : ℕ → ℕ = place_opened.puts f in
                let a : ℕ = arr + x + HEADER_WORDS in
                let a5 = t.below in
                let w : slice_index ws a ≡ v = ap (λ u. slice_index u a) q ∙ word_there in
                let g' : ℕ → ℕ = written g CONTENT (slice_index ws a) in
                let out : (z : ℕ) → Goes (exch CONTENT (part (k + 1)) ∷ []) 1 (known n (written g (part k) z) ws)
                (known n (written g' (part k) z) (slice_set ws a 0)) =
                λ z. goes_to refl refl (known_same n _ _ (slice_set ws a 0)
                (λ r l. written_both g (part k) z CONTENT (slice_index ws a) r (λ e. omega arith)))
                (word_out n (written g (part k) z) ws (part (k + 1)) a (omega arith) hc (λ e. omega arith)
                (written_off g (part k) z (part (k + 1)) (λ e. omega arith)
                ∙ has_address k (need index) (need_least index) room one (spot name.text) arr shown_array stands f)
                (written_off g (part k) z CONTENT (λ e. omega arith) ∙ place_opened.low f CONTENT (omega arith)
                ∙ r.content_is) (omega arith)) in
                from_known ws g (part k) 0 (bit_xor 0 v) v
                (pointed_below k (need index) (need_least index) room one (spot name.text) arr shown_array stands f r)
                (xor_zero_l v)
                (goes_around (out 0) (goes_to refl refl (ap (λ u. known n (written g' (part k) (bit_xor 0 u))
                (slice_set ws a 0)) (written_at g CONTENT (slice_index ws a) ∙ w))
                (xor_goes n g' (slice_set ws a 0) (part k) (omega arith) CONTENT hc (λ e. omega arith) 0))
                (out (bit_xor 0 v)))));
            has = λ f. written_at (place_opened.puts f) (part k) v;
          }

      pub held_opens : (e : Expression) (k : ℕ) → part (k + need e) ≤ n → need e < 10 → Fine spot b zs e
          → Sees spot b low zs e → Alike e
          → Opens (held_cells spot e k) (held_steps e) k (k + need e) (word_given (number spot b zs e))
      held_opens (Number at word) k r h g s a = opens_by word (omega arith)
          (λ f q ws y. xori_goes n f ws (part k) (omega arith) word 0 s)
      held_opens (Null at) k r h g s a = opens_by 0 (omega arith)
          (λ f q ws y. xori_goes n f ws (part k) (omega arith) 0 0 (omega arith))
      held_opens (Variable name) k r h g s a = opens_by (word_of spot b zs name.text) (omega arith)
          (λ f q ws y. copy_goes (spot name.text) k (word_of spot b zs name.text) (omega arith)
          (shows (Variable name) s a) f q ws y)
      held_opens (Element name index) k r h g s a = element_opens name index k (omega arith) s a
          (held_opens index (k + 2) (omega arith) (omega arith) (index_fine name.text index g) s.2
          (λ ws y. subst (λ u. Reads u index) (sym (a ws y)) (reads_self index))) g
      held_opens (Binary at o left right) k r h g s a = by
          (λ j r h. held_opens left j r h (fine_left spot b zs o (number spot b zs left) (number spot b zs right) g) s.0
          (λ ws y. let i = a ws y in i.0))
          (λ j r h. held_opens right j r h (fine_right spot b zs o (number spot b zs left) (number spot b zs right) g)
          s.1 (λ ws y. let i = a ws y in i.1)) (kind o) refl r h
        where
          by : ((j : ℕ) → part (j + need left) ≤ n → need left < 10
              → Opens (held_cells spot left j) (held_steps left) j (j + need left) (word_given (number spot b zs left)))
              → ((j : ℕ) → part (j + need right) ≤ n → need right < 10
              → Opens (held_cells spot right j) (held_steps right) j (j + need right)
              (word_given (number spot b zs right)))
              → (c : Kind) → kind o ≡ c
              → part (k + (own c (is_truth left) (is_truth right) + (need left + need right))) ≤ n
              → own c (is_truth left) (is_truth right) + (need left + need right) < 10
              → Opens (operated_cells spot c o left right (held_cells spot left (left_at c (is_truth left) k))
              (held_cells spot right (right_at c (is_truth left) (is_truth right) (need left) k)) k)
              (operated_steps c o left right (held_steps left) (held_steps right)) k
              (k + (own c (is_truth left) (is_truth right) + (need left + need right)))
              (word_given (number spot b zs (Binary at o left right)))
          by one two which.Changes e r h =
              let i = need_least left in
              let j = need_least right in
              more_open (omega arith) (given_is spot b zs at o left right g)
              (changed_by (omega arith) (omega arith) (omega arith) (one k (omega arith) (omega arith))
              (two (k + need left) (omega arith) (omega arith))
              (value_word spot b zs low all left s.0 (fine_left spot b zs o (number spot b zs left)
              (number spot b zs right) g))
              (value_word spot b zs low all right s.1 (fine_right spot b zs o (number spot b zs left)
              (number spot b zs right) g)) o e (is_literal right) (is_variable right)
              (literal_in right) (literal_is spot b zs right) (expression_spot spot left) (expression_spot spot right)
              (shows right s.1 (λ ws y. let i = a ws y in i.1)))
          by one two Gives e r h =
              let i = need_least left in
              let j = need_least right in
              more_open (omega arith) (given_is spot b zs at o left right g)
              (given_to (omega arith) (omega arith) (omega arith) o e
              (both_of (omega arith) (omega arith) (omega arith) (one (k + 1) (omega arith) (omega arith))
              (two (k + 1 + need left) (omega arith) (omega arith))
              (value_word spot b zs low all left s.0 (fine_left spot b zs o (number spot b zs left)
              (number spot b zs right) g))
              (value_word spot b zs low all right s.1 (fine_right spot b zs o (number spot b zs left)
              (number spot b zs right) g)) (is_zero_literal right) (is_variable left)
              (is_variable right) (expression_spot spot left) (expression_spot spot right) (zero_is spot b zs right)
              (shows left s.0 (λ ws y. let i = a ws y in i.0))
              (shows right s.1 (λ ws y. let i = a ws y in i.1))))
          by one two Joins e r h =
              let i = need_least left in
              let j = need_least right in
              let p = past_is (is_truth left) (k + 1) in
              let q = past_is (is_truth right) (k + 1 + told_need left) in
              more_open (omega arith) (given_is spot b zs at o left right g)
              (given_to (omega arith) (omega arith) (omega arith) o e
              (both_joined (omega arith) (omega arith) (omega arith)
              (told_opens left (k + 1) (omega arith) (fine_left spot b zs o (number spot b zs left)
              (number spot b zs right) g) s.0
              (one (past (is_truth left) (k + 1)) (omega arith) (omega arith)))
              (told_opens right (k + 1 + told_need left) (omega arith)
              (fine_right spot b zs o (number spot b zs left) (number spot b zs right) g) s.1
              (two (past (is_truth right) (k + 1 + told_need left)) (omega arith) (omega arith)))))
          by one two Neither e r h = absurd (omega arith)

      -- an expression with a fault, wherever its registers are
      abbrev pub Trapping : Expression → ℕ → Type 0
      Trapping e c = (j : ℕ) → part (j + need e) ≤ n → number spot b zs e ≡ Err c → (g : ℕ → ℕ)
          → Free b j (j + need e) g → Traps (held_cells spot e j) (held_steps e) c (known n g zs)

      abbrev pub OneErr : (left right : Expression) → ℕ → Type 0
      OneErr left right c = (number spot b zs left ≡ Err c)
          ⊎ ((x : ℕ) × (number spot b zs left ≡ Ok x) × (number spot b zs right ≡ Err c))

      -- what opens the operands of an operator, of which one has a fault
      module _ (left right : Expression) (k j c : ℕ) (some : need left + need right < 10) (s : Sees spot b low zs left)
          (a : Alike left) (y : like zs) (tl : Trapping left c) (tr : Trapping right c) (f : ℕ → ℕ) where
        pub before_traps : (z l r : Bool) → (number spot b zs left ≡ Err c → l ≡ true → ⊥)
            → (number spot b zs right ≡ Err c → z ≡ true → ⊥) → (number spot b zs right ≡ Err c → r ≡ true → ⊥)
            → j ≡ k + need left → part (j + need right) ≤ n → Free b k (j + need right) f → OneErr left right c
            → Traps (before z l r (held_cells spot left k) (held_cells spot right j))
            (before_steps z l r (held_steps left) (held_steps right)) c (known n f zs)
        before_traps z l r no_left no_zero no_leaf at room p (inl el) =
            before_left (held_cells spot right j) (held_steps right) z l r (no_left el)
            (tl k (omega arith) el f (less_free (omega arith) (omega arith) f p))
        before_traps z l r no_left no_zero no_leaf at room p (inr (x, el, er)) =
            let first = more_open {most = j} (omega arith) refl
            (held_opens left k (omega arith) (omega arith) (ok_fine spot b zs (number spot b zs left) x el) s a) in
            before_right z l r (no_zero er) (no_leaf er)
            (first.change.goes f (less_free (omega arith) (omega arith) f p) zs y)
            (tr j (omega arith) er (first.change.puts f)
            (still_free {j = j} first.change (omega arith) f (j + need right) (omega arith) p))
            (tr j (omega arith) er f (less_free (omega arith) (omega arith) f p))

        -- or their truths
        pub told_traps : j ≡ k + told_need left → part (j + told_need right) ≤ n → Free b k (j + told_need right) f
            → OneErr left right c
            → Traps (told_cells (is_truth left) (held_cells spot left (past (is_truth left) k)) k
            ++ told_cells (is_truth right) (held_cells spot right (past (is_truth right) j)) j)
            (told_steps (is_truth left) (held_steps left) + told_steps (is_truth right) (held_steps right)) c
            (known n f zs)
        told_traps at room p (inl el) =
            let i = past_is (is_truth left) k in
            traps_more (omega arith) (traps_first
            (told_cells (is_truth right) (held_cells spot right (past (is_truth right) j)) j)
            (no_more (is_truth left) k
            (tl (past (is_truth left) k) (omega arith) el f (less_free (omega arith) (omega arith) f p))))
        told_traps at room p (inr (x, el, er)) =
            let i = past_is (is_truth left) k in
            let i' = past_is (is_truth right) j in
            let fl = ok_fine spot b zs (number spot b zs left) x el in
            let first = more_open {most = j} (omega arith) refl (told_opens left k (omega arith) fl s
            (held_opens left (past (is_truth left) k) (omega arith) (omega arith) fl s a)) in
            traps_then (first.change.goes f (less_free (omega arith) (omega arith) f p) zs y)
            (no_more (is_truth right) j
            (tr (past (is_truth right) j) (omega arith) er (first.change.puts f)
            (less_free (omega arith) (omega arith) (first.change.puts f)
            (still_free first.change (omega arith) f (j + told_need right) (omega arith) p))))

      -- the fault of an element, by that of its index
      module _ (name : Ident) (index : Expression) (k c : ℕ) (r : part (k + (2 + need index)) ≤ n)
          (h : 2 + need index < 10) (s : Sees spot b low zs (Element name index)) (a : Alike (Element name index))
          (y : like zs) (f : ℕ → ℕ) (p : Free b k (k + (2 + need index)) f)
          (inner_traps : number spot b zs index ≡ Err c
          → Traps (held_cells spot index (k + 2)) (held_steps index) c (known n f zs)) where
        opens_index : Fine spot b zs index → Opens (held_cells spot index (k + 2)) (held_steps index) (k + 2)
            (k + 2 + need index) (word_given (number spot b zs index))
        opens_index g = held_opens index (k + 2) (omega arith) (omega arith) g s.2
            (λ ws q. subst (λ u. Reads u index) (sym (a ws q)) (reads_self index))

        pub element_traps : IsFault zs (word_of spot b zs name.text) (number spot b zs index) c
            → Traps (element_cells spot name.text (held_cells spot index (k + 2)) k) (element_steps (held_steps index))
            c (known n f zs)
        element_traps (by_index q) = traps_more (omega arith) (traps_first
            (point_of (part (k + 1)) (part (k + 2))) (traps_first (nil_check_of (part (k + 1))
            ++ index_check_of (part (k + 1)) (part (k + 2))) (traps_first (copy_cells (spot name.text) (part (k + 1)))
            (inner_traps q))))
        element_traps (by_nil x q z five) =
            let g = ok_fine spot b zs (number spot b zs index) x q in
            let ch = array_opened name index k r s a (opens_index g) in
            let a0 = need_least index in
            subst (λ c. Traps (element_cells spot name.text (held_cells spot index (k + 2)) k)
            (element_steps (held_steps index)) c (known n f zs)) (sym five)
            (traps_more (omega arith) (traps_first (point_of (part (k + 1)) (part (k + 2)))
            (traps_then (ch.goes f p zs y) (traps_first (index_check_of (part (k + 1)) (part (k + 2)))
            (nil_traps n (ch.puts f) zs (part (k + 1)) (omega arith)
            (array_has name index k r s a (opens_index g) f ∙ z))))))
        element_traps (by_end x q z l nine) =
            let g = ok_fine spot b zs (number spot b zs index) x q in
            let ch = array_opened name index k r s a (opens_index g) in
            let a0 = need_least index in
            let ea = array_has name index k r s a (opens_index g) f in
            let ei = index_has name index k r s a (opens_index g) f in
            let ix : word_given (number spot b zs index) ≡ x = ap word_given q in
            let xw = value_word spot b zs low all index s.2 g in
            let block = s.1.room z in
            let short = s.1.short z in
            let low_in = inside zs y in
            let m = small zs y in
            let co = ch.low f OUTCOME (omega arith) ∙ p.outcome_is in
            let cn = ch.low f NOUGHT (omega arith) ∙ p.nought_is in
            let len : slice_index zs (ch.puts f (part (k + 1))) ≡ slice_index zs (word_of spot b zs name.text) =
            ap (slice_index zs) ea in
            subst (λ c. Traps (element_cells spot name.text (held_cells spot index (k + 2)) k)
            (element_steps (held_steps index)) c (known n f zs)) (sym nine)
            (traps_more (omega arith) (traps_first (point_of (part (k + 1)) (part (k + 2)))
            (traps_then (ch.goes f p zs y) (traps_then
            (nil_goes n (ch.puts f) zs (part (k + 1)) (omega arith) (omega arith) (λ e. z (sym ea ∙ e)))
            (index_traps n (ch.puts f) zs (omega arith) co cn (ch.low f CONTENT (omega arith) ∙ p.content_is)
            (part (k + 1)) (part (k + 2)) (omega arith) (omega arith) (λ e. omega arith) (λ e. omega arith)
            (λ e. omega arith) (λ e. omega arith) (omega arith) (omega arith) (omega arith) (omega arith))))))

      -- the fault that an expression meets first is a trap
      pub held_traps : (e : Expression) (k c : ℕ) → part (k + need e) ≤ n → need e < 10 → Sees spot b low zs e → Alike e
          → number spot b zs e ≡ Err c → like zs → (f : ℕ → ℕ) → Free b k (k + need e) f
          → Traps (held_cells spot e k) (held_steps e) c (known n f zs)
      held_traps (Number at word) k c r h s a e y f p = absurd (cc)
      held_traps (Null at) k c r h s a e y f p = absurd (cc)
      held_traps (Variable name) k c r h s a e y f p = absurd (cc)
      held_traps (Element name index) k c r h s a e y f p = traps_more (omega arith)
          (traps_first (around (exch CONTENT (part (k + 1)) ∷ []) (xor (part k) CONTENT ∷ []))
          (element_traps name index k c r h s a y f p
          (λ q. held_traps index (k + 2) c (omega arith) (omega arith) s.2
          (λ ws z. subst (λ u. Reads u index) (sym (a ws z)) (reads_self index)) q y f
          (less_free (omega arith) (omega arith) f p)) (fault_of zs (word_of spot b zs name.text)
          (number spot b zs index)
          c (fault_of_word zs (element_at zs (word_of spot b zs name.text) (number spot b zs index)) c e))))
      held_traps (Binary at o left right) k c r h s a e y f p =
          by (λ l j q el g w. held_traps left j c q l s.0 (λ ws z. let i = a ws z in i.0) el y g w)
          (λ l j q er g w. held_traps right j c q l s.1 (λ ws z. let i = a ws z in i.1) er y g w) (kind o) r h p
          (one_err o (number spot b zs left) (number spot b zs right) c e)
        where
          to_left : Alike left
          to_left ws q = let i = a ws q in i.0

          by : (need left < 10 → Trapping left c) → (need right < 10 → Trapping right c) → (q : Kind)
              → part (k + (own q (is_truth left) (is_truth right) + (need left + need right))) ≤ n
              → own q (is_truth left) (is_truth right) + (need left + need right) < 10
              → Free b k (k + (own q (is_truth left) (is_truth right) + (need left + need right))) f
              → OneErr left right c
              → Traps (operated_cells spot q o left right (held_cells spot left (left_at q (is_truth left) k))
              (held_cells spot right (right_at q (is_truth left) (is_truth right) (need left) k)) k)
              (operated_steps q o left right (held_steps left) (held_steps right)) c (known n f zs)
          by tl tr Neither r h p w = absurd (omega arith)
          by tl tr which.Changes r h p w = traps_more (omega arith)
              (traps_first (core_cells spot which.Changes o left right k)
              (before_traps left right k (k + need left) c (omega arith) s.0 to_left y (tl (omega arith))
              (tr (omega arith)) f (is_literal right) false (is_variable right) (λ e q. absurd (cc))
              (literal_none spot b zs right c) (leaf_none spot b zs right c) refl (omega arith)
              (less_free (omega arith) (omega arith) f p) w))
          by tl tr Gives r h p w = traps_more (omega arith) (traps_first (core_cells spot Gives o left right k)
              (before_traps left right (k + 1) (k + 1 + need left) c (omega arith) s.0 to_left y (tl (omega arith))
              (tr (omega arith)) f (is_zero_literal right) (is_variable left) (is_variable right)
              (leaf_none spot b zs left c)
              (zero_none spot b zs right c) (leaf_none spot b zs right c) refl (omega arith)
              (less_free (omega arith) (omega arith) f p) w))
          by tl tr Joins r h p w = traps_more (omega arith) (traps_first (core_cells spot Joins o left right k)
              (told_traps left right (k + 1) (k + 1 + told_need left) c (omega arith) s.0 to_left y (tl (omega arith))
              (tr (omega arith)) f refl (omega arith) (less_free (omega arith) (omega arith) f p) w))
