-- The code of conditions and values has the laws of conditions and values over current frames.
use Rattle.std.proofs.Common.{◌≡◌, ℕ, ◌+◌, ◌-◌, ◌<◌, ◌≤◌, ⊎_elim, Bool, true, false, List, [], ◌∷◌, ◌++◌, length, refl}
use Rattle.std.proofs.Common.{ap, ◌∙◌, subst, arith}
use Rattle.std.proofs.lemmas.List.{get_or_append_left, get_or-append_right, get_or-replicate}
use Rattle.std.specs.Prelude.{replicate, slice_index, bit_xor, if◌then◌else◌, Result, Ok, Err}
use Rattle.std.specs.Option.{unwrap_or}
use Rattle.refine_calls.specs.rpp_words.declared.input.TheConstants.{FRAME_WORDS}
use Rattle.refine_calls.specs.rpp_tree.Tree.{Expression, nodes}
use Rattle.refine_calls.specs.class_rules.declared.kind.Kind.{Kind}
use Rattle.refine_calls.specs.class_rules.declared.kind.Kind.TheVariants as kind
use Rattle.refine_calls.specs.class_rules.Expressions.{is_int}
use Rattle.refine_calls.proofs.class_rules_laws.PassedRules.{int_kind}
use Rattle.refine_calls.specs.buddy_book.Place.{place, block_of}
use Rattle.refine_calls.specs.pisa_isa.Loaded.{statics_at}
use Rattle.refine_calls.specs.pisa_isa.Machine.{Memory}
use Rattle.refine_calls.specs.pisa_isa.declared.image.TheConstants.{MOST_STATICS}
use Rattle.refine_calls.specs.paired_code.declared.part.Symbol.{Symbol}
use Rattle.refine_calls.specs.paired_code.Layout.{bool_xor}
use Rattle.refine_calls.specs.paired_code.Does.{Fine, Fault}
use Rattle.refine_calls.proofs.paired_code_laws.Laws.{will_more}
use Rattle.refine_calls.specs.roopl_semantics.Run.{after_cost, given, give, ◌>>=◌}
use Rattle.refine_calls.specs.roopl_semantics.Operators.{truth_word}
use Rattle.refine_calls.specs.roopl_semantics.Store.{Value, Word, Nil, Name, State, main_name}
use Rattle.refine_calls.specs.roopl_semantics.Value.{value}
use Rattle.refine_calls.specs.roopl_semantics.Layout.{no_placing}
use Rattle.refine_calls.specs.roopl_semantics.Execution.{holds}
use Rattle.refine_calls.specs.meaning_sound.Sound.{is_of_kind}
use Rattle.refine_calls.proofs.meaning_sound_laws.Classes.{KnowsClasses}
use Rattle.refine_calls.proofs.meaning_sound_laws.Stores.{other_number}
use Rattle.refine_calls.proofs.meaning_sound_laws.Values.{IsInt as IsWord, int_value, value_found}
use Rattle.expr_uncompute.proofs.refine_frame_laws.Tells.{cells_small}
use Rattle.expr_uncompute.specs.register_expressions.Code.{words}
use Rattle.expr_uncompute.specs.register_expressions.Laws.{Temporary, Ready}
use Rattle.expr_uncompute.specs.Means.{shown, IsInt}
use Rattle.expr_uncompute.specs.Promises as code
use Rattle.expr_uncompute.proofs.Meeting.{told_value, told_test, value_meets, test_meets}
use Rattle.refine_calls.specs.refine_form.Form.{World, Scope, registers, bit, run_result, flagged, holding, TestLaw}
use Rattle.refine_calls.specs.refine_form.Form.{ValueLaw}
use Rattle.refine_calls.specs.refine_form.Form.{test_rates}
use Rattle.refine_calls.specs.refine_form.Frames.{Under, base}
use Rattle.refine_calls.specs.refine_form.Stands.{setup, Reads}
use Rattle.refine_calls.specs.refine_form.Worlds.{Place, world_of}
use Rattle.refine_calls.proofs.refine_form_laws.Rules.{meets_as, meets_told, meets_slack}
use Rattle.refine_expressions.specs.Typing.{IsTyped, visible_spot, free_in_scope}
use Rattle.refine_calls.proofs.MovesFit.{frame_address}
use Rattle.refine_expressions.proofs.FrameReads.{free_words, all_cells, in_cells}
use Rattle.refine_expressions.proofs.WordsRead.{names_at, slots_at}
use Rattle.refine_expressions.proofs.ExpressionsRead.{means, sees, value_is, refers, int_shown}

-- the cost units that a step is worth
pub some_counts : (n : ℕ) → 1 ≤ n + 64
some_counts n = omega arith

many_counts : (n : ℕ) → 3 ≤ n + 64
many_counts n = omega arith

-- the temporaries are clear if the other registers have what statements keep in them
clear : (link object frame flag place r : ℕ) → Temporary r
    → slice_index (registers link object frame 0 0 0 flag place) r ≡ 0
clear link object frame flag place r t = ⊎_elim low high t
  where
    low : (4 < r) × (r < 11) → slice_index (registers link object frame 0 0 0 flag place) r ≡ 0
    low q =
        let front : List ℕ = 0 ∷ 0 ∷ link ∷ object ∷ frame ∷ [] in
        let a = q.0 in let b = q.1 in
        get_or-append_right front (replicate 6 0 ++ (flag ∷ place ∷ replicate 19 0)) 5 r 0 refl (omega (arith, a))
        ∙ get_or_append_left (replicate 6 0) (flag ∷ place ∷ replicate 19 0) 0 (r - 5) (omega (arith, a, b))
        ∙ get_or-replicate 6 (r - 5) 0 0 (omega (arith, a, b))

    high : (15 < r) × (r < 25) → slice_index (registers link object frame 0 0 0 flag place) r ≡ 0
    high q =
        let front : List ℕ = 0 ∷ 0 ∷ link ∷ object ∷ frame ∷ 0 ∷ 0 ∷ 0 ∷ 0 ∷ 0 ∷ 0 ∷ flag ∷ place ∷ [] in
        let a = q.0 in let b = q.1 in
        get_or-append_right front (replicate 19 0) 13 r 0 refl (omega (arith, a))
        ∙ get_or-replicate 19 (r - 13) 0 0 (omega (arith, a, b))

told_evaluated : (c : ℕ) (r : Result Value ℕ) → told_value c r ≡ run_result (after_cost c (given r))
told_evaluated c (Ok v) = ap (Fine v) (let e : c ≡ c + 0 = omega arith in e)
told_evaluated c (Err f) = ap (Fault f) (let e : c ≡ c + 0 = omega arith in e)

told_tested : (c : ℕ) (r : Result Value ℕ) → told_test c r ≡ run_result (after_cost c (given r) >>= λ v. give (holds v))
told_tested c (Ok v) = ap (Fine (holds v)) (let e : c ≡ c + 0 + 0 = omega arith in e)
told_tested c (Err f) = ap (Fault f) (let e : c ≡ c + 0 = omega arith in e)

truth_xor : (v t : Bool) → bit_xor (bit v) (truth_word t) ≡ bit (bool_xor v t)
truth_xor false false = refl
truth_xor false true = refl
truth_xor true false = refl
truth_xor true true = refl

value_of_told : (c : ℕ) (r : Result Value ℕ) (v : Value) (n : ℕ) → told_value c r ≡ Fine v n → r ≡ Ok v
value_of_told c (Ok w) v n e = ap (λ x. Ok x) (let z : w ≡ v = cc in z)
value_of_told c (Err f) v n e = absurd (cc)

module _ (p : Place) (few : length p.statics ≤ MOST_STATICS) (classes : KnowsClasses p.setting.program) where
  abbrev w : World
  w = world_of p

  abbrev P : Rattle.refine_calls.specs.rpp_tree.Tree.Source
  P = p.setting.program

  -- the memory with a flag, or with a word
  abbrev flag_memory : Under → List ℕ → ℕ → Memory
  flag_memory u cells y = record {
    regs = registers 0 u.object (frame_address p.setting p.statics u) 0 0 0 y 0;
    cells = cells;
  }

  abbrev word_memory : Under → List ℕ → ℕ → Memory
  word_memory u cells y = record {
    regs = registers 0 u.object (frame_address p.setting p.statics u) 0 0 0 0 y;
    cells = cells;
  }

  module _ (s : Scope) (u : Under) (st : State) (cells : List ℕ) (h : Reads p.setting p.statics s u [] st cells) where
    abbrev A : ℕ → ℕ
    A = names_at p.setting p.statics classes s u st cells h

    abbrev L : ℕ → ℕ
    L = slots_at p.setting p.statics classes s u st cells h

    pub ready : (n flag place : ℕ) → free_in_scope P s + n ≤ FRAME_WORDS
        → Ready (free_in_scope P s) n (record {
          regs = registers 0 u.object (frame_address p.setting p.statics u) 0 0 0 flag
              place;
          cells = cells;
        })
    ready n flag place room =
        let l = all_cells p.setting p.statics s u st cells h in
        let i = in_cells p.setting p.statics s u st cells h in
        let small = cells_small (setup p.setting p.statics) h.keeps.grounded.limits few in
        record {
          count = refl;
          clear = clear 0 u.object (frame_address p.setting p.statics u) flag place;
          small = omega (arith, l, small);
          words = h.words;
          inside = omega (arith, i, room);
          empty = λ a lo hi. free_words p.setting p.statics s u st cells h a lo (omega (arith, hi, room));
        }

    -- the word of a value of an expression
    word_told : (e : Expression) (k : Kind) → IsTyped P s e k → (v : Value) → value P st e ≡ Ok v
        → shown A L v ≡ w.word_of u st v
    word_told e k ok (Word x) q = refl
    word_told e k ok Nil q = refl
    word_told e k ok (Name n) q = by (is_int k) refl
      where
        fit : is_of_kind P st.store (Name n) k ≡ true
        fit = value_found P st.store k (value P st e) (Name n)
            (value_is p.setting p.statics few classes s u st cells h e k ok.has_words ok.typed) q

        no_word : IsWord (Name n) → ⊥
        no_word i = let z = i.is in cc

        by : (b : Bool) → is_int k ≡ b → shown A L (Name n) ≡ w.word_of u st (Name n)
        by true i = absurd (no_word (int_value P st.store (Name n)
            (subst (λ x. is_of_kind P st.store (Name n) x ≡ true) (int_kind k i) fit)))
        by false i =
            let r = refers p.setting p.statics few classes s u st cells h e k (Name n) ok.typed i q in
            ap (λ t. if t then statics_at else base p.setting p.statics + block_of
            (unwrap_or (place p.setting.limits.heap st.log) no_placing).blocks n)
            (other_number n main_name r.no_main)

  -- a condition
  pub test_fits : (s : Scope) (e : Expression) → IsTyped P s e kind.Int → (q : List Symbol)
      → code.ConditionLaw (visible_spot P s) (free_in_scope P s) 11 e q → TestLaw (world_of p) s e q
  test_fits s e ok q law n d u v st cells h =
      let m : Memory = flagged w u v cells in
      let int : IsInt (A s u st cells h) (L s u st cells h) (value P st e) =
      int_shown p.setting p.statics few classes s u st cells h (value P st e)
      (value_is p.setting p.statics few classes s u st cells h e kind.Int ok.has_words ok.typed) in
      will_more p.im q d m _ _ (λ o k. meets_told _ _ (told_tested (nodes e) (value P st e))
      (meets_slack 50 (omega arith) (meets_as (λ t m1 c z r. r ∙ ap (flag_memory u cells) (truth_xor v t)) k)))
      (test_meets (A s u st cells h) (L s u st cells h) P (visible_spot P s) (free_in_scope P s) (test_rates w)
      (many_counts _)
      (omega arith) 11 e q p.im d m st
      (ready s u st cells h (words e) (bit v) 0 ok.room)
      (sees p.setting p.statics few classes s u st cells h e kind.Int ok.has_words ok.typed)
      (means p.setting p.statics few classes s u st cells h e kind.Int ok.has_words ok.typed) n int law)

  -- a value
  pub value_fits_law : (s : Scope) (e : Expression) (k : Kind) → IsTyped P s e k → (q : List Symbol)
      → code.ExpressionLaw (visible_spot P s) (free_in_scope P s) 12 e q → ValueLaw (world_of p) s e q
  value_fits_law s e k ok q law n d u x st cells h =
      let m : Memory = holding w u x cells in
      will_more p.im q d m _ _ (λ o g. meets_told _ _ (told_evaluated (nodes e) (value P st e))
      (meets_slack 50 (omega arith) (meets_as (λ v m1 c z r. r
      ∙ ap (λ y. word_memory u cells (bit_xor x y)) (word_told s u st cells h e k ok v
      (value_of_told (nodes e) (value P st e) v c z))) g)))
      (value_meets (A s u st cells h) (L s u st cells h) P (visible_spot P s) (free_in_scope P s) (test_rates w)
      (many_counts _)
      (omega arith) 12 e q p.im d m st
      (ready s u st cells h (words e) 0 x ok.room)
      (sees p.setting p.statics few classes s u st cells h e k ok.has_words ok.typed)
      (means p.setting p.statics few classes s u st cells h e k ok.has_words ok.typed) n law)
