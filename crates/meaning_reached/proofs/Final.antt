-- The laws of what is reached, proved.
use Rattle.std.proofs.Common.{◌≡◌, ◌≢◌, ◌∙◌, sym, ap, subst, refl, ℕ, zero, suc, ◌+◌, ◌-◌, ◌<◌, Bool, true, false, List}
use Rattle.std.proofs.Common.{[], ◌∷◌, ◌++◌, map, length, Option, Some, None, arith}
use Rattle.std.proofs.lemmas.Bool.{eqb-true, or_left, or_right}
use Rattle.std.specs.Prelude.{nat_eq, is_some, ◌&&◌, ◌||◌, if◌then◌else◌}
use Rattle.std.specs.Option.{option_map}
use Rattle.meaning_sound.specs.rpp_words.declared.input.FieldWord.{FieldWord}
use Rattle.meaning_sound.specs.rpp_words.declared.input.Limits.{Limits}
use Rattle.meaning_sound.specs.rpp_tree.Tree.{Source}
use Rattle.meaning_sound.specs.buddy_book.Place.{count_taken}
use Rattle.meaning_sound.specs.roopl_semantics.Store.{Value, Nil, Head, OfClass, OfInts, OfObjects, Store, State, main_name}
use Rattle.meaning_sound.specs.roopl_semantics.Store.{object_at}
use Rattle.meaning_sound.specs.roopl_semantics.Value.{Cell, Slot, Part, value_at, read}
use Rattle.meaning_sound.specs.roopl_semantics.Execution.{Setting, exec}
use Rattle.meaning_sound.specs.roopl_semantics.Source.{IsValid, main_body, starting, source}
use Rattle.meaning_sound.specs.class_rules.Classes.{main_of}
use Rattle.meaning_sound.specs.rpp_words.Limits.{IsLimits}
use Rattle.meaning_sound.specs.roopl_semantics.Laws.{holders}
use Rattle.meaning_sound.specs.roopl_semantics.Report.{numbered, live_count, live_line, objects_shown}
use Rattle.meaning_sound.specs.roopl_semantics.Layout.{has_plain_head, is_plain_among, is_plain}
use Rattle.meaning_sound.specs.roopl_semantics.Walk.{counted_live}
use Rattle.meaning_sound.proofs.roopl_semantics_laws.MoreFuel.{within_done}
use Rattle.meaning_sound.proofs.roopl_semantics_laws.MainPlace.{class_inside}
use Rattle.meaning_sound.specs.Sound.{head_of, head_named, is_live, named_fits, Descending, Sound, main_alone}
use Rattle.meaning_sound.specs.Kept.{MeansSame}
use Rattle.meaning_sound.proofs.Stores.{same_number, here, there}
use Rattle.meaning_sound.proofs.Cells.{typed_of}
use Rattle.meaning_sound.proofs.Runs.{ends_done}
use Rattle.meaning_sound.proofs.Objects.{unheld}
use Rattle.meaning_sound.proofs.Accepted.{knows_classes}
use Rattle.meaning_sound.proofs.Plainness.{program_plain}
use Rattle.meaning_sound.proofs.Starting.{starting_sound, main_text, end_sound, no_frame}
use Rattle.meaning_reached.specs.Reached.{is_value_within, is_rooted, IsClosed, Reaches}
use Rattle.meaning_reached.specs.Ending.{ExecutionReaches, IsStoreReached, EndsReached}
use Rattle.meaning_reached.proofs.Changes.{or_either}
use Rattle.meaning_reached.proofs.Callings.{AllWithin}
use Rattle.meaning_reached.proofs.Reaching.{exec_reaches}
use Rattle.meaning_reached.proofs.Numbering.{is_in, within_more, Numbered, numbers, unmet_one}

pub execution_reaches : ExecutionReaches
execution_reaches program limits fuel extra locals shape class body start end cost accepted inside means checked plain
    sound reaches done =
    let setting : Setting = record { program = program; limits = limits } in
    ends_done (Reaches extra) (exec setting fuel body start) end cost
    ((exec_reaches setting (knows_classes program accepted (program_plain program accepted)) fuel).by extra locals shape
    class body start inside means checked plain sound reaches) done

-- at the beginning there is only the main object, and it is reachable
pub starting_reaches : (program : Source) (input : List FieldWord) → Reaches main_alone (starting program input)
starting_reaches program input = record { all = λ names c n l. by names c n (nat_eq main_name n) refl l }
  where
    by : (names : ℕ → Bool) → IsClosed names main_alone (starting program input) → (n : ℕ) → (b : Bool)
        → nat_eq main_name n ≡ b → is_some (option_map head_of
        (if b then Some (Rattle.meaning_sound.specs.roopl_semantics.Source.main_object program input) else None)) ≡ true
        → names n ≡ true
    by names c n true e l = ap names (sym (eqb-true main_name n e)) ∙ c.extras main_name (omega arith)
    by names c n false e l = absurd (cc)

get_within : (names : ℕ → Bool) (vs : List Value) (i : ℕ) → AllWithin names vs
    → is_value_within names (Rattle.std.specs.Option.unwrap_or (Rattle.std.proofs.Common.slice_get vs i) Nil) ≡ true
get_within names [] i h = refl
get_within names (v ∷ vs) zero h = h.0
get_within names (v ∷ vs) (suc i) h = get_within names vs i h.1

-- a sound state without variables, in which every live object is reached from the main object
pub reached_store : (program : Source) (limits : Limits) (class : ℕ) (end : State)
    → Sound (record { program = program; limits = limits }) main_alone [] class end
    → named_fits program (Rattle.meaning_sound.specs.class_rules.declared.kind.Kind.TheVariants.Class class)
    (head_named end.store main_name) ≡ true → Reaches main_alone end → IsStoreReached program end.store
reached_store program limits class end s main_fits r = record {
  met = λ n l apart. met n l apart;
  lives = λ n h. lives n (w.held n h);
  no_main = no_main;
  plain = plain_store;
  count = count;
  reports = λ cells. ap (λ b. objects_shown program store
      ++ live_line (if b then live_count store else counted_live program cells)) plain_store;
}
  where
    store : Store
    store = end.store

    setting : Setting
    setting = record { program = program; limits = limits }

    bound : ℕ
    bound = 2 + count_taken end.log

    lives : (m : ℕ) → 0 < holders m store → is_live store m ≡ true
    lives m p = by (is_live store m) refl
      where
        by : (b : Bool) → is_live store m ≡ b → is_live store m ≡ true
        by true e = e
        by false e = absurd (let a = unheld setting main_alone [] class end m
            (typed_of setting main_alone [] class end s) e in omega arith)

    w : Numbered store
    w = numbers bound store s.fresh lives

    names : ℕ → Bool
    names n = is_in (numbered store) n || nat_eq n main_name

    none : end.frame ≡ []
    none = no_frame end.frame s.names

    closed : IsClosed names main_alone end
    closed = record { extras = λ n p. extra n p (nat_eq n main_name) refl; cells = cells }
      where
        extra : (n : ℕ) → 0 < main_alone n → (b : Bool) → nat_eq n main_name ≡ b → names n ≡ true
        extra n p true e = or_right (is_in (numbered store) n) (nat_eq n main_name) e
        extra n p false e = absurd (let z : main_alone n ≡ 0 = ap (λ b. if b then 1 else 0) e in omega arith)

        wider : (vs : List Value) → AllWithin (is_in (numbered store)) vs → AllWithin names vs
        wider vs h = within_more (is_in (numbered store)) names vs
            (λ n q. or_left (is_in (numbered store) n) (nat_eq n main_name) q) h

        cells : (cell : Cell) → is_rooted names cell ≡ true → is_value_within names (read end cell) ≡ true
        cells (Slot i) h = ap (λ frame. is_value_within names (value_at frame i)) none
        cells (Part n i) h = get_within names (object_at store n).cells i
            (or_either (is_in (numbered store) n) (nat_eq n main_name) h
            (λ q. wider (object_at store n).cells (w.cells n q))
            (λ q. subst (λ k. AllWithin names (object_at store k).cells) (sym (eqb-true n main_name q))
            (wider (object_at store main_name).cells w.main_cells)))

    met : (n : ℕ) → is_live store n ≡ true → n ≢ main_name → is_in (numbered store) n ≡ true
    met n l apart = or_either (is_in (numbered store) n) (nat_eq n main_name) (r.all names closed n l) (λ q. q)
        (λ q. absurd (apart (eqb-true n main_name q)))

    no_main : is_in (numbered store) main_name ≡ false
    no_main = by (is_in (numbered store) main_name) refl
      where
        by : (b : Bool) → is_in (numbered store) main_name ≡ b → is_in (numbered store) main_name ≡ false
        by false e = e
        by true e = absurd (let a = w.held main_name e in let b = s.main_unheld in omega arith)

    main_head : (h : Head) → head_named store main_name ≡ Some h → has_plain_head program h ≡ true
    main_head (OfClass c) e = refl
    main_head (OfInts n) e = absurd (let q = sym (ap (named_fits program
        (Rattle.meaning_sound.specs.class_rules.declared.kind.Kind.TheVariants.Class class)) e) ∙ main_fits in cc)
    main_head (OfObjects c n) e = absurd (let q = sym (ap
        (named_fits program (Rattle.meaning_sound.specs.class_rules.declared.kind.Kind.TheVariants.Class class)) e)
        ∙ main_fits in cc)

    -- the entries from one on: each is met, or the main object's
    plain_from : (b : ℕ) (entries : Store) → Descending b entries
        → ((n : ℕ) → is_live entries n ≡ true → n ≢ main_name → is_in (numbered store) n ≡ true)
        → ((h : Head) → head_named entries main_name ≡ Some h → has_plain_head program h ≡ true)
        → is_plain_among program (numbered store) entries ≡ true
    plain_from b [] d all main = refl
    plain_from b ((n, o) ∷ entries) d all main = both (is_in (numbered store) n || has_plain_head program o.head)
        (here_is (nat_eq n main_name) refl) (plain_from n entries d.1 (λ m l apart. all m (behind m l) apart)
        (λ h e. main h (main_behind h e)))
      where
        both : (x : Bool) {y : Bool} → x ≡ true → y ≡ true → (x && y) ≡ true
        both true e f = f
        both false e f = absurd (cc)

        behind : (m : ℕ) → is_live entries m ≡ true → is_live ((n, o) ∷ entries) m ≡ true
        behind m l = by (nat_eq n m) refl
          where
            by : (c : Bool) → nat_eq n m ≡ c → is_live ((n, o) ∷ entries) m ≡ true
            by true e = ap (λ z. is_some (option_map head_of z)) (here n m o entries e)
            by false e = ap (λ z. is_some (option_map head_of z)) (there n m o entries e) ∙ l

        main_behind : (h : Head) → head_named entries main_name ≡ Some h
            → head_named ((n, o) ∷ entries) main_name ≡ Some h
        main_behind h e = by (nat_eq n main_name) refl
          where
            by : (c : Bool) → nat_eq n main_name ≡ c → head_named ((n, o) ∷ entries) main_name ≡ Some h
            by true q =
                let gone : head_named entries main_name ≡ None =
                ap (option_map head_of) (Rattle.meaning_sound.proofs.Stores.none_above n entries main_name d.1
                (let z = eqb-true n main_name q in omega arith)) in
                absurd (cc)
            by false q = ap (option_map head_of) (there n main_name o entries q) ∙ e

        here_is : (c : Bool) → nat_eq n main_name ≡ c → (is_in (numbered store) n || has_plain_head program o.head)
            ≡ true
        here_is true e = or_right (is_in (numbered store) n) (has_plain_head program o.head)
            (main o.head (ap (option_map head_of) (here n main_name o entries e)))
        here_is false e = or_left (is_in (numbered store) n) (has_plain_head program o.head)
            (all n (ap (λ z. is_some (option_map head_of z)) (here n n o entries (same_number n)))
            (Rattle.meaning_sound.proofs.Stores.differs n main_name e))

    plain_store : is_plain program store ≡ true
    plain_store = plain_from bound store s.fresh met main_head

    main_lives : is_live store main_name ≡ true
    main_lives = s.lives main_name (let a = s.main_extra in omega arith)

    count : live_count store ≡ length (numbered store)
    count =
        let one = unmet_one bound (numbered store) store main_name s.fresh main_lives no_main met in
        let all = w.count in
        omega arith

pub ends_reached : EndsReached
ends_reached program limits input fuel end cost accepted inside valid done =
    let setting : Setting = record { program = program; limits = limits } in
    let plain = program_plain program accepted in
    let text = main_text program accepted plain in
    let means : MeansSame [] [] = record { same = λ name. refl } in
    let run = exec setting fuel (main_body program) (starting program input) in
    let over = within_done fuel run end cost done in
    let kept = end_sound program limits input fuel end cost accepted plain inside valid done in
    let first = starting_sound program limits input inside valid in
    let reaches = ends_done (Reaches main_alone) run end cost
    ((exec_reaches setting (knows_classes program accepted plain) fuel).by main_alone [] [] (main_of program).class
    (main_body program) (starting program input) (class_inside program accepted) means text.checked text.plain
    first (starting_reaches program input))
    over.is in
    let self_is : end.self ≡ main_name = kept.stays.self_same in
    reached_store program limits (main_of program).class end kept.sound
    (subst (λ k. named_fits program (Rattle.meaning_sound.specs.class_rules.declared.kind.Kind.TheVariants.Class
    (main_of program).class) (head_named end.store k) ≡ true) self_is kept.sound.self_is) reaches
