-- Following references in memory meets what following names in the store meets.
use Rattle.std.proofs.Common.{◌≡◌, ◌≢◌, ◌∙◌, sym, ap, subst, refl, ℕ, zero, suc, ◌+◌, ◌<◌, Bool, true, false, List, []}
use Rattle.std.proofs.Common.{◌∷◌, ◌++◌, map, length, Option, Some, None, arith, slice_get}
use Rattle.std.proofs.lemmas.Bool.{eqb-true}
use Rattle.std.specs.Prelude.{nat_eq, not, ◌&&◌, ◌||◌, replicate, if◌then◌else◌}
use Rattle.std.specs.List.{list_any}
use Rattle.std.specs.Option.{unwrap_or, option_map}
use Rattle.meaning_reached.specs.rpp_tree.declared.tree.Var.{Var}
use Rattle.meaning_reached.specs.rpp_tree.declared.tree.VarType.{VarType}
use Rattle.meaning_reached.specs.rpp_tree.declared.tree.VarType.TheVariants as type
use Rattle.meaning_reached.specs.rpp_tree.Tree.{Source}
use Rattle.refine_frame.specs.class_rules.declared.kind.Kind.{Kind}
use Rattle.refine_frame.specs.class_rules.declared.kind.Kind.TheVariants as kind
use Rattle.refine_frame.specs.class_rules.Classes.{class_fields}
use Rattle.refine_frame.specs.class_rules.Table.{table_of, class_of}
use Rattle.refine_frame.specs.class_rules.Scope.{kind_of, class_kind, array_kind}
use Rattle.refine_frame.specs.buddy_book.Place.{block_of}
use Rattle.refine_frame.specs.code_conventions.declared.memory.TheConstants.{COUNT_WORD, HEADER_WORDS}
use Rattle.static_layout.specs.roopl_semantics.Store.{Value, Word, Nil, Name, Head, OfClass, OfInts, OfObjects, Object, Store}
use Rattle.static_layout.specs.roopl_semantics.Store.{main_name, object_named, object_at}
use Rattle.refine_frame.specs.class_rules.Classes.{main_of}
use Rattle.static_layout.specs.roopl_semantics.Agreement.{renamed}
use Rattle.static_layout.specs.roopl_semantics.Laws.{holders_among, holders}
use Rattle.static_layout.specs.roopl_semantics.Report.{newly_met}
use Rattle.static_layout.specs.roopl_semantics.Layout.{word_of_value, head_word, table_at}
use Rattle.static_layout.specs.roopl_semantics.Walk.{class_with_table, types_of, Reference, cell_types, types_at, is_new}
use Rattle.static_layout.specs.roopl_semantics.Walk.{newly_reached, reached_within}
use Rattle.pisa_machine.specs.pisa_isa.Loaded.{statics_at}
use Rattle.pisa_machine.specs.pisa_isa.Machine.{word_at}
use Rattle.refine_frame.specs.meaning_sound.Sound.{head_of, head_named, head_fits, named_fits, is_of_kind, cell_kinds, is_live, AllFit}
use Rattle.refine_frame.proofs.meaning_sound_laws.Stores.{same_number, other_number, differs, live_object}
use Rattle.refine_frame.proofs.class_rules_laws.FoundMethods.{own_range}
use Rattle.refine_frame.specs.class_rules.Inheritance.{kind_of_var}
use Rattle.refine_frame.proofs.meaning_sound_laws.Makes.{class_is_inside}
use Rattle.store_report.specs.Told.{reference_told, value_told, values_told, head_told}
use Rattle.store_report.proofs.TablePlaces.{class_told}

-- a name that a cell can hold
pub record IsGood (store : Store) (n : ℕ) : Type 0 where
  pub live : is_live store n ≡ true
  pub no_main : n ≢ main_name

-- what a memory determines of a store, and what holds for the store
pub record Facts (program : Source) (store : Store) (base : ℕ) (blocks : List (ℕ × ℕ)) (mem : List ℕ) : Type 0 where
  pub apart : (n m : ℕ) → IsGood store n → IsGood store m → base + block_of blocks n ≡ base + block_of blocks m → n ≡ m
  pub positive : (n : ℕ) → IsGood store n → 0 < base + block_of blocks n
  pub head : (n : ℕ) → IsGood store n → word_at mem (base + block_of blocks n)
      ≡ head_word program (object_at store n).head
  pub count : (n : ℕ) → IsGood store n → word_at mem (base + block_of blocks n + COUNT_WORD) ≡ (object_at store n).count
  pub part : (n i : ℕ) → IsGood store n → i < length (object_at store n).cells
      → word_at mem (base + block_of blocks n + HEADER_WORDS + i) ≡ word_of_value base blocks
      (unwrap_or (slice_get (object_at store n).cells i) Nil)
  pub main_part : (i : ℕ) → i < length (object_at store main_name).cells
      → word_at mem (statics_at + HEADER_WORDS + i) ≡ word_of_value base blocks
      (unwrap_or (slice_get (object_at store main_name).cells i) Nil)
  pub typed : (n : ℕ) (o : Object) → object_named store n ≡ Some o
      → AllFit program store (cell_kinds program o.head) o.cells
  pub main_head : (object_at store main_name).head ≡ OfClass (main_of program).class
  pub main_live : is_live store main_name ≡ true
  pub held_good : (m : ℕ) → 0 < holders m store → IsGood store m

map_replicate : (f : VarType → Kind) (n : ℕ) (t : VarType) → map f (replicate n t) ≡ replicate n (f t)
map_replicate f zero t = refl
map_replicate f (suc n) t = ap (λ z. f t ∷ z) (map_replicate f n t)

map_types : (f : VarType → Kind) (vars : List Var) → map f (types_of vars) ≡ map (λ var. f var.kind) vars
map_types f [] = refl
map_types f (var ∷ vars) = ap (λ z. f var.kind ∷ z) (map_types f vars)

module _ (program : Source) (store : Store) (base : ℕ) (blocks : List (ℕ × ℕ)) (mem : List ℕ)
    (facts : Facts program store base blocks mem) where
  abbrev pub there : ℕ → ℕ
  there n = base + block_of blocks n

  abbrev pub kind_told : VarType → Kind
  kind_told t = kind_of (table_of program) t

  pub told_apart : (n m : ℕ) → IsGood store n → IsGood store m → nat_eq (there n) (there m) ≡ nat_eq n m
  told_apart n m g h = by (nat_eq n m) refl
    where
      by : (b : Bool) → nat_eq n m ≡ b → nat_eq (there n) (there m) ≡ b
      by true e = ap (λ k. nat_eq (there n) (there k)) (sym (eqb-true n m e)) ∙ same_number (there n)
      by false e = other_number (there n) (there m) (λ q. differs n m e (facts.apart n m g h q))

  -- ---- heads and types

  pub record HeadTold (t : VarType) (head : Head) : Type 0 where
    pub kinds : map kind_told (cell_types program t (head_word program head)) ≡ cell_kinds program head
    pub told : head_told program t (head_word program head) ≡ head

  pub head_is_told : (t : VarType) (head : Head) → head_fits program (kind_told t) head ≡ true → HeadTold t head
  head_is_told type.Int head h = absurd (cc)
  head_is_told (type.Class name) head h = by (class_of (table_of program) name.text) refl head h
    where
      by : (o : Option ℕ) → class_of (table_of program) name.text ≡ o → (head : Head)
          → head_fits program (class_kind o) head ≡ true → HeadTold (type.Class name) head
      by None e head q = absurd (cc)
      by (Some c) e (OfClass own) q =
          let inside = own_range program own c q (class_is_inside program name.text c e) in
          let tells : unwrap_or (class_with_table program (table_at program own)) 0 ≡ own =
          ap (λ (o : Option ℕ). unwrap_or o 0) (class_told program own inside) in
          record {
            kinds = map_types kind_told (class_fields program
                (unwrap_or (class_with_table program (table_at program own)) 0))
                ∙ ap (λ k. map (kind_of_var program) (class_fields program k)) tells;
            told = ap OfClass tells;
          }
      by (Some c) e (OfInts n) q = absurd (cc)
      by (Some c) e (OfObjects d n) q = absurd (cc)
  head_is_told type.IntArray (OfClass c) h = absurd (cc)
  head_is_told type.IntArray (OfInts n) h = record { kinds = map_replicate kind_told n type.Int; told = refl }
  head_is_told type.IntArray (OfObjects c n) h = absurd (cc)
  head_is_told (type.ClassArray name) head h = by (class_of (table_of program) name.text) refl head h
    where
      by : (o : Option ℕ) → class_of (table_of program) name.text ≡ o → (head : Head)
          → head_fits program (array_kind o) head ≡ true → HeadTold (type.ClassArray name) head
      by None e head q = absurd (cc)
      by (Some c) e (OfClass own) q = absurd (cc)
      by (Some c) e (OfInts n) q = absurd (cc)
      by (Some c) e (OfObjects d n) q =
          let same = eqb-true d c q in
          record {
            kinds = map_replicate kind_told n (type.Class name) ∙ ap (λ o. replicate n (class_kind o)) e
                ∙ ap (λ k. replicate n (kind.Class k)) (sym same);
            told = ap (λ (o : Option ℕ). OfObjects (unwrap_or o 0) n) e ∙ ap (λ k. OfObjects k n) (sym same);
          }

  -- a reference leads to an object of its type
  pub record Match (r : Reference) (n : ℕ) : Type 0 where
    pub at : r.at ≡ there n
    pub good : IsGood store n
    pub fit : head_fits program (kind_told r.type) (object_at store n).head ≡ true

  abbrev pub Rel : List Reference → List ℕ → Type 0
  Rel [] [] = Unit {0}
  Rel [] (n ∷ names) = ⊥
  Rel (r ∷ references) [] = ⊥
  Rel (r ∷ references) (n ∷ names) = Match r n × Rel references names

  pub rel_append : (a : List Reference) (xs : List ℕ) (b : List Reference) (ys : List ℕ) → Rel a xs → Rel b ys
      → Rel (a ++ b) (xs ++ ys)
  rel_append [] [] b ys h k = k
  rel_append [] (n ∷ xs) b ys h k = absurd h
  rel_append (r ∷ a) [] b ys h k = absurd h
  rel_append (r ∷ a) (n ∷ xs) b ys h k = (h.0, rel_append a xs b ys h.1 k)

  met_told : (met : List Reference) (names : List ℕ) (n : ℕ) → Rel met names → IsGood store n
      → list_any (λ (r : Reference). nat_eq r.at (there n)) met ≡ list_any (nat_eq n) names
  met_told [] [] n h g = refl
  met_told [] (m ∷ names) n h g = absurd h
  met_told (r ∷ met) [] n h g = absurd h
  met_told (r ∷ met) (m ∷ names) n h g =
      ap (λ b. b || list_any (λ (r : Reference). nat_eq r.at (there n)) met)
      (ap (λ a. nat_eq a (there n)) h.0.at ∙ told_apart m n h.0.good g ∙ turned m n)
      ∙ ap (λ b. nat_eq n m || b) (met_told met names n h.1 g)
    where
      turned : (a b : ℕ) → nat_eq a b ≡ nat_eq b a
      turned a b = by (nat_eq a b) refl
        where
          by : (x : Bool) → nat_eq a b ≡ x → nat_eq a b ≡ nat_eq b a
          by true e = e ∙ sym (ap (λ k. nat_eq b k) (eqb-true a b e) ∙ same_number b)
          by false e = e ∙ sym (other_number b a (λ q. differs a b e (sym q)))

  -- ---- cells

  -- the words from an address on represent values of these types
  abbrev pub Tells : ℕ → List VarType → List Value → Type 0
  Tells address [] [] = Unit {0}
  Tells address [] (v ∷ vs) = ⊥
  Tells address (t ∷ ts) [] = ⊥
  Tells address (t ∷ ts) (v ∷ vs) = (word_at mem address ≡ word_of_value base blocks v)
      × (is_of_kind program store v (kind_told t) ≡ true) × Tells (address + 1) ts vs

  pub tells_from : (address : ℕ) (ts : List VarType) (vs : List Value) → AllFit program store (map kind_told ts) vs
      → ((i : ℕ) → i < length vs → word_at mem (address + i) ≡ word_of_value base blocks (unwrap_or (slice_get vs i) Nil))
      → Tells address ts vs
  tells_from address [] [] all h = tt
  tells_from address [] (v ∷ vs) all h = absurd all
  tells_from address (t ∷ ts) [] all h = absurd all
  tells_from address (t ∷ ts) (v ∷ vs) all h =
      let z : address + 0 ≡ address = omega arith in (
        ap (word_at mem) (sym z) ∙ h 0 (omega arith),
        all.0,
        tells_from (address + 1) ts vs all.1 (λ i l. let e : address + 1 + i ≡ address + suc i = omega arith in
            ap (word_at mem) e ∙ h (suc i) (omega arith)),
      )

  -- values whose names are good
  abbrev pub HoldGood : List Value → Type 0
  HoldGood vs = (m : ℕ) → 0 < holders_among m vs → IsGood store m

  one_name : (n : ℕ) (vs : List Value) → 0 < holders_among n (Name n ∷ vs)
  one_name n vs = let a = ap (λ b. (if b then 1 else 0) + holders_among n vs) (same_number n) in omega arith

  -- what the words mean is what the values are, by addresses
  pub values_are_told : (address : ℕ) (ts : List VarType) (vs : List Value) → Tells address ts vs → HoldGood vs
      → values_told mem address ts ≡ map (renamed there) vs
  values_are_told address [] [] h g = refl
  values_are_told address [] (v ∷ vs) h g = absurd h
  values_are_told address (t ∷ ts) [] h g = absurd h
  values_are_told address (t ∷ ts) (v ∷ vs) h g =
      ap (λ w. value_told t w ∷ values_told mem (address + 1) ts) h.0
      ∙ ap (λ z. z ∷ values_told mem (address + 1) ts) (one t v h.1
      (λ n e. g n (subst (λ x. 0 < holders_among n (x ∷ vs)) (sym e) (one_name n vs))))
      ∙ ap (λ z. renamed there v ∷ z) (values_are_told (address + 1) ts vs h.2 (λ m p. g m (omega arith)))
    where
      named : (n : ℕ) → IsGood store n → reference_told (there n) ≡ Name (there n)
      named n good = ap (λ b. if b then Nil else Name (there n))
          (other_number (there n) 0 (λ e. let p = facts.positive n good in omega arith))

      no_int : (o : Option Head) → named_fits program kind.Int o ≡ true → ⊥
      no_int None q = cc
      no_int (Some hd) q = cc

      class_no_word : (o : Option ℕ) (w : ℕ) → is_of_kind program store (Word w) (class_kind o) ≡ true → ⊥
      class_no_word None w q = cc
      class_no_word (Some c) w q = cc

      array_no_word : (o : Option ℕ) (w : ℕ) → is_of_kind program store (Word w) (array_kind o) ≡ true → ⊥
      array_no_word None w q = cc
      array_no_word (Some c) w q = cc

      one : (t : VarType) (v : Value) → is_of_kind program store v (kind_told t) ≡ true
          → ((n : ℕ) → v ≡ Name n → IsGood store n) → value_told t (word_of_value base blocks v) ≡ renamed there v
      one type.Int (Word w) f good = refl
      one type.Int Nil f good = absurd (cc)
      one type.Int (Name n) f good = absurd (no_int (head_named store n) f)
      one (type.Class name) (Word w) f good = absurd (class_no_word (class_of (table_of program) name.text) w f)
      one (type.Class name) Nil f good = refl
      one (type.Class name) (Name n) f good = named n (good n refl)
      one type.IntArray (Word w) f good = absurd (cc)
      one type.IntArray Nil f good = refl
      one type.IntArray (Name n) f good = named n (good n refl)
      one (type.ClassArray name) (Word w) f good = absurd (array_no_word (class_of (table_of program) name.text) w f)
      one (type.ClassArray name) Nil f good = refl
      one (type.ClassArray name) (Name n) f good = named n (good n refl)

  -- the head of what a typed name names
  fit_head : (n : ℕ) (k : Kind) → IsGood store n → named_fits program k (head_named store n) ≡ true
      → head_fits program k (object_at store n).head ≡ true
  fit_head n k g f = sym (ap (named_fits program k) (ap (option_map head_of) (live_object store n g.live))) ∙ f

  pub newly_told : (met : List Reference) (names : List ℕ) (address : ℕ) (ts : List VarType) (vs : List Value)
      → Rel met names → Tells address ts vs → HoldGood vs → Rel (newly_reached mem met address ts) (newly_met names vs)
  newly_told met names address [] [] rel h g = tt
  newly_told met names address [] (v ∷ vs) rel h g = absurd h
  newly_told met names address (t ∷ ts) [] rel h g = absurd h
  newly_told met names address (t ∷ ts) (Word w ∷ vs) rel h g =
      by t h.1 (newly_told met names (address + 1) ts vs rel h.2 (λ m p. g m (omega arith)))
    where
      class_no_word : (o : Option ℕ) → is_of_kind program store (Word w) (class_kind o) ≡ true → ⊥
      class_no_word None q = cc
      class_no_word (Some c) q = cc

      array_no_word : (o : Option ℕ) → is_of_kind program store (Word w) (array_kind o) ≡ true → ⊥
      array_no_word None q = cc
      array_no_word (Some c) q = cc

      by : (t : VarType) → is_of_kind program store (Word w) (kind_told t) ≡ true
          → Rel (newly_reached mem met (address + 1) ts) (newly_met names vs)
          → Rel (newly_reached mem met address (t ∷ ts)) (newly_met names vs)
      by type.Int f rest = rest
      by (type.Class name) f rest = absurd (class_no_word (class_of (table_of program) name.text) f)
      by type.IntArray f rest = absurd (cc)
      by (type.ClassArray name) f rest = absurd (array_no_word (class_of (table_of program) name.text) f)
  newly_told met names address (t ∷ ts) (Nil ∷ vs) rel h g =
      subst (λ b. Rel (if b then record { at = word_at mem address; type = t }
      ∷ newly_reached mem (record { at = word_at mem address; type = t } ∷ met) (address + 1) ts else
      newly_reached mem met (address + 1) ts) (newly_met names vs)) (sym (old t (word_at mem address) h.0))
      (newly_told met names (address + 1) ts vs rel h.2 (λ m p. g m (omega arith)))
    where
      old : (t : VarType) (w : ℕ) → w ≡ 0 → is_new met t w ≡ false
      old t w e = ap (λ z. Rattle.static_layout.specs.roopl_semantics.Walk.is_reference_type t && not (nat_eq z 0) && not
          (list_any (λ (r : Reference). nat_eq r.at w) met)) e
          ∙ by (Rattle.static_layout.specs.roopl_semantics.Walk.is_reference_type t)
        where
          by : (a : Bool) → (a && false && not (list_any (λ (r : Reference). nat_eq r.at w) met)) ≡ false
          by true = refl
          by false = refl
  newly_told met names address (t ∷ ts) (Name n ∷ vs) rel h g =
      let good = g n (one_name n vs) in
      let r : Reference = record { at = word_at mem address; type = t } in
      let new = newly_told (r ∷ met) (n ∷ names) (address + 1) ts vs
      (record { at = h.0; good = good; fit = fit_head n (kind_told t) good h.1 }, rel) h.2
      (λ m p. g m (omega arith)) in
      let old = newly_told met names (address + 1) ts vs rel h.2 (λ m p. g m (omega arith)) in
      subst (λ b. Rel (if b then r ∷ newly_reached mem (r ∷ met) (address + 1) ts else newly_reached mem met
      (address + 1) ts) (newly_met names (Name n ∷ vs))) (sym (is_new_is t (word_at mem address) h.0 good h.1))
      (by (list_any (nat_eq n) names) (record { at = h.0; good = good; fit = fit_head n (kind_told t) good h.1 }) new
      old)
    where
      no_int : (o : Option Head) → named_fits program kind.Int o ≡ true → ⊥
      no_int None q = cc
      no_int (Some hd) q = cc

      new_word : (w : ℕ) → w ≡ there n → IsGood store n → (not (nat_eq w 0) && not
          (list_any (λ (r : Reference). nat_eq r.at w) met)) ≡ not (list_any (nat_eq n) names)
      new_word w e good =
          ap (λ z. not (nat_eq z 0) && not (list_any (λ (r : Reference). nat_eq r.at z) met)) e
          ∙ ap (λ b. not b && not (list_any (λ (r : Reference). nat_eq r.at (there n)) met))
          (other_number (there n) 0 (λ q. let p = facts.positive n good in omega arith))
          ∙ ap not (met_told met names n rel good)

      is_new_is : (t : VarType) (w : ℕ) → w ≡ there n → IsGood store n
          → is_of_kind program store (Name n) (kind_told t) ≡ true → is_new met t w ≡ not (list_any (nat_eq n) names)
      is_new_is type.Int w e good f = absurd (no_int (head_named store n) f)
      is_new_is (type.Class name) w e good f = new_word w e good
      is_new_is type.IntArray w e good f = new_word w e good
      is_new_is (type.ClassArray name) w e good f = new_word w e good

      by : (b : Bool) → Match (record { at = word_at mem address; type = t }) n
          → Rel (newly_reached mem (record { at = word_at mem address; type = t } ∷ met) (address + 1) ts)
          (newly_met (n ∷ names) vs) → Rel (newly_reached mem met (address + 1) ts) (newly_met names vs)
          → Rel (if not b then record { at = word_at mem address; type = t }
          ∷ newly_reached mem (record { at = word_at mem address; type = t } ∷ met) (address + 1) ts else
          newly_reached mem met (address + 1) ts) (if b then newly_met names vs else n ∷ newly_met (n ∷ names) vs)
      by true m new old = old
      by false m new old = (m, new)
