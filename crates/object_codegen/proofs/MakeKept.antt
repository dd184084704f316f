-- If values stay and the object ids among them keep their addresses, the same numbers are found,
-- whatever else is made or freed.
use Rattle.std.proofs.Common.{◌≡◌, ℕ, ◌+◌, Bool, true, false, List, length, refl, sym, ap, ◌∙◌}
use Rattle.std.specs.Prelude.{nat_lt, if◌then◌else◌, Result, Ok, Err}
use Rattle.refine_heap.specs.code_conventions.declared.memory.TheConstants.{HEADER_WORDS}
use Rattle.refine_heap.specs.rpp_tree.declared.tree.BinOp.{BinOp}
use Rattle.refine_heap.specs.rpp_tree.Tree.{Expression, Number, Null, Variable, Element, Binary, Lvalue, Whole, Item, Source}
use Rattle.static_layout.specs.roopl_semantics.Store.{Value, Word, Nil, Name, State, number_of, object_at}
use Rattle.static_layout.specs.roopl_semantics.Value.{Cell, Slot, Part, cell_named, variable_value, read, read_cell}
use Rattle.static_layout.specs.roopl_semantics.Value.{element_cell}
use Rattle.static_layout.specs.roopl_semantics.Value.{element_of, combined, value}
use Rattle.expr_uncompute.specs.refine_form.declared.spot.Spot.{Spot}
use Rattle.expr_uncompute.specs.register_expressions.Number.{Bases, number, Same, SamePlace}
use Rattle.expr_uncompute.specs.Means.{shown, shown_result, cell_result, Means, MeansPlace, SameValues, SameCells}
use Rattle.expr_uncompute.proofs.Meaning.{number_is, place_is}
use Rattle.refine_heap.specs.code_conventions.declared.faults.TheConstants.{INDEX}

-- ---- a name that an expression gives is one that a cell holds

abbrev value_in : Result Value ℕ → Value
value_in (Ok v) = v
value_in (Err f) = Nil

abbrev cell_in : Result Cell ℕ → Cell
cell_in (Ok cell) = cell
cell_in (Err f) = Slot 0

abbrev owner_in : Cell → ℕ
owner_in (Slot i) = 0
owner_in (Part n i) = n

is_held : (st : State) (r : Result Cell ℕ) (n : ℕ) → read_cell st r ≡ Ok (Name n) → (a : Cell) × (read st a ≡ Name n)
is_held st (Ok cell) n e = (cell, ap value_in e)
is_held st (Err f) n e = absurd (cc)

no_name : (o : BinOp) (l r : Result Value ℕ) (n : ℕ) → combined o l r ≡ Ok (Name n) → ⊥
no_name o (Err f) r n e = cc
no_name o (Ok l) (Err f) n e = cc
no_name o (Ok l) (Ok r) n e = let q = ap value_in e in cc

holder : (program : Source) (st : State) (e : Expression) (n : ℕ) → value program st e ≡ Ok (Name n)
    → (a : Cell) × (read st a ≡ Name n)
holder program st (Number at word) n q = let z = ap value_in q in absurd (cc)
holder program st (Null at) n q = let z = ap value_in q in absurd (cc)
holder program st (Variable name) n q = (cell_named program st name.text, ap value_in q)
holder program st (Element name index) n q = is_held st (element_of program st name.text (value program st index)) n q
holder program st (Binary at o left right) n q = absurd (no_name o (value program st left) (value program st right) n q)

-- the array of an element's cell is the one that its variable has
owner_if : (t : Bool) (array i : ℕ) (cell : Cell) → if◌then◌else◌ {A = Result Cell ℕ} t (Ok (Part array i)) (Err INDEX)
    ≡ Ok cell → array ≡ owner_in cell
owner_if true array i cell e = ap (λ r. owner_in (cell_in r)) e
owner_if false array i cell e = absurd (cc)

owner_of : (st : State) (v : Value) (i : ℕ) (cell : Cell) → element_cell st v i ≡ Ok cell → v ≡ Name (owner_in cell)
owner_of st (Word w) i cell e = absurd (cc)
owner_of st Nil i cell e = absurd (cc)
owner_of st (Name array) i cell e = ap Name (owner_if (nat_lt i (length (object_at st.store array).cells)) array i cell
    e)

owner_by : (program : Source) (st : State) (name : List ℕ) (r : Result Value ℕ) (cell : Cell)
    → element_of program st name r ≡ Ok cell → variable_value program st name ≡ Name (owner_in cell)
owner_by program st name (Err f) cell e = absurd (cc)
owner_by program st name (Ok v) cell e = owner_of st (variable_value program st name) (number_of v) cell e

-- and it is an element's
part_if : (t : Bool) (array i k : ℕ) → if◌then◌else◌ {A = Result Cell ℕ} t (Ok (Part array i)) (Err INDEX) ≡ Ok (Slot k)
    → ⊥
part_if true array i k e = let q = ap cell_in e in cc
part_if false array i k e = cc

part_of : (st : State) (v : Value) (i k : ℕ) → element_cell st v i ≡ Ok (Slot k) → ⊥
part_of st (Word w) i k e = cc
part_of st Nil i k e = cc
part_of st (Name array) i k e = part_if (nat_lt i (length (object_at st.store array).cells)) array i k e

part_by : (program : Source) (st : State) (name : List ℕ) (r : Result Value ℕ) (k : ℕ)
    → element_of program st name r ≡ Ok (Slot k) → ⊥
part_by program st name (Err f) k e = cc
part_by program st name (Ok v) k e = part_of st (variable_value program st name) (number_of v) k e

module _ (address slot address' slot' : ℕ → ℕ) (program : Source) (st st' : State)
    (keeps : (a a' : Cell) (n : ℕ) → read st a ≡ Name n → read st' a' ≡ Name n → address' n ≡ address n) where
  same_shown : (v : Value) → ((n : ℕ) → v ≡ Name n → address' n ≡ address n)
      → shown address' slot' v ≡ shown address slot v
  same_shown (Word w) h = refl
  same_shown Nil h = refl
  same_shown (Name n) h = h n refl

  same_result : (r : Result Value ℕ) → ((n : ℕ) → r ≡ Ok (Name n) → address' n ≡ address n)
      → shown_result address' slot' r ≡ shown_result address slot r
  same_result (Err f) h = refl
  same_result (Ok v) h = ap Ok (same_shown v (λ n e. h n (ap Ok e)))

  same_cell : (r : Result Cell ℕ) → ((k : ℕ) → r ≡ Ok (Slot k) → ⊥)
      → ((cell : Cell) → r ≡ Ok cell → address' (owner_in cell) ≡ address (owner_in cell))
      → cell_result address' slot' r ≡ cell_result address slot r
  same_cell (Err f) never h = refl
  same_cell (Ok (Slot k)) never h = absurd (never k refl)
  same_cell (Ok (Part n i)) never h = ap (λ a. Ok (a + i + HEADER_WORDS)) (h (Part n i) refl)

  module _ (spot : List ℕ → Spot) (b : Bases) (cells cells' : List ℕ) where
    same_number : (e : Expression) → Means address slot program st spot b cells e
        → Means address' slot' program st' spot b cells' e → value program st' e ≡ value program st e
        → number spot b cells' e ≡ number spot b cells e
    same_number e h h' v =
        number_is address' slot' program st' spot b cells' e h' ∙ ap (shown_result address' slot') v
        ∙ same_result (value program st e) (λ n q. let a = holder program st e n q in
        let a' = holder program st' e n (v ∙ q) in keeps a.0 a'.0 n a.1 a'.1)
        ∙ sym (number_is address slot program st spot b cells e h)

    pub kept_numbers : (e : Expression) → Means address slot program st spot b cells e
        → Means address' slot' program st' spot b cells' e → SameValues program st st' e → Same spot b cells cells' e
    kept_numbers (Number at word) h h' v = tt
    kept_numbers (Null at) h h' v = tt
    kept_numbers (Variable name) h h' v =
        h' ∙ ap (shown address' slot') v
        ∙ same_shown (variable_value program st name.text) (λ n q. keeps (cell_named program st name.text)
        (cell_named program st' name.text) n q (v ∙ q))
        ∙ sym h
    kept_numbers (Element name index) h h' v = (
      same_number (Element name index) h h' v.0,
      kept_numbers index h.3 h'.3 v.1,
    )
    kept_numbers (Binary at o left right) h h' v = (
      same_number (Binary at o left right) h h' v.0,
      kept_numbers left h.0 h'.0 v.1,
      kept_numbers right h.1 h'.1 v.2,
    )

    pub kept_places : (target : Lvalue) → MeansPlace address slot program st spot b cells target
        → MeansPlace address' slot' program st' spot b cells' target → SameCells program st st' target
        → SamePlace spot b cells cells' target
    kept_places (Whole name) h h' c = tt
    kept_places (Item name index) h h' c = (
      place_is address' slot' program st' spot b cells' (Item name index) h' ∙ ap (cell_result address' slot') c.0
          ∙ same_cell (element_of program st name.text (value program st index))
          (λ k q. part_by program st name.text (value program st index) k q)
          (λ cell q. keeps (cell_named program st name.text) (cell_named program st' name.text) (owner_in cell)
          (owner_by program st name.text (value program st index) cell q)
          (owner_by program st' name.text (value program st' index) cell (c.0 ∙ q)))
          ∙ sym (place_is address slot program st spot b cells (Item name index) h),
      kept_numbers index h.3 h'.3 c.1,
    )
