-- The class tables of a linked image lead to the routines of its methods.
use Rattle.std.proofs.Common.{◌≡◌, ℕ, zero, suc, ◌+◌, ◌<◌, ◌≤◌, List, [], ◌∷◌, ◌++◌, length, map, Some, refl, sym, ap}
use Rattle.std.proofs.Common.{◌∙◌, subst, arith}
use Rattle.std.proofs.lemmas.List.{length-map, map-append}
use Rattle.std.proofs.lemmas.List.Elements.{All-append, All-cons, All-nil}
use Rattle.std.proofs.lemmas.Option.{slice_get_within}
use Rattle.std.proofs.lemmas.Bool.{ltb-true, ltb-false}
use Rattle.std.specs.Prelude.{slice_get, slice_index, Bool, true, false, nat_lt}
use Rattle.std.specs.List.{All}
use Rattle.std.specs.Option.{unwrap_or}
use Rattle.refine_calls.specs.rpp_tree.Tree.{Source}
use Rattle.refine_calls.specs.class_rules.declared.method.MethodId.{MethodId}
use Rattle.refine_calls.specs.class_rules.First.{each_below}
use Rattle.refine_calls.specs.class_rules.Members.{Slots}
use Rattle.refine_calls.specs.class_rules.Overrides.{run_at}
use Rattle.refine_calls.specs.class_rules.Classes.{class_slots}
use Rattle.refine_calls.specs.pisa_isa.declared.cell.Cell.{Cell}
use Rattle.refine_calls.specs.pisa_isa.Machine.{fetch}
use Rattle.refine_calls.specs.pisa_isa.Image.{Segments}
use Rattle.refine_calls.specs.paired_code.Cells.{swapbr}
use Rattle.refine_calls.specs.paired_code.declared.part.Symbol.{Symbol}
use Rattle.refine_calls.specs.paired_code.Machine.{Image}
use Rattle.refine_calls.specs.paired_code.Layout.{Routine}
use Rattle.refine_calls.specs.paired_code.Link.{link_positions, first_top, AllPlaced, Linked}
use Rattle.refine_calls.proofs.paired_code_laws.Call.{on_line}
use Rattle.static_layout.specs.roopl_semantics.Layout.{HasStatics}
use Rattle.refine_program.specs.Methods.{method_place, table_places, statics_of}

-- ---- the routines of a linked image

-- the body of a routine, and where it begins
abbrev pub body_at : List (List Symbol) → ℕ → List Symbol
body_at routines r = unwrap_or (slice_get routines r) []

abbrev pub top_of : ℕ → List (List Symbol) → ℕ → ℕ
top_of t [] r = t
top_of t (b ∷ routines) zero = t
top_of t (b ∷ routines) (suc r) = top_of (t + 1 + 1 + 1 + length b + 1) routines r

placed_at : (im : Image) (n t : ℕ) (routines : List (List Symbol)) → AllPlaced im n t routines → (r : ℕ)
    → r < length routines → Routine im (n + r) (top_of t routines r) (body_at routines r)
placed_at im n t [] h r l = absurd (omega arith)
placed_at im n t (b ∷ routines) h zero l = let e : n ≡ n + 0 = omega arith in subst (λ k. Routine im k t b) e h.0
placed_at im n t (b ∷ routines) h (suc r) l =
    let e : n + 1 + r ≡ n + suc r = omega arith in
    let next = t + 1 + 1 + 1 + length b + 1 in
    subst (λ k. Routine im k (top_of next routines r) (body_at routines r)) e
    (placed_at im (n + 1) next routines h.1 r (omega arith))

pub stands_at : (im : Image) (main : List Symbol) (routines : List (List Symbol)) → Linked main routines im → (r : ℕ)
    → r < length routines → Routine im r (top_of (first_top main) routines r) (body_at routines r)
stands_at im main routines linked r h =
    let e : 0 + r ≡ r = omega arith in
    subst (λ k. Routine im k (top_of (first_top main) routines r) (body_at routines r)) e
    (placed_at im 0 (first_top main) routines linked.routines_there r h)

-- a routine after others
pub body_behind : (others bodies : List (List Symbol)) (r : ℕ)
    → body_at (others ++ bodies) (length others + r) ≡ body_at bodies r
body_behind [] bodies r = let e : 0 + r ≡ r = omega arith in ap (body_at bodies) e
body_behind (b ∷ others) bodies r =
    let e : suc (length others) + r ≡ suc (length others + r) = omega arith in
    ap (body_at (b ∷ (others ++ bodies))) e ∙ body_behind others bodies r

-- its place is one of the code
place_low : (im : Image) (r top : ℕ) (body : List Symbol) → Routine im r top body → top + 1 < length im.code
place_low im r top body stands = slice_get_within im.code (top + 1) (swapbr 2)
    (subst (λ z. fetch im.code z ≡ Some (swapbr 2)) (on_line (top + 1)) stands.sub_cell)

past_all : (xs : List ℕ) (r : ℕ) → length xs ≤ r → slice_index xs r ≡ 0
past_all [] r h = refl
past_all (x ∷ xs) zero h = absurd (omega arith)
past_all (x ∷ xs) (suc r) h = past_all xs r (omega arith)

as_many_places : (t : ℕ) (bs : List (List Symbol)) → length (link_positions t bs) ≡ length bs
as_many_places t [] = refl
as_many_places t (b ∷ bs) = ap suc (as_many_places (t + 1 + 1 + 1 + length b + 1) bs)

module _ (code : List Cell) (main : List Symbol) (routines : List (List Symbol))
    (linked : Linked main routines (record { code = code; routines = link_positions (first_top main) routines }))
    (some : 0 < length routines) where
  abbrev im : Image
  im = record { code = code; routines = link_positions (first_top main) routines }

  pub place_in : (r : ℕ) → slice_index (link_positions (first_top main) routines) r < length code
  place_in r = by (nat_lt r (length routines)) refl
    where
      by : (b : Bool) → nat_lt r (length routines) ≡ b → slice_index (link_positions (first_top main) routines) r <
          length code
      by true e =
          let s = stands_at im main routines linked r (ltb-true r (length routines) e) in
          let l = place_low im r (top_of (first_top main) routines r) (body_at routines r) s in
          subst (λ n. n < length code) (sym s.listed) l
      by false e =
          let past = ltb-false r (length routines) e in
          let z = past_all (link_positions (first_top main) routines) r
          (omega (arith, past, as_many_places (first_top main) routines)) in
          let l = place_low im 0 (top_of (first_top main) routines 0) (body_at routines 0)
          (stands_at im main routines linked 0 some) in
          omega (arith, z, l)

-- ---- the tables

pub slots_long : (f : List ℕ × MethodId → ℕ) (slots : ℕ → Slots) (n : ℕ)
    → map (length {A = ℕ}) (each_below (λ class. map f (slots class)) n) ≡ each_below (λ class. length (slots class)) n
slots_long f slots zero = refl
slots_long f slots (suc n) =
    map-append (length {A = ℕ}) (each_below (λ class. map f (slots class)) n) (map f (slots n) ∷ [])
    ∙ ap (λ xs. xs ++ length (map f (slots n)) ∷ []) (slots_long f slots n)
    ∙ ap (λ k. each_below (λ class. length (slots class)) n ++ k ∷ []) (length-map (slots n) f)

all_low : (size : ℕ) (f : List ℕ × MethodId → ℕ) → ((x : List ℕ × MethodId) → f x < size) → (xs : Slots)
    → All (λ at. at < size) (map f xs)
all_low size f low [] = All-nil (λ at. at < size)
all_low size f low (x ∷ xs) = All-cons (λ at. at < size) (f x) (map f xs) (low x) (all_low size f low xs)

pub rows_low : (size : ℕ) (f : List ℕ × MethodId → ℕ) → ((x : List ℕ × MethodId) → f x < size)
    → (slots : ℕ → Slots) (n : ℕ) → All (λ row. All (λ at. at < size) row) (each_below (λ class. map f (slots class)) n)
rows_low size f low slots zero = All-nil (λ row. All (λ at. at < size) row)
rows_low size f low slots (suc n) =
    All-append (λ row. All (λ at. at < size) row) (each_below (λ class. map f (slots class)) n) (map f (slots n) ∷ [])
    (rows_low size f low slots n)
    (All-cons (λ row. All (λ at. at < size) row) (map f (slots n)) [] (all_low size f low (slots n))
    (All-nil (λ row. All (λ at. at < size) row)))

-- the static cells of the image are the program's
abbrev pub has_statics : (program : Source) (image : Segments) (before : ℕ) (all : List ℕ)
    → ((r : ℕ) → slice_index all r < length image.code) → image.statics ≡ statics_of program before all
    → HasStatics program image
has_statics program image before all low is = record {
  places = table_places program before all;
  slots = slots_long (λ slot. method_place program before all slot.1) (class_slots program) (length program.classes);
  in_code = rows_low (length image.code) (λ slot. method_place program before all slot.1) (λ slot. low _)
      (class_slots program) (length program.classes);
  words = is;
}

-- the word of a slot is the place of the method in it
pub slot_word : (f : MethodId → ℕ) (slots : Slots) (slot : ℕ) → slot < length slots
    → slice_index (map (λ x. f x.1) slots) slot ≡ f (run_at slots slot)
slot_word f [] slot h = absurd (omega arith)
slot_word f (x ∷ slots) zero h = refl
slot_word f (x ∷ slots) (suc slot) h = slot_word f slots slot (omega arith)
