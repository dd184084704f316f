-- The laws as contracts state them.
use Rattle.std.proofs.Common.{◌≡◌, ℕ, suc, ◌+◌, ◌*◌, ◌^◌, ◌<◌, ◌≤◌, Bool, false, List, [], ◌∷◌, ◌++◌, length, map}
use Rattle.std.proofs.Common.{refl, sym, ap}
use Rattle.std.proofs.Common.{◌∙◌, subst, arith, length-append}
use Rattle.std.specs.Prelude.{None, Some}
use Rattle.std.proofs.lemmas.List.{length-map}
use Rattle.refine_form.specs.rpp_words.declared.input.TheConstants.{FRAME_WORDS}
use Rattle.refine_form.specs.rpp_tree.declared.tree.Ident.{Ident}
use Rattle.refine_form.specs.rpp_tree.Tree.{Whole, Item, Local, Construct, Call}
use Rattle.refine_form.specs.paired_code.declared.part.Symbol.{Symbol}
use Rattle.refine_form.specs.paired_code.Layout.{mirror_cells, check_equal_cells, enter_at_cells, code_line, Stands}
use Rattle.refine_form.specs.paired_code.Pieces.{Will}
use Rattle.refine_form.specs.paired_code.Does.{Meets}
use Rattle.refine_form.specs.paired_code.Rows.{line}
use Rattle.refine_form.proofs.paired_code_laws.Mirrored.{length_mirror}
use Rattle.refine_form.specs.pisa_isa.Loaded.{loaded}
use Rattle.refine_form.specs.code_conventions.declared.faults.TheConstants.{DELOCAL}
use Rattle.refine_form.specs.code_conventions.declared.registers.TheConstants.{FRAME, NOUGHT, VALUE}
use Rattle.refine_form.specs.roopl_semantics.Execution.{exec}
use Rattle.refine_form.specs.roopl_semantics.Source.{starting, main_body}
use Rattle.refine_form.specs.roopl_semantics.Layout.{layout}
use Rattle.refine_form.specs.declared.spot.Spot.{Spot}
use Rattle.refine_form.specs.declared.spot.Spot.TheVariants.{Field, Frame}
use Rattle.refine_form.specs.Cells.{around}
use Rattle.refine_form.specs.Form.{World, Scope, StmtLaw, run_result}
use Rattle.refine_form.specs.Stands.{spot_in}
use Rattle.refine_form.specs.Worlds.{world_of, rates_of}
use Rattle.refine_form.specs.code_conventions.Cells.{addi}
use Rattle.method_calls.specs.CallCode.{fetch_row, depth_code, moves_code, move_code, moves_of, last_cells}
use Rattle.method_calls.specs.CallCode.{behind_of, checked_of, front_on_of, call_code, call_on_code, own_cells}
use Rattle.method_calls.specs.CallCode.{nil_code, take_code, onto_code, method_code, main_code, main_cells, local_open}
use Rattle.method_calls.specs.CallCode.{local_code, save_row, store_code}
use Rattle.method_calls.specs.Facts.{KnownCalls, FrameFacts}
use Rattle.method_calls.specs.Names.{known_calls_of, receivers_of, method_slot_of}
use Rattle.method_calls.specs.Laws.{LocalCode, OwnCallCode, CallOnCode, MethodCode, MainCode, AreVariables, quiet}
use Rattle.method_calls.specs.Laws.{EntersMain}
use Rattle.method_calls.proofs.Moves.{AllVariables}
use Rattle.method_calls.proofs.Methods.{method_law}
use Rattle.method_calls.proofs.OwnCalls.{call_law}
use Rattle.method_calls.proofs.ApartCells.{moves_alike}
use Rattle.method_calls.proofs.OnCalls.{call_on_law}
use Rattle.method_calls.proofs.LocalBlocks.{local_law, construct_law, element_call_law}
use Rattle.method_calls.proofs.MainPiece.{main_does}
use Rattle.method_calls.proofs.MainEntry.{main_enters}

some_counts : (n : ℕ) → 1 ≤ n + 64
some_counts n = omega arith

-- ---- the cells by the storage slots

moves_same : (spot : Ident → Spot) (args : List Ident) → moves_code spot args ≡ moves_of (map spot args)
moves_same spot [] = refl
moves_same spot (x ∷ args) = ap (λ z. z ++ move_code (spot x) (length args)) (moves_same spot args)
    ∙ ap (λ n. moves_of (map spot args) ++ move_code (spot x) n) (sym (length-map args spot))

own_same : (spot : Ident → Spot) (back : Bool) (slot : ℕ) (args : List Ident)
    → call_code spot back slot args ≡ own_cells back slot (map spot args)
unfolding last_cells own_cells
own_same spot back slot args = ap (λ z. around (depth_code ++ (z ++ line (addi FRAME FRAME_WORDS ∷ fetch_row slot)))
    (enter_at_cells VALUE back)) (moves_same spot args)

on_same : (spot : Ident → Spot) (back : Bool) (x : Ident) (slot : ℕ) (args : List Ident)
    → call_on_code spot back x slot args ≡ around (front_on_of (spot x) slot (map spot args))
    (enter_at_cells VALUE back)
unfolding last_cells behind_of checked_of front_on_of
on_same spot back x slot args = ap (λ z. around (nil_code (spot x)
    ++ (depth_code ++ (z ++ (take_code (spot x) ++ (onto_code ++ line (addi FRAME FRAME_WORDS ∷ fetch_row slot))))))
    (enter_at_cells VALUE back)) (moves_same spot args)

-- ---- laws

variables_are : (w : World) (knows : KnownCalls w) (f : FrameFacts w knows) (s : Scope) (u : w.Under) (names : List Ident)
    → AreVariables w knows s names → AllVariables w knows f s u names
variables_are w knows f s u [] h = tt
variables_are w knows f s u (x ∷ names) h = (h.0, variables_are w knows f s u names h.1)

pub local_clause : (word : ℕ) (v p x : List Symbol) → LocalCode word v p x (local_code word v p x)
local_clause word v p x = record {
  law = λ place s at var value body end_var end_value f word_is named iv ie hv he hb.
      subst (λ z. StmtLaw (world_of place) s (Local at var value body end_var end_value) (local_code z v p x)) word_is
      (local_law (world_of place) _ f refl (some_counts _) s at var value body end_var end_value named v p x hv he
      hb iv ie);
  construct = λ place s at class var body end f word_is is hv hx hb.
      subst (λ z. StmtLaw (world_of place) s (Construct at class var.name body end) (local_code z v p x)) word_is
      (construct_law (world_of place) _ f refl (some_counts _) s at class var body end v p x hv hx hb is);
  element = λ place s at back array index method args var f word_is named is hv hx hb.
      subst (λ z. StmtLaw (world_of place) s (Call at back (Some (Item array index)) method args) (local_code z v p x))
      word_is (element_call_law (world_of place) _ f refl (some_counts _) s at back array index method args var v p
      x named hv hx hb is);
}

pub own_clause : (back : Bool) (slot : ℕ) (spots : List Spot) → OwnCallCode back slot spots (own_cells back slot spots)
own_clause back slot spots = record {
  law = λ place routine s at name args f is slot_is vars spots_are apart.
      let w = world_of place in
      let knows = known_calls_of place routine in
      let spot = spot_in place.setting.program s in
      let law = call_law w knows f s at back name args is is.few (λ u. variables_are w knows f s u args vars)
      (moves_alike w knows f s args apart) in
      subst (λ z. StmtLaw w s (Call at back None name args) z)
      (own_same spot back (method_slot_of place.setting.program s.class name) args
      ∙ ap (λ k. own_cells back k (map spot args)) slot_is ∙ ap (own_cells back slot) spots_are) law;
}

pub on_clause : (back : Bool) (spot : Spot) (slot : ℕ) (spots : List Spot)
    → CallOnCode back spot slot spots (around (front_on_of spot slot spots) (enter_at_cells VALUE back))
on_clause back sp slot spots = record {
  law = λ place routine s at x name args f g is slot_is vars spot_is spots_are apart.
      let w = world_of place in
      let knows = known_calls_of place routine in
      let on = receivers_of place in
      let spot = spot_in place.setting.program s in
      let law = call_on_law w knows f on g s at back x name args is is.method.few
      (λ u. variables_are w knows f s u args vars) apart in
      subst (λ z. StmtLaw w s (Call at back (Some (Whole x)) name args) z)
      (on_same spot back x (on.slot_on s x name) args ∙ ap
      (λ k. around (front_on_of (spot x) k (map spot args)) (enter_at_cells VALUE back)) slot_is
      ∙ ap (λ k. around (front_on_of k slot (map spot args)) (enter_at_cells VALUE back)) spot_is
      ∙ ap (λ k. around (front_on_of sp slot k) (enter_at_cells VALUE back)) spots_are) law;
}

pub method_clause : (p : List Symbol) → MethodCode p (method_code p)
method_clause p = record {
  law = λ place routine s method f hp. method_law (world_of place) (known_calls_of place routine) f s
      method p hp;
}

pub main_clause : (number : ℕ) → MainCode number (main_cells number)
unfolding main_cells
main_clause number = record {
  enters = λ place routine input f main is.
      subst (λ k. (i : ℕ) → i + length (main_code k) < 2 ^ 30 → Stands place.im code_line i (main_code k)
      → EntersMain (world_of place) place.statics input main i (main_code k)) is
      (λ i short stands. main_enters (world_of place) (known_calls_of place routine) f place.statics input main i short
      stands);
  law = λ place routine input f main is laws n.
      subst (λ k. Will place.im (main_code k) false (quiet (loaded place.statics place.setting.limits input))
      (Meets (λ st m. m ≡ quiet (layout place.setting.program place.setting.limits place.statics st.store st.log))
      (rates_of place.setting) n 900 (run_result (exec place.setting n (main_body place.setting.program)
      (starting place.setting.program input))))) is
      (main_does (world_of place) (known_calls_of place routine) f place.statics input main laws n);
}

-- ---- sizes

sum_around : (w m n k : ℕ) → n ≡ w + k → k ≡ m + w → n ≡ 2 * w + m
sum_around w m n k h g = omega arith

around_length : (w mid : List Symbol) → length (around w mid) ≡ 2 * length w + length mid
around_length w mid =
    sum_around (length w) (length mid) (length (around w mid)) (length (mid ++ mirror_cells w))
    (length-append w (mid ++ mirror_cells w)) (length-append mid (mirror_cells w)
    ∙ ap (λ n. length mid + n) (length_mirror w))

move_length : (spot : Spot) (j : ℕ) → length (move_code spot j) ≡ 9
unfolding move_code
move_length (Field i) j = refl
move_length (Frame i) j = refl

sum_moves : (n k m : ℕ) → m ≡ n + 9 → n ≡ 9 * k → m ≡ 9 * suc k
sum_moves n k m h g = omega arith

moves_length : (spots : List Spot) → length (moves_of spots) ≡ 9 * length spots
moves_length [] = refl
moves_length (spot ∷ spots) = sum_moves (length (moves_of spots)) (length spots) (length (moves_of (spot ∷ spots)))
    (length-append (moves_of spots) (move_code spot (length spots))
    ∙ ap (λ n. length (moves_of spots) + n) (move_length spot (length spots))) (moves_length spots)

last_length : (slot : ℕ) → length (last_cells slot) ≡ 8
unfolding last_cells
last_length slot = refl

sum_own : (k n1 n2 n3 n4 : ℕ) → n1 ≡ 9 + n2 → n2 ≡ n3 + 8 → n3 ≡ 9 * k → n4 ≡ 2 * n1 + 7 → n4 ≡ 18 * k + 41
sum_own k n1 n2 n3 n4 a b c d = omega arith

pub own_length : (back : Bool) (slot : ℕ) (spots : List Spot)
    → length (own_cells back slot spots) ≡ 18 * length spots + 41
unfolding own_cells
own_length back slot spots =
    let front = depth_code ++ (moves_of spots ++ last_cells slot) in
    sum_own (length spots) (length front) (length (moves_of spots ++ last_cells slot)) (length (moves_of spots))
    (length (own_cells back slot spots))
    (length-append depth_code (moves_of spots ++ last_cells slot))
    (length-append (moves_of spots) (last_cells slot) ∙ ap (λ n. length (moves_of spots) + n) (last_length slot))
    (moves_length spots)
    (around_length front (enter_at_cells VALUE back))

behind_length : (spot : Spot) (slot : ℕ) → length (behind_of spot slot) ≡ 19
unfolding last_cells behind_of
behind_length (Field i) slot = refl
behind_length (Frame i) slot = refl

nil_length : (spot : Spot) → length (nil_code spot) ≡ 7
nil_length (Field i) = refl
nil_length (Frame i) = refl

sum_checked : (k n1 n2 n3 : ℕ) → n1 ≡ 9 + n2 → n2 ≡ n3 + 19 → n3 ≡ 9 * k → n1 ≡ 9 * k + 28
sum_checked k n1 n2 n3 a b c = omega arith

checked_length : (spot : Spot) (slot : ℕ) (spots : List Spot)
    → length (checked_of spot slot spots) ≡ 9 * length spots + 28
unfolding checked_of
checked_length spot slot spots =
    sum_checked (length spots) (length (depth_code ++ (moves_of spots ++ behind_of spot slot)))
    (length (moves_of spots ++ behind_of spot slot)) (length (moves_of spots))
    (length-append depth_code (moves_of spots ++ behind_of spot slot))
    (length-append (moves_of spots) (behind_of spot slot)
    ∙ ap (λ n. length (moves_of spots) + n) (behind_length spot slot)) (moves_length spots)

front_length : (spot : Spot) (slot : ℕ) (spots : List Spot)
    → length (front_on_of spot slot spots) ≡ 7 + (9 * length spots + 28)
unfolding front_on_of
front_length spot slot spots = length-append (nil_code spot) (checked_of spot slot spots)
    ∙ ap (λ n. n + length (checked_of spot slot spots)) (nil_length spot)
    ∙ ap (λ n. 7 + n) (checked_length spot slot spots)

sum_on : (k n1 n4 : ℕ) → n1 ≡ 7 + (9 * k + 28) → n4 ≡ 2 * n1 + 7 → n4 ≡ 18 * k + 77
sum_on k n1 n4 a d = omega arith

pub on_length : (back : Bool) (spot : Spot) (slot : ℕ) (spots : List Spot)
    → length (around (front_on_of spot slot spots) (enter_at_cells VALUE back)) ≡ 18 * length spots + 77
on_length back spot slot spots =
    sum_on (length spots) (length (front_on_of spot slot spots))
    (length (around (front_on_of spot slot spots) (enter_at_cells VALUE back))) (front_length spot slot spots)
    (around_length (front_on_of spot slot spots) (enter_at_cells VALUE back))

sum_method : (p n : ℕ) → n ≡ 2 * 4 + p → n ≡ p + 8
sum_method p n h = omega arith

pub method_length : (p : List Symbol) → length (method_code p) ≡ length p + 8
method_length p = sum_method (length p) (length (method_code p)) (around_length (line save_row) p)

pub main_length : (number : ℕ) → length (main_cells number) ≡ 13
unfolding main_cells
main_length number = refl

sum_open : (v n k : ℕ) → n ≡ 3 + k → k ≡ v + 3 → n ≡ v + 6
sum_open v n k h g = omega arith

open_length : (word : ℕ) (v : List Symbol) → length (local_open word v) ≡ length v + 6
open_length word v =
    let store = store_code word in
    sum_open (length v) (length (local_open word v)) (length (v ++ store))
    (length-append (check_equal_cells VALUE NOUGHT DELOCAL) (v ++ store)) (length-append v store)

sum_local : (v p x n1 n2 n3 n4 n5 : ℕ) → n5 ≡ n1 + n2 → n2 ≡ p + n3 → n3 ≡ n4 → n1 ≡ v + 6 → n4 ≡ x + 6
    → n5 ≡ v + p + x + 12
sum_local v p x n1 n2 n3 n4 n5 a b c d e = omega arith

pub local_length : (word : ℕ) (v p x : List Symbol) → length (local_code word v p x)
    ≡ length v + length p + length x + 12
local_length word v p x =
    let last = mirror_cells (local_open word x) in
    sum_local (length v) (length p) (length x) (length (local_open word v)) (length (p ++ last)) (length last)
    (length (local_open word x)) (length (local_code word v p x))
    (length-append (local_open word v) (p ++ last)) (length-append p last) (length_mirror (local_open word x))
    (open_length word v) (open_length word x)
