-- A changed element and one that is read are of one array in the source exactly if they are by
-- the words of the memory.
use Rattle.std.proofs.Common.{◌≡◌, ℕ, Bool, true, false, List, [], ◌∷◌, ◌++◌, refl, sym, ap, ◌∙◌}
use Rattle.std.specs.Prelude.{nat_eq, ◌||◌}
use Rattle.register_expressions.specs.rpp_tree.declared.tree.Ident.{Ident}
use Rattle.register_expressions.specs.rpp_tree.Tree.{Expression, Number, Null, Variable, Element, Binary, Lvalue, Whole, Item, Source}
use Rattle.register_expressions.specs.roopl_semantics.Store.{State}
use Rattle.register_expressions.specs.roopl_semantics.Value.{variable_value}
use Rattle.register_expressions.specs.roopl_semantics.Elements.{elements, index_elements, own_element, same_array, is_among, share_array}
use Rattle.register_expressions.specs.refine_form.declared.spot.Spot.{Spot}
use Rattle.register_expressions.specs.Number.{Bases, index_of, reads_array, shares, update_shares, swap_shares}
use Rattle.expr_uncompute.specs.Means.{shown, Means, MeansPlace, TellsArrays, TellsShares}

or_false : (x : Bool) → (x || false) ≡ x
or_false true = refl
or_false false = refl

or_assoc : (x y z : Bool) → (x || (y || z)) ≡ ((x || y) || z)
or_assoc true y z = refl
or_assoc false y z = refl

among_append : (program : Source) (st : State) (name : Ident) (xs ys : List Ident)
    → is_among program st name (xs ++ ys) ≡ (is_among program st name xs || is_among program st name ys)
among_append program st name [] ys = refl
among_append program st name (x ∷ xs) ys =
    ap (λ t. same_array program st name x || t) (among_append program st name xs ys)
    ∙ or_assoc (same_array program st name x) (is_among program st name xs) (is_among program st name ys)

module _ (address slot : ℕ → ℕ) (program : Source) (st : State) (spot : List ℕ → Spot) (b : Bases) (cells : List ℕ)
  where
    reads_is : (name : Ident) (e : Expression) → Means address slot program st spot b cells e
        → TellsArrays address slot program st spot b cells (variable_value program st name.text) e
        → reads_array spot b cells (shown address slot (variable_value program st name.text)) e
        ≡ is_among program st name (elements e)
    reads_is name (Number at word) h t = refl
    reads_is name (Null at) h t = refl
    reads_is name (Variable other) h t = refl
    reads_is name (Element other index) h t =
        let w : ℕ = shown address slot (variable_value program st name.text) in
        ap (λ z. nat_eq w z || reads_array spot b cells w index) h.0
        ∙ ap (λ u. u || reads_array spot b cells w index) (sym t.0)
        ∙ ap (λ u. same_array program st name other || u) (reads_is name index h.3 t.1)
    reads_is name (Binary at o left right) h t =
        let w : ℕ = shown address slot (variable_value program st name.text) in
        ap (λ u. u || reads_array spot b cells w right) (reads_is name left h.0 t.0)
        ∙ ap (λ u. is_among program st name (elements left) || u) (reads_is name right h.1 t.1)
        ∙ sym (among_append program st name (elements left) (elements right))

    -- of one element
    item_is : (name : Ident) (index e e' : Expression) → MeansPlace address slot program st spot b cells
        (Item name index)
        → Means address slot program st spot b cells e → Means address slot program st spot b cells e'
        → TellsShares address slot program st spot b cells (Item name index) e e'
        → shares spot b cells (Item name index) e e' ≡ is_among program st name (elements e ++ elements e')
    item_is name index e e' p h k t =
        let w : ℕ = shown address slot (variable_value program st name.text) in
        ap (λ y. reads_array spot b cells y e || reads_array spot b cells y e') p.0
        ∙ ap (λ u. u || reads_array spot b cells w e') (reads_is name e h t.0)
        ∙ ap (λ u. is_among program st name (elements e) || u) (reads_is name e' k t.1)
        ∙ sym (among_append program st name (elements e) (elements e'))

    -- an update
    pub update_shares_is : (target : Lvalue) (e : Expression) → MeansPlace address slot program st spot b cells target
        → Means address slot program st spot b cells e → TellsShares address slot program st spot b cells target
        (index_of target) e
        → update_shares spot b cells target e ≡ share_array program st (own_element target)
        (index_elements target ++ elements e)
    update_shares_is (Whole name) e p h t = refl
    update_shares_is (Item name index) e p h t = item_is name index index e p p.3 h t
        ∙ sym (or_false (is_among program st name (elements index ++ elements e)))

    -- a place that changes, and one that is read
    pub places_share_is : (source target : Lvalue) → MeansPlace address slot program st spot b cells source
        → MeansPlace address slot program st spot b cells target
        → TellsShares address slot program st spot b cells target (index_of source) (index_of target)
        → shares spot b cells target (index_of source) (index_of target)
        ≡ share_array program st (own_element target) (index_elements source ++ index_elements target)
    places_share_is source (Whole name) p q t = refl
    places_share_is (Whole other) (Item name index) p q t = item_is name index (Null 0) index q tt q.3 t
        ∙ sym (or_false (is_among program st name (elements index)))
    places_share_is (Item other k) (Item name index) p q t = item_is name index k index q p.3 q.3 t
        ∙ sym (or_false (is_among program st name (elements k ++ elements index)))

    -- a swap
    pub swap_shares_is : (left right : Lvalue) → MeansPlace address slot program st spot b cells left
        → MeansPlace address slot program st spot b cells right
        → TellsShares address slot program st spot b cells left (index_of left) (index_of right)
        → TellsShares address slot program st spot b cells right (index_of left) (index_of right)
        → swap_shares spot b cells left right ≡ share_array program st (own_element left ++ own_element right)
        (index_elements left ++ index_elements right)
    swap_shares_is (Whole name) (Whole other) p q t u = refl
    swap_shares_is (Whole name) (Item other k) p q t u = item_is other k (Null 0) k q tt q.3 u
        ∙ sym (or_false (is_among program st other (elements k)))
    swap_shares_is (Item name index) (Whole other) p q t u =
        or_false (shares spot b cells (Item name index) index (Null 0)) ∙ item_is name index index (Null 0) p p.3 tt t
        ∙ sym (or_false (is_among program st name (elements index ++ [])))
    swap_shares_is (Item name index) (Item other k) p q t u =
        ap (λ z. z || shares spot b cells (Item other k) index k) (item_is name index index k p p.3 q.3 t)
        ∙ ap (λ z. is_among program st name (elements index ++ elements k) || z)
        (item_is other k index k q p.3 q.3 u ∙ sym (or_false
        (is_among program st other (elements index ++ elements k))))
