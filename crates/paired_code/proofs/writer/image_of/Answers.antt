use Rattle.std.proofs.Common.{◌≡◌, ◌+◌, length, ap, subst, sym, refl, arith, ◌∙◌}
use Rattle.std.proofs.lemmas.List.{length-map}
use Rattle.code_conventions.specs.pisa_isa.Image.{Segments}
use Rattle.paired_code.specs.Link.{link_code, routines_size}
use Rattle.paired_code.specs.Fit.{EachFit}
use Rattle.paired_code.specs.Code.{bodies}
use Rattle.paired_code.proofs.Writing.{head_built, head_length, link_built, law_built, in_range, accepted, code_length}
use Rattle.paired_code.proofs.Writing.{pushed, not_refused}
use Rattle.paired_code.proofs.writer.image_of.Goals as goal

pub put_routines-requires : goal.put_routines-requires
put_routines-requires c =
    let n : length c.push-2.new.self.items ≡ 1 + length c.args.main.cells + 1 =
    head_length _ c.args.main.cells _ (head_built _ c.args.main.cells _ _ _ _ _ c.cells_of-cells.ensures.cells
    c.new-code.ensures.items (pushed _ _ _ _ c.start.ensures c.in_ok-push.ensures.items) c.in_ok-put_cells.ensures
    (pushed _ _ _ _ c.finish.ensures c.in_ok-push-2.ensures.items)) in
    let b : routines_size (bodies c.deref-3.result.now) ≡ routines_size (bodies c.args.routines.items) =
    ap (λ z. routines_size (bodies z)) c.deref-3.ensures.value in
    omega arith

sealed : (c : goal.In_ok-words) → c.put_routines.new.code.items
    ≡ link_code c.args.main.cells (bodies c.args.routines.items)
sealed c = link_built c.args.main.cells c.cells_of-cells.result.now _ _ _ _ _ _ _ _ _ _ _ _
    c.cells_of-cells.ensures.cells refl (ap bodies c.deref.ensures.value) (ap bodies c.deref-3.ensures.value)
    c.in_ok-places.ensures c.deref-2.ensures.value c.deref-4.ensures.value c.new-code.ensures.items
    (pushed _ _ _ _ c.start.ensures c.in_ok-push.ensures.items) c.in_ok-put_cells.ensures
    (pushed _ _ _ _ c.finish.ensures c.in_ok-push-2.ensures.items) c.in_ok-put_routines.ensures.code

each_sealed : (c : goal.In_ok-words) → EachFit (bodies c.args.routines.items)
each_sealed c = subst (λ z. EachFit (bodies z)) c.deref-3.ensures.value c.in_ok-put_routines.ensures.fit

refused : (c : goal.In-Err) → c.put_routines.new.code.items ≡ link_code c.args.main.cells (bodies c.args.routines.items)
refused c = link_built c.args.main.cells c.cells_of-cells.result.now _ _ _ _ _ _ _ _ _ _ _ _
    c.cells_of-cells.ensures.cells refl (ap bodies c.deref.ensures.value) (ap bodies c.deref-3.ensures.value)
    c.in_ok-places.ensures c.deref-2.ensures.value c.deref-4.ensures.value c.new-code.ensures.items
    (pushed _ _ _ _ c.start.ensures c.in_ok-push.ensures.items) c.in_ok-put_cells.ensures
    (pushed _ _ _ _ c.finish.ensures c.in_ok-push-2.ensures.items) c.in_ok-put_routines.ensures.code

each_refused : (c : goal.In-Err) → EachFit (bodies c.args.routines.items)
each_refused c = subst (λ z. EachFit (bodies z)) c.deref-3.ensures.value c.in_ok-put_routines.ensures.fit

made : (c : goal.After-drop-main-inside-3) → c.put_routines.new.code.items
    ≡ link_code c.args.main.cells (bodies c.args.routines.items)
made c = link_built c.args.main.cells c.cells_of-cells.result.now _ _ _ _ _ _ _ _ _ _ _ _ c.cells_of-cells.ensures.cells
    refl (ap bodies c.deref.ensures.value) (ap bodies c.deref-3.ensures.value) c.in_ok-places.ensures
    c.deref-2.ensures.value c.deref-4.ensures.value c.new-code.ensures.items
    (pushed _ _ _ _ c.start.ensures c.in_ok-push.ensures.items) c.in_ok-put_cells.ensures
    (pushed _ _ _ _ c.finish.ensures c.in_ok-push-2.ensures.items) c.in_ok-put_routines.ensures.code

each_made : (c : goal.After-drop-main-inside-3) → EachFit (bodies c.args.routines.items)
each_made c = subst (λ z. EachFit (bodies z)) c.deref-3.ensures.value c.in_ok-put_routines.ensures.fit

pub seal-requires-clause-in_range : goal.seal-requires-clause-in_range
seal-requires-clause-in_range c = in_range c.args.main.cells (bodies c.args.routines.items) _
    c.cells_of-cells.ensures.fit (each_sealed c) (sealed c)

pub seal-requires-clause-code_in_limit : goal.seal-requires-clause-code_in_limit
seal-requires-clause-code_in_limit c = omega (
  arith,
  c.put_routines.new.code.ok.0,
  code_length c.args.main.cells (bodies c.args.routines.items) _ (sealed c),
  c.requires.code_in_limit,
)

pub seal-requires-clause-statics_in_limit : goal.seal-requires-clause-statics_in_limit
seal-requires-clause-statics_in_limit c =
    let n : length c.in_ok-words.words.items ≡ length c.args.statics.items = ap length c.in_ok-words.ensures
    ∙ length-map _ _ ∙ ap length c.deref-5.ensures.value in
    omega (arith, c.in_ok-words.words.ok.0, n, c.requires.statics_in_limit)

pub unreachable-requires : goal.unreachable-requires
unreachable-requires c = not_refused _ (sym (accepted c.args.main.cells (bodies c.args.routines.items) _
    c.cells_of-cells.ensures.fit (each_refused c) (refused c)) ∙ c.in-Err.ensures.sealed)

image_code : (c : goal.After-drop-main-inside-3) → c.in-Ok.image.code
    ≡ link_code c.args.main.cells (bodies c.args.routines.items)
image_code c = ap (λ (z : Segments). z.code) c.in-Ok.ensures.image ∙ made c

pub returns-clause-code : goal.returns-clause-code
returns-clause-code c = image_code c

pub returns-clause-law : goal.returns-clause-law
returns-clause-law c = law_built c.args.main.cells (bodies c.args.routines.items) _ c.requires.code_in_limit
    (image_code c)
