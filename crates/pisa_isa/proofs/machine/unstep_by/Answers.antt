use Rattle.std.proofs.Common.{rules, ◌≡◌, ◌∙◌, ap, sym, Some, true, w64, SFits, to_z, of_z}
use Rattle.std.proofs.lemmas.Int.{to_z-of_z}
use Rattle.pisa_isa.specs.Machine.{core_state, back, fetch, faced, has_cell, row_of, place_moved, moved, turned_state}
use Rattle.pisa_isa.proofs.CanUndo.{came_by, stepped_back, has_cell-before}
use Rattle.pisa_isa.proofs.Back.{back-next}
use Rattle.pisa_isa.proofs.machine.unstep_by.Goals as goal

pub place_before-pc-requires-clause-low : goal.place_before-pc-requires-clause-low
place_before-pc-requires-clause-low g c = (came_by _ _ c.requires.code c.requires.made).low

pub place_before-pc-requires-clause-high : goal.place_before-pc-requires-clause-high
place_before-pc-requires-clause-high g c = (came_by _ _ c.requires.code c.requires.made).high

pub cell_at-requires-clause-there : goal.cell_at-requires-clause-there
cell_at-requires-clause-there g c =
    let b = came_by _ _ c.requires.code c.requires.made in
    let there : fetch c.args.code.now c.place_before-pc.result ≡ Some b.cell =
    rw (c.place_before-pc.ensures, c.requires.back) b.there in
    let f : SFits w64 c.place_before-pc.result = search rules in
    simp (to_z-of_z, there)

pub returns-clause-back : goal.returns-clause-back
returns-clause-back g c =
    let m = core_state c.args.core.now (g.C.Cells.words c.args.cells.now) in
    let b = came_by _ _ c.requires.code c.requires.made in
    let f : SFits w64 c.place_before-pc.result = search rules in
    let place : c.place_before-pc.result ≡ (moved (turned_state m)).pc = c.place_before-pc.ensures
    ∙ ap (λ b. place_moved b m.pc m.br) c.requires.back in
    let is_place : to_z w64 (of_z w64 c.place_before-pc.result) ≡ (moved (turned_state m)).pc = simp to_z-of_z place in
    let there : fetch c.args.code.now (moved (turned_state m)).pc ≡ Some c.cell_at.result.now =
    sym (ap (fetch c.args.code.now) is_place) ∙ c.cell_at.ensures.found in
    let both : Some b.cell ≡ Some c.cell_at.result.now = sym b.there ∙ there in
    let same : b.cell ≡ c.cell_at.result.now = cc in
    let known_found : has_cell c.cell_at.result.now.op c.cell_at.result.now.b (moved (turned_state m)) ≡ true =
    rw (sym same) b.found in
    let found : has_cell c.cell_at.result.now.op c.cell_at.result.now.b m ≡ true =
    has_cell-before c.cell_at.result.now m known_found in
    let acts = c.act_by-stop.ensures.acts found ∙ ap (λ b. row_of (faced b c.cell_at.result.now) m) c.requires.back in
    ap (λ k. core_state k (g.C.Cells.words c.act_by-stop.new.cells)) c.stand_at.ensures
    ∙ stepped_back c.args.code.now m c.cell_at.result.now
    (core_state c.act_by-stop.new.core (g.C.Cells.words c.act_by-stop.new.cells)) _ there acts is_place

pub returns-clause-undoes : goal.returns-clause-undoes
returns-clause-undoes g c = λ m s h e.
    returns-clause-back g c ∙ ap (back c.args.code.now) e ∙ back-next c.args.code.now m c.requires.code s h
