use Rattle.std.proofs.Common.{◌∙◌, refl, sym, ap, subst, inl, map, []}
use Rattle.command_line.specs.Lines.{asked}
use Rattle.command_line.specs.command_plan.Files.{LacksOne}
use Rattle.command_line.specs.command_plan.Reads.{Gave}
use Rattle.rpp_command.specs.Causes.{files_of}
use Rattle.plan_serving.specs.Held.{held_texts}
use Rattle.plan_serving.specs.Places.{HasPlaces, held_bytes}
use Rattle.plan_serving.specs.Wanted.{file_of}
use Rattle.rpp_command.proofs.Early.{leaves_same}
use Rattle.plan_serving.proofs.Fetched.{some_none, none_lacks}
use Rattle.rpp_command.proofs.Held.{placed_files, read_plan, told_plan, stops_plan, short_plan}
use Rattle.rpp_command.proofs.top.plan_files.Goals as goal

pub returns-in-Err-clause-stops : goal.returns-in-Err-clause-stops
returns-in-Err-clause-stops g c = inl (some_none (files_of (asked c.args.line.now)) _, refl)

pub returns-in-Err-clause-short : goal.returns-in-Err-clause-short
returns-in-Err-clause-short g c = leaves_same (asked c.args.line.now) _ _

pub returns-in-Err-fetch-clause-short : goal.returns-in-Err-fetch-clause-short
returns-in-Err-fetch-clause-short g c = leaves_same (asked c.args.line.now) _ _

pub plan_held-requires-clause-whole : goal.plan_held-requires-clause-whole
plan_held-requires-clause-whole g c =
    let told = g.S.Shelf.texts c.args.shelf.now in
    let old = g.S.Shelf.events c.args.shelf.now in
    let new = g.S.Shelf.events c.fetch.new.shelf in
    let texts = map held_bytes c.in-Ok-fetch.texts.items in
    let gave = subst (λ files. Gave told files texts old new) (ap (map file_of) c.deref.ensures.value ∙ c.in-Ok.ensures)
    c.in-Ok-fetch.ensures.gave in
    let has = subst (λ held. HasPlaces held [] texts) (sym c.new-held.ensures) c.in-Ok-fetch.ensures.places in
    subst (λ files. LacksOne (held_texts c.new-held.result) files → ⊥) (sym (placed_files (asked c.args.line.now)))
    (none_lacks told (held_texts c.new-held.result) [] (files_of (asked c.args.line.now)) texts old new gave has)

pub returns-clause-plan : goal.returns-clause-plan
returns-clause-plan g c =
    let told = g.S.Shelf.texts c.args.shelf.now in
    let old = g.S.Shelf.events c.args.shelf.now in
    let new = g.S.Shelf.events c.fetch.new.shelf in
    let texts = map held_bytes c.in-Ok-fetch.texts.items in
    let gave = subst (λ files. Gave told files texts old new) (ap (map file_of) c.deref.ensures.value ∙ c.in-Ok.ensures)
    c.in-Ok-fetch.ensures.gave in
    let has = subst (λ held. HasPlaces held [] texts) (sym c.new-held.ensures) c.in-Ok-fetch.ensures.places in
    told_plan (asked c.args.line.now) _ _ _ _ told (held_texts c.new-held.result) texts old new c.plan_held.result gave
    has
    c.plan_held.ensures.plan

pub returns-clause-planned : goal.returns-clause-planned
returns-clause-planned g c =
    let told = g.S.Shelf.texts c.args.shelf.now in
    let old = g.S.Shelf.events c.args.shelf.now in
    let new = g.S.Shelf.events c.fetch.new.shelf in
    let texts = map held_bytes c.in-Ok-fetch.texts.items in
    let gave = subst (λ files. Gave told files texts old new) (ap (map file_of) c.deref.ensures.value ∙ c.in-Ok.ensures)
    c.in-Ok-fetch.ensures.gave in
    let has = subst (λ held. HasPlaces held [] texts) (sym c.new-held.ensures) c.in-Ok-fetch.ensures.places in
    read_plan (asked c.args.line.now) _ _ _ _ told (held_texts c.new-held.result) texts old new c.plan_held.result gave
    has
    c.plan_held.ensures.plan

pub returns-clause-stops : goal.returns-clause-stops
returns-clause-stops g c =
    let told = g.S.Shelf.texts c.args.shelf.now in
    let old = g.S.Shelf.events c.args.shelf.now in
    let new = g.S.Shelf.events c.fetch.new.shelf in
    let texts = map held_bytes c.in-Ok-fetch.texts.items in
    let gave = subst (λ files. Gave told files texts old new) (ap (map file_of) c.deref.ensures.value ∙ c.in-Ok.ensures)
    c.in-Ok-fetch.ensures.gave in
    let has = subst (λ held. HasPlaces held [] texts) (sym c.new-held.ensures) c.in-Ok-fetch.ensures.places in
    stops_plan (asked c.args.line.now) _ _ c.args.counter.now c.args.counter.now told (held_texts c.new-held.result)
    texts old new _ _ c.plan_held.result gave has c.plan_held.ensures.memory c.plan_held.ensures.short

pub returns-clause-short : goal.returns-clause-short
returns-clause-short g c =
    let told = g.S.Shelf.texts c.args.shelf.now in
    let old = g.S.Shelf.events c.args.shelf.now in
    let new = g.S.Shelf.events c.fetch.new.shelf in
    let texts = map held_bytes c.in-Ok-fetch.texts.items in
    let gave = subst (λ files. Gave told files texts old new) (ap (map file_of) c.deref.ensures.value ∙ c.in-Ok.ensures)
    c.in-Ok-fetch.ensures.gave in
    let has = subst (λ held. HasPlaces held [] texts) (sym c.new-held.ensures) c.in-Ok-fetch.ensures.places in
    short_plan (asked c.args.line.now) _ _ c.args.counter.now c.args.counter.now told (held_texts c.new-held.result)
    texts old new c.plan_held.result gave has c.plan_held.ensures.short
