use Rattle.std.proofs.Common.{◌≡◌, ◌∙◌, ◌∷◌, map, IfOk, subst, ℕ, List, Ok, Err, Vec}
use Rattle.std.specs.Prelude.{Result}
use Rattle.command_plan.specs.rpp_ports.Memory.{file_text}
use Rattle.command_plan.specs.rpp_ports.declared.memory_shelf.Named.{Named}
use Rattle.command_plan.specs.declared.plan.NoPlan.{NoPlan}
use Rattle.command_plan.specs.Files.{Needed}
use Rattle.plan_serving.specs.Places.{HasPlaces, IsBefore, held_bytes}
use Rattle.plan_serving.specs.Wanted.{file_of}
use Rattle.command_plan.proofs.TwoReads.{then_reads}
use Rattle.plan_serving.proofs.Fetched.{first_asked, then_asked, all_asked, then_gave, place_more}
use Rattle.plan_serving.proofs.fetching.+fetch.Goals as goal

pub returns-in-Err-clause-asks : goal.returns-in-Err-clause-asks
returns-in-Err-clause-asks g t c =
    rw (c.in-Some.ensures.cases.0, ← c.as_str.ensures.value)
    (first_asked _ _ _ _ _ _ _ _ c.in-Err.ensures.asks)

placed : {A : Type 0} (r : Result (Vec Named A) NoPlan) (place bytes : List ℕ) (others : List Named)
    → IfOk r (λ read. map held_bytes read.items ≡ bytes ∷ map held_bytes others)
    → IfOk r (λ read. IsBefore place bytes (file_text others) (file_text read.items))
    → HasPlaces (file_text others) (97 ∷ place) (map held_bytes others)
    → IfOk r (λ read. HasPlaces (file_text read.items) place (map held_bytes read.items))
placed (Ok read) place bytes others texts before has =
    rw texts (place_more (file_text others) (file_text read.items) place bytes (map held_bytes others) before has)
placed (Err e) place bytes others texts before has = tt

pub returns-in-Ok-fetch-clause-places : goal.returns-in-Ok-fetch-clause-places
returns-in-Ok-fetch-clause-places g t c =
    let others = c.in-Ok-fetch.others.items in
    placed c.with_first.result c.args.place.now c.in-Ok.bytes.items others c.with_first.ensures.texts
    c.with_first.ensures.held
    (subst (λ (place : List ℕ). HasPlaces (file_text others) place (map held_bytes others))
    (c.as_str-2.ensures.value ∙ c.in_ok-next.ensures.ok) c.in-Ok-fetch.ensures.places)

pub returns-in-Ok-fetch-clause-asks : goal.returns-in-Ok-fetch-clause-asks
returns-in-Ok-fetch-clause-asks g t c =
    let told = g.S.Shelf.texts c.args.shelf.now in
    let at = g.S.Shelf.texts c.read_file.new.shelf in
    let old = g.S.Shelf.events c.args.shelf.now in
    let mid = g.S.Shelf.events c.read_file.new.shelf in
    let new = g.S.Shelf.events c.fetch.new.shelf in
    let file : Needed = record { name = c.as_str.result.now; limit = c.in-Some.file.now.limit } in
    let files = map file_of c.in-Some.rest.now in
    let others = map held_bytes c.in-Ok-fetch.others.items in
    rw (c.in-Some.ensures.cases.0, ← c.as_str.ensures.value)
    (all_asked told _ _ (file ∷ files) old new (c.in-Ok.bytes.items ∷ others) c.with_first.result
    (then_gave told at file files c.in-Ok.bytes.items others old mid new c.in-Ok.ensures.reads.kept
    c.in-Ok.ensures.gave c.in-Ok-fetch.ensures.gave)
    c.with_first.ensures.memory)

pub returns-clause-asks : goal.returns-clause-asks
returns-clause-asks g t c =
    let file : Needed = record { name = c.as_str.result.now; limit = c.in-Some.file.now.limit } in
    rw (c.in-Some.ensures.cases.0, ← c.as_str.ensures.value)
    (then_asked _ _ _ _ _ file _ _ _ _ c.in-Ok.bytes.items _ c.in-Ok.ensures.reads.kept c.in-Ok.ensures.reads.later
    c.in-Ok.ensures.gave c.in-Err-fetch.ensures.asks)

pub returns-clause-reads : goal.returns-clause-reads
returns-clause-reads g t c =
    rw (c.in-Some.ensures.cases.0, ← c.as_str.ensures.value)
    (then_reads _ _ _ _ _ _ _ _ _ _ c.in-Ok.ensures.reads c.in-Err-fetch.ensures.reads)
