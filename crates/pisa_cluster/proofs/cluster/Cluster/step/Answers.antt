use Rattle.std.proofs.Common.{◌≡◌, ◌∙◌, ◌≤◌, ◌+◌, ◌-◌, ap, ap₂, sym, subst, length, slice_set, get_or, take}
use Rattle.pisa_isa.specs.Machine.{stop}
use Rattle.pisa_cluster.specs.Replay.{processor_state}
use Rattle.pisa_cluster.specs.Schedules.{Schedule, IsStepMade}
use Rattle.pisa_cluster.proofs.Calls.{MadeBy, made_by, stopped_by, put_back, popped}
use Rattle.pisa_cluster.proofs.cluster.Cluster.step.Goals as goal

both : (c : goal.After-self-in-None-1) → MadeBy (record {
  joint = record { processors = c.self.inside.processors.items; cells = c.self.inside.cells.words.items };
  kept = c.self.inside.kept.items;
  next_serial = c.self.inside.next_serial;
})
    (record {
      joint = record {
        processors = slice_set c.self.inside.processors.items (c.args.who - 1) c.step.new.self;
        cells = c.step.new.cells.words.items;
      };
      kept = c.push.new.self.items;
      next_serial = c.self.inside.next_serial + 1;
    }) c.args.who
both c =
    let old : Schedule = record {
      joint = record {
        processors = c.self.inside.processors.items;
        cells = c.self.inside.cells.words.items;
      };
      kept = c.self.inside.kept.items;
      next_serial = c.self.inside.next_serial;
    } in
    made_by old c.args.who c.index.result.now c.index_mut.result.now c.step.new.self c.step.new.cells.words.items
    c.touches-touched.result c.push.new.self.items
    c.requires.first (subst (λ (s : Schedule). c.args.who ≤ length s.joint.processors) (sym c.self.view_is)
    c.requires.last) c.index.ensures c.index_mut.ensures.value c.touches-touched.ensures
    c.in_ok-push.ensures.items
    c.in-None.ensures.stops c.in-None.ensures.processor c.in-None.ensures.cells c.self.invariant

pub invariant_of-self-in-None : goal.invariant_of-self-in-None
invariant_of-self-in-None c = (both c).cluster

pub returns-in-Some-clause-answer : goal.returns-in-Some-clause-answer
returns-in-Some-clause-answer c =
    let read = c.index_mut.ensures.value in
    let list : slice_set c.self.inside.processors.items (c.args.who - 1) c.step.new.self
    ≡ c.self.inside.processors.items =
    ap (slice_set c.self.inside.processors.items (c.args.who - 1)) c.in-Some.ensures.processor
    ∙ put_back c.self.inside.processors.items (c.args.who - 1) c.index_mut.result.now read in
    let keeps : c.pop.new.self.items ≡ c.self.inside.kept.items =
    popped c.self.inside.kept.items c.push.new.self.items c.pop.new.self.items
    (record { serial = c.self.inside.next_serial; who = c.args.who; touched = c.touches-touched.result })
    c.in_ok-push.ensures.items (c.pop.ensures.rest ∙ ap (λ n. take (n - 1) c.push.new.self.items)
    c.push.new.self.ok.0) in
    let stays : record {
      joint = record {
        processors = slice_set c.self.inside.processors.items (c.args.who - 1)
            c.step.new.self;
        cells = c.step.new.cells.words.items;
      };
      kept = c.pop.new.self.items;
      next_serial = c.self.inside.next_serial;
    }
    ≡ record {
      joint = record { processors = c.self.inside.processors.items; cells = c.self.inside.cells.words.items };
      kept = c.self.inside.kept.items;
      next_serial = c.self.inside.next_serial;
    } =
    ap₂ (λ j k. record { joint = j; kept = k; next_serial = c.self.inside.next_serial })
    (ap₂ (λ ps cells. record { processors = ps; cells = cells }) list c.in-Some.ensures.cells) keeps in
    stopped_by c.args.self.now _ c.args.who c.index_mut.result.now c.in-Some.why c.requires.first c.requires.last
    (c.index_mut.ensures.value ∙ ap (λ (s : Schedule). get_or s.joint.processors (c.args.who - 1)
    c.index_mut.result.now) c.self.view_is)
    (c.in-Some.ensures.stops ∙ ap (λ (s : Schedule). stop c.index_mut.result.now.image.code
    (processor_state c.index_mut.result.now s.joint.cells)) c.self.view_is)
    (stays ∙ c.self.view_is)

pub returns-in-None-clause-answer : goal.returns-in-None-clause-answer
returns-in-None-clause-answer c =
    let new : Schedule = record {
      joint = record {
        processors = slice_set c.self.inside.processors.items
            (c.args.who - 1) c.step.new.self;
        cells = c.step.new.cells.words.items;
      };
      kept = c.push.new.self.items;
      next_serial = c.self.inside.next_serial + 1;
    } in
    subst (λ (s : Schedule). IsStepMade c.args.who c.self.inside.next_serial s new) c.self.view_is (both c).is_made
