use Rattle.std.proofs.Common.{refl, ◌≡◌, ◌∙◌, ◌-◌, ap, ap₂, sym, subst, remove, slice_set, length, length-set, arith}
use Rattle.pisa_cluster.specs.Replay.{processor_state, replay, makers, start_of_joint}
use Rattle.pisa_cluster.specs.Schedules.{Schedule, IsCluster, IsFree}
use Rattle.pisa_cluster.proofs.Undoing.{free_step}
use Rattle.pisa_cluster.proofs.Calls.{back_at, who_low, who_high, is_next, goes_there, seen_next, back_to}
use Rattle.pisa_cluster.proofs.Calls.{replayed_cells}
use Rattle.pisa_cluster.proofs.cluster.Cluster.take_back.Goals as goal

pub overflow_sub-step : goal.overflow_sub-step
overflow_sub-step c =
    let old : Schedule = record {
      joint = record {
        processors = c.self.inside.processors.items;
        cells = c.self.inside.cells.words.items;
      };
      kept = c.self.inside.kept.items;
      next_serial = c.self.inside.next_serial;
    } in
    let free = subst (λ (s : Schedule). IsFree c.args.at s.kept) (sym c.self.view_is) c.requires.free in
    let b = back_at old c.args.at c.remove-step.result c.self.invariant free c.remove-step.ensures.value in
    who_low old _ c.remove-step.result b

pub index_mut-requires : goal.index_mut-requires
index_mut-requires c =
    let old : Schedule = record {
      joint = record {
        processors = c.self.inside.processors.items;
        cells = c.self.inside.cells.words.items;
      };
      kept = c.self.inside.kept.items;
      next_serial = c.self.inside.next_serial;
    } in
    let free = subst (λ (s : Schedule). IsFree c.args.at s.kept) (sym c.self.view_is) c.requires.free in
    let b = back_at old c.args.at c.remove-step.result c.self.invariant free c.remove-step.ensures.value in
    let high = who_high old _ c.remove-step.result b in
    let long = c.self.inside.processors.ok.0 in
    omega (arith, high, long)

pub step_back-requires : goal.step_back-requires
step_back-requires c =
    let old : Schedule = record {
      joint = record {
        processors = c.self.inside.processors.items;
        cells = c.self.inside.cells.words.items;
      };
      kept = c.self.inside.kept.items;
      next_serial = c.self.inside.next_serial;
    } in
    let free = subst (λ (s : Schedule). IsFree c.args.at s.kept) (sym c.self.view_is) c.requires.free in
    let b = back_at old c.args.at c.remove-step.result c.self.invariant free c.remove-step.ensures.value in
    record { made = is_next old _ c.remove-step.result b c.index_mut.result.now c.index_mut.ensures.value }

pub invariant_of-self : goal.invariant_of-self
invariant_of-self c =
    let old : Schedule = record {
      joint = record {
        processors = c.self.inside.processors.items;
        cells = c.self.inside.cells.words.items;
      };
      kept = c.self.inside.kept.items;
      next_serial = c.self.inside.next_serial;
    } in
    let free = subst (λ (s : Schedule). IsFree c.args.at s.kept) (sym c.self.view_is) c.requires.free in
    let b = back_at old c.args.at c.remove-step.result c.self.invariant free c.remove-step.ensures.value in
    let s = replay (start_of_joint old.joint) (makers (remove old.kept c.args.at)) in
    let q = c.index_mut.result.now in
    let undone = c.step_back.ensures.undoes (processor_state b.processor s.cells) b.state
    (goes_there old s c.remove-step.result b q c.index_mut.ensures.value)
    (seen_next old s c.remove-step.result b q c.index_mut.ensures.value) in
    let led = back_to old s c.remove-step.result b q c.step_back.new.self c.step_back.new.cells.words.items
    c.index_mut.ensures.value undone.0 undone.1 in
    let whole : record {
      joint = record {
        processors = slice_set c.self.inside.processors.items
            (c.remove-step.result.who - 1) c.step_back.new.self;
        cells = c.step_back.new.cells.words.items;
      };
      kept = c.remove-step.new.self.items;
      next_serial = c.self.inside.next_serial;
    }
    ≡ record old { joint = s; kept = remove old.kept c.args.at } =
    ap₂ (λ j k. record { joint = j; kept = k; next_serial = c.self.inside.next_serial }) led c.remove-step.ensures.items
    in
    subst IsCluster (sym whole) (free_step old c.args.at c.self.invariant free).cluster

pub returns : goal.returns
returns c =
    let old : Schedule = record {
      joint = record {
        processors = c.self.inside.processors.items;
        cells = c.self.inside.cells.words.items;
      };
      kept = c.self.inside.kept.items;
      next_serial = c.self.inside.next_serial;
    } in
    let free = subst (λ (s : Schedule). IsFree c.args.at s.kept) (sym c.self.view_is) c.requires.free in
    let b = back_at old c.args.at c.remove-step.result c.self.invariant free c.remove-step.ensures.value in
    let s = replay (start_of_joint old.joint) (makers (remove old.kept c.args.at)) in
    let q = c.index_mut.result.now in
    let undone = c.step_back.ensures.undoes (processor_state b.processor s.cells) b.state
    (goes_there old s c.remove-step.result b q c.index_mut.ensures.value)
    (seen_next old s c.remove-step.result b q c.index_mut.ensures.value) in
    let led = back_to old s c.remove-step.result b q c.step_back.new.self c.step_back.new.cells.words.items
    c.index_mut.ensures.value undone.0 undone.1 in
    let whole : record {
      joint = record {
        processors = slice_set c.self.inside.processors.items
            (c.remove-step.result.who - 1) c.step_back.new.self;
        cells = c.step_back.new.cells.words.items;
      };
      kept = c.remove-step.new.self.items;
      next_serial = c.self.inside.next_serial;
    }
    ≡ record old { joint = s; kept = remove old.kept c.args.at } =
    ap₂ (λ j k. record { joint = j; kept = k; next_serial = c.self.inside.next_serial }) led c.remove-step.ensures.items
    in
    record {
      leads = whole ∙ ap (λ (x : Schedule). record x {
        joint = replay (start_of_joint x.joint)
            (makers (remove x.kept c.args.at));
        kept = remove x.kept c.args.at;
      }) c.self.view_is;
      cluster = subst IsCluster (sym whole) (free_step old c.args.at c.self.invariant free).cluster;
      cells = ap (λ (x : Schedule). length x.joint.cells) whole
          ∙ replayed_cells old (record old { joint = s; kept = remove old.kept c.args.at }) (remove old.kept c.args.at)
          refl ∙ ap (λ (x : Schedule). length x.joint.cells) c.self.view_is;
      processors = length-set c.self.inside.processors.items (c.remove-step.result.who - 1) c.step_back.new.self
          ∙ ap (λ (x : Schedule). length x.joint.processors) c.self.view_is;
    }
