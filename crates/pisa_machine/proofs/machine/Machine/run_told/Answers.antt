use Rattle.std.proofs.Common.{◌≡◌, ◌∙◌, sym, ap, refl, arith, ℕ, ◌+◌, ◌<◌, List, None, Some}
use Rattle.pisa_isa.specs.declared.cell.Cell.{Cell}
use Rattle.pisa_isa.specs.Image.{Segments}
use Rattle.pisa_isa.specs.Machine.{stop, fetch, next}
use Rattle.pisa_isa.specs.Runs.{counted, stop_at_bound}
use Rattle.pisa_machine.specs.Position.{Position}
use Rattle.pisa_machine.proofs.Watched.{in_code, told_more, told_many, not_begun, ends_at_bound, ends_at_stop}
use Rattle.pisa_machine.proofs.Watched.{breaks_off}
use Rattle.pisa_machine.proofs.machine.Machine.run_told.Goals as goal
use Rattle.pisa_machine.proofs.Legs.{end_of}

pub loop-made-init : goal.loop-made-init
loop-made-init g c = record {
  told = not_begun _ _ _ _;
  image = refl;
  made = omega arith;
  counter = omega arith;
  within = omega arith;
}

pub loop-made-preserved : goal.loop-made-preserved
loop-made-preserved g c =
    let start = c.args.self.now in
    let before = c.tell_sure-made.new.self in
    let code = start.image.code in
    let many = c.tell_sure-made.ensures in
    let made = c.loop-made.made + c.tell_sure-made.result in
    let same_then : c.loop-made.self.image.code ≡ code = ap (λ (i : Segments). i.code) c.loop-made.invariant.image in
    let image : before.image ≡ start.image = many.image ∙ c.loop-made.invariant.image in
    let same : before.image.code ≡ code = ap (λ (i : Segments). i.code) image in
    let told = told_many code c.loop-made.self.image.code c.loop-made.made c.tell_sure-made.result start.state
    c.loop-made.self.state before.state _ _ _ _ _ c.loop-made.invariant.told same_then many.makes many.told
    many.lines in
    let made_is : before.made ≡ start.made + made = omega (arith, many.made, c.loop-made.invariant.made) in
    let counted_is : c.tell_sure-made.new.steps ≡ c.args.steps.now + made =
    omega (arith, many.counter, c.loop-made.invariant.counter) in
    let goes : stop code before.state ≡ None = ap (λ (cells : List Cell). stop cells before.state) (sym same)
    ∙ sym c.in-None.ensures.stops in
    let at = c.next_step-step.ensures.step (in_code (fetch before.image.code before.state.pc) before.state None
    (sym c.in-None.ensures.stops) refl) in
    let moved = c.in-None.ensures.stepped in
    let there : c.make_step.new.self.state ≡ next code before.state = ap (λ (p : Position). p.state) moved
    ∙ ap (λ (cells : List Cell). next cells before.state) same in
    let risen : c.make_step.new.self.made ≡ before.made + 1 = ap (λ (p : Position). p.made) moved in
    let counter : c.make_step.new.steps ≡ c.tell_sure-made.new.steps + 1 = c.in-None.ensures.counter in
    record {
      told = told_more code made start.state before.state c.make_step.new.self.state c.next_step-step.result _ _ _ _ _ _
          told goes there at c.in-Ok.ensures.told c.in-Ok.ensures.lines;
      image = ap (λ (p : Position). p.image) moved ∙ image;
      made = omega (arith, risen, made_is);
      counter = omega (arith, counter, counted_is);
      within = omega (arith, many.within, c.loop-made-test.true);
    }

pub returns-in-Err-clause-broken_off : goal.returns-in-Err-clause-broken_off
returns-in-Err-clause-broken_off g c =
    let start = c.args.self.now in
    let before = c.tell_sure-made.new.self in
    let code = start.image.code in
    let many = c.tell_sure-made.ensures in
    let made = c.loop-made.made + c.tell_sure-made.result in
    let same_then : c.loop-made.self.image.code ≡ code = ap (λ (i : Segments). i.code) c.loop-made.invariant.image in
    let image : before.image ≡ start.image = many.image ∙ c.loop-made.invariant.image in
    let same : before.image.code ≡ code = ap (λ (i : Segments). i.code) image in
    let told = told_many code c.loop-made.self.image.code c.loop-made.made c.tell_sure-made.result start.state
    c.loop-made.self.state before.state _ _ _ _ _ c.loop-made.invariant.told same_then many.makes many.told
    many.lines in
    let made_is : before.made ≡ start.made + made = omega (arith, many.made, c.loop-made.invariant.made) in
    let counted_is : c.tell_sure-made.new.steps ≡ c.args.steps.now + made =
    omega (arith, many.counter, c.loop-made.invariant.counter) in
    let less : made < c.args.bound = omega (arith, many.within, c.loop-made-test.true) in
    let at = c.next_step-step.ensures.step (in_code (fetch before.image.code before.state.pc) before.state None
    (sym c.in-None.ensures.stops) refl) in
    let risen : c.make_step.new.steps ≡ c.tell_sure-made.new.steps + 1 = c.in-None.ensures.counter in
    let counter : c.make_step.new.steps ≡ c.args.steps.now + (made + 1) = omega (arith, risen, counted_is) in
    breaks_off c.args.bound made start before c.make_step.new.self None c.args.steps.now c.make_step.new.steps
    c.next_step-step.result _ _ _ _ _ _
    told image made_is less (sym c.in-None.ensures.stops) refl c.in-None.ensures.stepped counter at
    c.in-Err.ensures.cut_short

pub returns-in-Err-tell_stop-clause-broken_off : goal.returns-in-Err-tell_stop-clause-broken_off
returns-in-Err-tell_stop-clause-broken_off g c =
    let start = c.args.self.now in
    let before = c.tell_sure-made.new.self in
    let code = start.image.code in
    let many = c.tell_sure-made.ensures in
    let made = c.loop-made.made + c.tell_sure-made.result in
    let same_then : c.loop-made.self.image.code ≡ code = ap (λ (i : Segments). i.code) c.loop-made.invariant.image in
    let image : before.image ≡ start.image = many.image ∙ c.loop-made.invariant.image in
    let same : before.image.code ≡ code = ap (λ (i : Segments). i.code) image in
    let told = told_many code c.loop-made.self.image.code c.loop-made.made c.tell_sure-made.result start.state
    c.loop-made.self.state before.state _ _ _ _ _ c.loop-made.invariant.told same_then many.makes many.told
    many.lines in
    let made_is : before.made ≡ start.made + made = omega (arith, many.made, c.loop-made.invariant.made) in
    let counted_is : c.tell_sure-made.new.steps ≡ c.args.steps.now + made =
    omega (arith, many.counter, c.loop-made.invariant.counter) in
    let less : made < c.args.bound = omega (arith, many.within, c.loop-made-test.true) in
    let counts : counted c.in-Some.stop ≡ 1 = c.in-Err-tell_stop.ensures.counts in
    let at = c.next_step-step.ensures.step (in_code (fetch before.image.code before.state.pc) before.state
    (Some c.in-Some.stop) (sym c.in-Some.ensures.stops) counts) in
    let risen : c.make_step.new.steps ≡ c.tell_sure-made.new.steps + counted c.in-Some.stop =
    c.in-Some.ensures.counter in
    let counter : c.make_step.new.steps ≡ c.args.steps.now + (made + 1) = omega (arith, risen, counts, counted_is) in
    breaks_off c.args.bound made start before c.make_step.new.self (Some c.in-Some.stop) c.args.steps.now
    c.make_step.new.steps c.next_step-step.result _ _ _ _ _ _
    told image made_is less (sym c.in-Some.ensures.stops) counts c.in-Some.ensures.stepped counter at
    c.in-Err-tell_stop.ensures.cut_short

pub returns-in-Ok-tell_stop-clause-runs : goal.returns-in-Ok-tell_stop-clause-runs
returns-in-Ok-tell_stop-clause-runs g c =
    let start = c.args.self.now in
    let before = c.tell_sure-made.new.self in
    let code = start.image.code in
    let many = c.tell_sure-made.ensures in
    let made = c.loop-made.made + c.tell_sure-made.result in
    let same_then : c.loop-made.self.image.code ≡ code = ap (λ (i : Segments). i.code) c.loop-made.invariant.image in
    let image : before.image ≡ start.image = many.image ∙ c.loop-made.invariant.image in
    let same : before.image.code ≡ code = ap (λ (i : Segments). i.code) image in
    let told = told_many code c.loop-made.self.image.code c.loop-made.made c.tell_sure-made.result start.state
    c.loop-made.self.state before.state _ _ _ _ _ c.loop-made.invariant.told same_then many.makes many.told
    many.lines in
    let less : made < c.args.bound = omega (arith, many.within, c.loop-made-test.true) in
    let is : stop code before.state ≡ Some c.in-Some.stop =
    ap (λ (cells : List Cell). stop cells before.state) (sym same) ∙ sym c.in-Some.ensures.stops in
    let ends = ends_at_stop code c.args.bound made start.state before.state c.next_step-step.result _ _ _ _ _ _
    c.in-Some.stop told less is
    (λ counts. c.next_step-step.ensures.step (in_code (fetch before.image.code before.state.pc) before.state
    (Some c.in-Some.stop) (sym c.in-Some.ensures.stops) counts))
    c.in-Ok-tell_stop.ensures.told c.in-Ok-tell_stop.ensures.lines in
    ends.runs
    ∙ ap (λ (n : ℕ). end_of c.in-Some.stop (made + n) before.state) (sym c.steps_of.ensures.value)
    ∙ ap (λ (p : Position). end_of c.in-Some.stop (made + c.steps_of.result) p.state) (sym c.in-Some.ensures.stepped)

pub returns-in-Ok-tell_stop-clause-told : goal.returns-in-Ok-tell_stop-clause-told
returns-in-Ok-tell_stop-clause-told g c =
    let start = c.args.self.now in
    let before = c.tell_sure-made.new.self in
    let code = start.image.code in
    let many = c.tell_sure-made.ensures in
    let made = c.loop-made.made + c.tell_sure-made.result in
    let same_then : c.loop-made.self.image.code ≡ code = ap (λ (i : Segments). i.code) c.loop-made.invariant.image in
    let image : before.image ≡ start.image = many.image ∙ c.loop-made.invariant.image in
    let same : before.image.code ≡ code = ap (λ (i : Segments). i.code) image in
    let told = told_many code c.loop-made.self.image.code c.loop-made.made c.tell_sure-made.result start.state
    c.loop-made.self.state before.state _ _ _ _ _ c.loop-made.invariant.told same_then many.makes many.told
    many.lines in
    let less : made < c.args.bound = omega (arith, many.within, c.loop-made-test.true) in
    let is : stop code before.state ≡ Some c.in-Some.stop =
    ap (λ (cells : List Cell). stop cells before.state) (sym same) ∙ sym c.in-Some.ensures.stops in
    let ends = ends_at_stop code c.args.bound made start.state before.state c.next_step-step.result _ _ _ _ _ _
    c.in-Some.stop told less is
    (λ counts. c.next_step-step.ensures.step (in_code (fetch before.image.code before.state.pc) before.state
    (Some c.in-Some.stop) (sym c.in-Some.ensures.stops) counts))
    c.in-Ok-tell_stop.ensures.told c.in-Ok-tell_stop.ensures.lines in
    ends.stands

pub returns-in-Ok-tell_stop-clause-lines : goal.returns-in-Ok-tell_stop-clause-lines
returns-in-Ok-tell_stop-clause-lines g c =
    let start = c.args.self.now in
    let before = c.tell_sure-made.new.self in
    let code = start.image.code in
    let many = c.tell_sure-made.ensures in
    let made = c.loop-made.made + c.tell_sure-made.result in
    let same_then : c.loop-made.self.image.code ≡ code = ap (λ (i : Segments). i.code) c.loop-made.invariant.image in
    let image : before.image ≡ start.image = many.image ∙ c.loop-made.invariant.image in
    let same : before.image.code ≡ code = ap (λ (i : Segments). i.code) image in
    let told = told_many code c.loop-made.self.image.code c.loop-made.made c.tell_sure-made.result start.state
    c.loop-made.self.state before.state _ _ _ _ _ c.loop-made.invariant.told same_then many.makes many.told
    many.lines in
    let less : made < c.args.bound = omega (arith, many.within, c.loop-made-test.true) in
    let is : stop code before.state ≡ Some c.in-Some.stop =
    ap (λ (cells : List Cell). stop cells before.state) (sym same) ∙ sym c.in-Some.ensures.stops in
    let ends = ends_at_stop code c.args.bound made start.state before.state c.next_step-step.result _ _ _ _ _ _
    c.in-Some.stop told less is
    (λ counts. c.next_step-step.ensures.step (in_code (fetch before.image.code before.state.pc) before.state
    (Some c.in-Some.stop) (sym c.in-Some.ensures.stops) counts))
    c.in-Ok-tell_stop.ensures.told c.in-Ok-tell_stop.ensures.lines in
    ends.lines

pub returns-clause-runs : goal.returns-clause-runs
returns-clause-runs g c =
    let here = c.loop-made.self in
    let code = c.args.self.now.image.code in
    let same : here.image.code ≡ code = ap (λ (i : Segments). i.code) c.loop-made.invariant.image in
    let all : c.loop-made.made ≡ c.args.bound = omega (arith, c.loop-made.invariant.within) in
    let is : c.stop_here.result ≡ stop_at_bound (fetch code here.state.pc) here.state.pc = c.stop_here.ensures
    ∙ ap (λ (cells : List Cell). stop_at_bound (fetch cells here.state.pc) here.state.pc) same in
    (ends_at_bound code c.args.bound c.loop-made.made c.args.self.now.state here.state _ _ _ _ c.stop_here.result
    c.loop-made.invariant.told all is).runs
