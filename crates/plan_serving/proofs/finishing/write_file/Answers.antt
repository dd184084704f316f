use Rattle.std.proofs.Common.{◌∙◌, ℕ, List, ap, subst, refl, inl, inr, Ok, Err}
use Rattle.std.specs.Prelude.{IsTrue}
use Rattle.command_plan.specs.rpp_ports.Ports.{Rose, LeavesAfter, WriteCause}
use Rattle.command_plan.specs.rpp_ports.declared.shelf.ShelfFault.{ShelfFault}
use Rattle.command_plan.specs.rpp_ports.declared.shelf.ShelfFault.TheVariants.{Failed}
use Rattle.plan_serving.specs.Left.{Tries}
use Rattle.plan_serving.specs.Finishes.{unwritten}
use Rattle.command_plan.specs.Plans.{written_file}
use Rattle.plan_serving.specs.Outside.{Shelved, Printed, HasWritten, HasPut}
use Rattle.plan_serving.proofs.Finished.{write_noted}
use Rattle.plan_serving.proofs.finishing.write_file.Goals as goal

pub returns-in-Err-Failed-clause-broken : goal.returns-in-Err-Failed-clause-broken
returns-in-Err-Failed-clause-broken g c =
    let is = c.in-Err-Failed.field-0-is in
    let rose = subst (WriteCause (Rose (g.S.Shelf.faults c.args.shelf.now) (g.S.Shelf.faults c.write.new.self))) is
    c.in-Err-Failed.ensures.cause in
    let at = subst (λ (fault : ShelfFault). LeavesAfter (g.S.Shelf.texts c.args.shelf.now)
    (g.S.Shelf.texts c.write.new.self) c.as_str-2.result.now fault) is c.in-Err-Failed.ensures.left in
    let left = subst (λ (name : List ℕ). LeavesAfter (g.S.Shelf.texts c.args.shelf.now)
    (g.S.Shelf.texts c.write.new.self) name Failed) c.as_str-2.ensures.value at in
    let tries =
    subst
    (λ (line : List ℕ).
    Tries (Rose (g.K.Sink.faults c.args.out.now) (g.K.Sink.faults c.try_to_say.new.out))
    (IsTrue (g.K.Sink.needs_memory c.args.out.now))
    (g.K.Sink.written c.args.out.now) (g.K.Sink.written c.try_to_say.new.out) line)
    (c.as_str-in-Err-Failed.ensures.value ∙ c.in-Ok.ensures ∙ ap unwritten c.as_str.ensures.value)
    c.try_to_say.ensures.tries in
    (rose, (left, tries))

pub returns-in-Err-clause-fails : goal.returns-in-Err-clause-fails
returns-in-Err-clause-fails g c = inr (record { tried = inl refl; silent = refl; status_is = refl })

pub returns-in-Ok-write-clause-wrote : goal.returns-in-Ok-write-clause-wrote
returns-in-Ok-write-clause-wrote g c =
    write_noted c.args.writing.now _ _ (Ok tt) _ _ c.as_str-2.ensures.value c.deref.ensures.value
    c.in-Ok-write.ensures.noted c.in-Ok-write.ensures.written

pub returns-in-Err-NoMemory-clause-fails : goal.returns-in-Err-NoMemory-clause-fails
returns-in-Err-NoMemory-clause-fails g c =
    let old : Shelved = record { texts = g.S.Shelf.texts c.args.shelf.now; calls = g.S.Shelf.events c.args.shelf.now }
    in
    let new : Shelved = record { texts = g.S.Shelf.texts c.write.new.self; calls = g.S.Shelf.events c.write.new.self }
    in
    inr (record {
      tried = inr (subst (λ (fault : ShelfFault). HasWritten (written_file c.args.writing.now) (Err fault) old new)
          c.in-Err-NoMemory.field-0-is
          (write_noted c.args.writing.now _ _ (Err c.in-Err-NoMemory.field-0) old new c.as_str-2.ensures.value
          c.deref.ensures.value c.in-Err-NoMemory.ensures.noted c.in-Err-NoMemory.ensures.left));
      silent = refl;
      status_is = refl;
    })

pub returns-in-Err-Failed-clause-fails : goal.returns-in-Err-Failed-clause-fails
returns-in-Err-Failed-clause-fails g c =
    let old : Shelved = record { texts = g.S.Shelf.texts c.args.shelf.now; calls = g.S.Shelf.events c.args.shelf.now }
    in
    let new : Shelved = record { texts = g.S.Shelf.texts c.write.new.self; calls = g.S.Shelf.events c.write.new.self }
    in
    let out : Printed = record { bytes = g.K.Sink.written c.args.out.now; puts = g.K.Sink.puts c.args.out.now } in
    let left : Printed = record {
      bytes = g.K.Sink.written c.try_to_say.new.out;
      puts = g.K.Sink.puts c.try_to_say.new.out;
    }
    in
    inl (record {
      tried = subst (λ (fault : ShelfFault). HasWritten (written_file c.args.writing.now) (Err fault) old new)
          c.in-Err-Failed.field-0-is
          (write_noted c.args.writing.now _ _ (Err c.in-Err-Failed.field-0) old new c.as_str-2.ensures.value
          c.deref.ensures.value c.in-Err-Failed.ensures.noted c.in-Err-Failed.ensures.left);
      answer = c.try_to_say.ensures.put.0;
      put = subst (λ (line : List ℕ). HasPut line c.try_to_say.ensures.put.0 out left)
          (c.as_str-in-Err-Failed.ensures.value ∙ c.in-Ok.ensures ∙ ap unwritten c.as_str.ensures.value)
          c.try_to_say.ensures.put.1;
      status_is = refl;
    })
