use Rattle.std.proofs.Common.{◌∙◌, ap, refl, [], ◌∷◌, ◌++◌}
use Rattle.source_blocks.specs.declared.frames.Part.{Part}
use Rattle.source_statements.proofs.Returned.{call_room, returned_fails, returned_goes, returned_stays}
use Rattle.source_statements.proofs.ends.end_call.Goals as goal

pub give_back-requires : goal.give_back-requires
give_back-requires c = record {
  room = call_room c.args.run.now c.requires.sound c.pop.new.self.items c.in-Some.field-0.task c.in-Some.field-0.at
      c.in-Calling.caller
      (c.in-Some.ensures.items ∙ ap (λ (p : Part). c.pop.new.self.items ++ record {
        task = c.in-Some.field-0.task;
        at = c.in-Some.field-0.at;
        part = p;
      } ∷ []) c.in-Calling.is)
      c.caller_setting-setting.result c.caller_setting-setting.ensures;
}

pub returns-in-Ok-clause-gives : goal.returns-in-Ok-clause-gives
returns-in-Ok-clause-gives c =
    returned_goes c.args.run.now c.requires.sound c.pop.new.self.items c.in-Some.field-0.task c.in-Some.field-0.at
    c.in-Calling.caller
    (c.in-Some.ensures.items ∙ ap (λ (p : Part). c.pop.new.self.items ++ record {
      task = c.in-Some.field-0.task;
      at = c.in-Some.field-0.at;
      part = p;
    } ∷ []) c.in-Calling.is)
    c.caller_setting-setting.result c.caller_setting-setting.ensures c.deref.result.now c.deref.ensures.value
    c.args.fuel.now c.give_back.new.caller c.give_back.new.heap c.become_caller.new.run c.in-Ok.ensures.same
    c.give_back.new.fuel _ refl c.become_caller.ensures.state c.become_caller.ensures.place c.in-Ok.ensures.gives

pub returns-in-Err-clause-gives : goal.returns-in-Err-clause-gives
returns-in-Err-clause-gives c =
    returned_fails c.args.run.now c.requires.sound c.pop.new.self.items c.in-Some.field-0.task c.in-Some.field-0.at
    c.in-Calling.caller
    (c.in-Some.ensures.items ∙ ap (λ (p : Part). c.pop.new.self.items ++ record {
      task = c.in-Some.field-0.task;
      at = c.in-Some.field-0.at;
      part = p;
    } ∷ []) c.in-Calling.is)
    c.caller_setting-setting.result c.caller_setting-setting.ensures c.deref.result.now c.deref.ensures.value
    c.args.fuel.now c.give_back.new.fuel c.in-Err.why c.in-Err.ensures.gives

pub returns-in-Err-clause-stays : goal.returns-in-Err-clause-stays
returns-in-Err-clause-stays c = λ fault.
    returned_stays c.args.run.now c.requires.sound c.pop.new.self.items c.in-Some.field-0.task c.in-Some.field-0.at
    c.in-Calling.caller
    (c.in-Some.ensures.items ∙ ap (λ (p : Part). c.pop.new.self.items ++ record {
      task = c.in-Some.field-0.task;
      at = c.in-Some.field-0.at;
      part = p;
    } ∷ []) c.in-Calling.is)
    c.caller_setting-setting.result c.caller_setting-setting.ensures c.give_back.new.caller c.give_back.new.heap
    (record c.args.run.now { heap = c.give_back.new.heap; frames = c.push_reserved.new.self })
    c.give_back.ensures.same c.give_back.ensures.room c.in-Err.ensures.stays refl c.push_reserved.ensures.items
