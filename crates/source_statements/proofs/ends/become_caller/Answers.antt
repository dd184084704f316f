use Rattle.std.proofs.Common.{sym, ap, ◌∙◌, arith}
use Rattle.source_blocks.specs.source_steps.declared.expressions.Setting.{Setting as Here}
use Rattle.source_blocks.specs.source_steps.StateView.{setting_of}
use Rattle.source_blocks.specs.Opens.{caller_of}
use Rattle.source_blocks.proofs.Blocks.{task_small}
use Rattle.source_statements.proofs.ends.become_caller.Goals as goal

pub overflow_add-run : goal.overflow_add-run
overflow_add-run c = let n = task_small c.args.task in let h = c.requires.within in omega arith

pub returns-clause-state : goal.returns-clause-state
returns-clause-state c =
    ap (λ (h : Here). record {
      frame = (caller_of c.args.caller).frame;
      self = h.object;
      depth = h.depth;
      store = c.args.run.now.heap.store;
      log = c.args.run.now.heap.log;
    }) c.caller_setting-run.ensures

pub returns-clause-setting : goal.returns-clause-setting
returns-clause-setting c = ap setting_of c.caller_setting-run.ensures

pub returns-clause-sound : goal.returns-clause-sound
returns-clause-sound c = record {
  each = c.requires.each;
  order = c.requires.sound.order ∙ sym (ap (λ (h : Here). h.limits.heap) c.caller_setting-run.ensures);
  marked = c.requires.marked;
  opens = c.requires.sound.opens;
  within = (let h = c.requires.within in omega arith);
}
