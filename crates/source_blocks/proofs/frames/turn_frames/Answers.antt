use Rattle.std.proofs.Common.{◌∙◌, sym, ap, subst, arith, List, All, map}
use Rattle.std.proofs.lemmas.List.Elements.{All-set}
use Rattle.std.proofs.lemmas.List.{length-map, length-set}
use Rattle.source_blocks.specs.declared.frames.Frame.{Frame}
use Rattle.source_blocks.specs.Opens.{IsOpen, open_of}
use Rattle.source_blocks.proofs.Around.{turned_next, turned_all, written_whole}
use Rattle.source_blocks.proofs.frames.turn_frames.Goals as goal

pub turn_frame-requires : goal.turn_frame-requires
turn_frame-requires c = c.loop-frame.invariant.opens c.loop-frame.frame-index c.frame-item.result (omega arith)

pub loop-frame-preserved : goal.loop-frame-preserved
loop-frame-preserved c = record {
  turned = turned_next c.loop-frame.frame-index c.loop-frame.frame-items (map open_of c.args.frames.now.items)
      c.turn_frame.new.frame c.frame-item.result (omega arith) c.loop-frame.invariant.turned
      c.turn_frame.ensures.turned;
  as_many = length-set c.loop-frame.frame-items c.loop-frame.frame-index c.turn_frame.new.frame
      ∙ c.loop-frame.invariant.as_many;
  opens = All-set IsOpen c.loop-frame.frame-items c.loop-frame.frame-index c.turn_frame.new.frame
      c.turn_frame.ensures.open c.loop-frame.invariant.opens;
}

pub returns-clause-turned : goal.returns-clause-turned
returns-clause-turned c =
    ap (map open_of) (sym (written_whole c.loop-frame.frame-items c.args.frames.now.items c.args.frames.now.len
    c.loop-frame.invariant.as_many c.args.frames.now.ok.0))
    ∙ c.loop-frame.invariant.turned
    ∙ turned_all (map open_of c.args.frames.now.items) c.loop-frame.frame-index
    (let n = length-map c.args.frames.now.items open_of in omega arith)

pub returns-clause-open : goal.returns-clause-open
returns-clause-open c =
    subst (λ (fs : List Frame). All IsOpen fs)
    (written_whole c.loop-frame.frame-items c.args.frames.now.items c.args.frames.now.len
    c.loop-frame.invariant.as_many c.args.frames.now.ok.0)
    c.loop-frame.invariant.opens
