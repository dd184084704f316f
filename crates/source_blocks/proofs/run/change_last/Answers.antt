use Rattle.std.proofs.Common.{◌≡◌, ◌<◌, ◌∙◌, List, ◌∷◌, ◌++◌, [], ap, arith, refl, length, length-set}
use Rattle.std.proofs.lemmas.Option.{slice_get_read}
use Rattle.source_blocks.specs.declared.frames.Frame.{Frame}
use Rattle.source_blocks.proofs.Opened.{Ends, some_last, last_set, last_same}
use Rattle.source_blocks.proofs.run.change_last.Goals as goal

pub returns-clause-changed : goal.returns-clause-changed
returns-clause-changed c =
    let items : List Frame = c.args.frames.now.items in
    let within : c.args.last < length items = omega arith in
    let s : Ends items = some_last items (omega arith) in
    let read = slice_get_read items (length items) c.args.last c.index_mut.result.now refl within
    c.index_mut.ensures.value in
    let same : s.last ≡ c.index_mut.result.now =
    last_same items s.front s.last c.index_mut.result.now c.args.last s.is c.requires read in
    record {
      front = s.front;
      first = c.index_mut.result.now;
      last = c.change_frame.new.frame;
      was = s.is ∙ ap (λ (frame : Frame). s.front ++ frame ∷ []) same;
      is = last_set items s.front s.last c.change_frame.new.frame c.args.last s.is c.requires;
      turned = c.change_frame.ensures.part;
      task = c.change_frame.ensures.task;
      opens = c.change_frame.ensures.open;
    }

pub returns-clause-many : goal.returns-clause-many
returns-clause-many c = length-set c.args.frames.now.items c.args.last c.change_frame.new.frame
