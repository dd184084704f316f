use Rattle.std.proofs.Common.{map, length-append, refl, arith}
use Rattle.std.proofs.lemmas.List.{length-map}
use Rattle.source_blocks.proofs.Scoped.{gone_state, gone_sound, first_gone}
use Rattle.source_statements.proofs.ends.close_variable.Goals as goal

pub remove-requires-2 : goal.remove-requires-2
remove-requires-2 c =
    let each = c.requires.sound.each in
    let both = length-append (map (λ own. own.now) c.args.run.now.locals.items)
    (map (λ var. var.name.text) c.args.run.now.params.now) in
    let some = length-map c.args.run.now.locals.items (λ own. own.now) in
    let local = c.requires.local in
    omega arith

pub returns-clause-closed : goal.returns-clause-closed
returns-clause-closed c =
    gone_state c.args.run.now
    (record c.args.run.now { locals = c.remove.new.self; values = c.remove-2.new.self }) refl c.remove.result
    c.remove-2.result
    (first_gone c.args.run.now.locals.items c.remove.new.self.items c.remove.result c.requires.local
    c.remove.ensures.value c.remove.ensures.items)
    (first_gone c.args.run.now.values.items c.remove-2.new.self.items c.remove-2.result
    (let each = c.requires.sound.each in
    let both = length-append (map (λ own. own.now) c.args.run.now.locals.items)
    (map (λ var. var.name.text) c.args.run.now.params.now) in
    let some = length-map c.args.run.now.locals.items (λ own. own.now) in
    let local = c.requires.local in
    omega arith)
    c.remove-2.ensures.value c.remove-2.ensures.items)

pub returns-clause-sound : goal.returns-clause-sound
returns-clause-sound c =
    gone_sound c.args.run.now
    (record c.args.run.now { locals = c.remove.new.self; values = c.remove-2.new.self }) refl c.remove.result
    c.remove-2.result
    (first_gone c.args.run.now.locals.items c.remove.new.self.items c.remove.result c.requires.local
    c.remove.ensures.value c.remove.ensures.items)
    (first_gone c.args.run.now.values.items c.remove-2.new.self.items c.remove-2.result
    (let each = c.requires.sound.each in
    let both = length-append (map (λ own. own.now) c.args.run.now.locals.items)
    (map (λ var. var.name.text) c.args.run.now.params.now) in
    let some = length-map c.args.run.now.locals.items (λ own. own.now) in
    let local = c.requires.local in
    omega arith)
    c.remove-2.ensures.value c.remove-2.ensures.items) refl c.requires.sound
