use Rattle.std.proofs.Common.{◌≡◌, ◌∙◌, ap, sym, subst, map, ◌∷◌, []}
use Rattle.std.specs.Prelude.{string_bytes}
use Rattle.std.proofs.lemmas.List.{map-append}
use Rattle.command_plan.specs.rpp_ports.Ports.{IsTextOf}
use Rattle.command_plan.specs.Files.{OnlyReads, image_file}
use Rattle.command_plan.proofs.TwoReads.{then_reads}
use Rattle.cluster_commands.proofs.TextsOn.{text_on}
use Rattle.cluster_commands.proofs.planning.+read_images.Goals as goal

pub returns-clause-text : goal.returns-clause-text
returns-clause-text g n c =
    text_on c.read_images.result (g.S.Shelf.texts c.args.shelf.now) (g.S.Shelf.texts c.read_file.new.shelf)
    (string_bytes c.in-Some.name.now) (map string_bytes c.in-Some.rest.now) (map string_bytes c.args.names.now)
    c.in_ok-bytes.bytes.items
    (map (λ v. v.items) c.args.texts.now.items) (map (λ v. v.items) c.push.new.self.items)
    (map (λ v. v.items) c.read_images.new.texts.items)
    c.in_ok-bytes.ensures.reads.kept (ap (map string_bytes) c.in-Some.ensures.cases.0)
    (ap (map (λ v. v.items)) c.in_ok-push.ensures.items ∙ map-append (λ v. v.items) c.args.texts.now.items
    (c.in_ok-bytes.bytes ∷ []))
    (subst (λ name. IsTextOf (g.S.Shelf.texts c.args.shelf.now) name c.in_ok-bytes.bytes.items) c.as_str.ensures.value
    c.in_ok-bytes.ensures.text) c.in_ok-bytes.ensures.within c.read_images.ensures.text

pub returns-clause-reads : goal.returns-clause-reads
returns-clause-reads g n c =
    subst (λ names. OnlyReads (g.S.Shelf.texts c.args.shelf.now) (g.S.Shelf.texts c.read_images.new.shelf)
    (g.S.Shelf.faults c.args.shelf.now) (g.S.Shelf.faults c.read_images.new.shelf) (map image_file names)
    c.read_images.result) (sym (ap (map string_bytes) c.in-Some.ensures.cases.0))
    (subst (λ name. OnlyReads (g.S.Shelf.texts c.args.shelf.now) (g.S.Shelf.texts c.read_images.new.shelf)
    (g.S.Shelf.faults c.args.shelf.now) (g.S.Shelf.faults c.read_images.new.shelf)
    (image_file name ∷ map image_file (map string_bytes c.in-Some.rest.now)) c.read_images.result)
    c.as_str.ensures.value
    (then_reads _ _ _ _ _ _ _ _ _ _ c.in_ok-bytes.ensures.reads c.read_images.ensures.reads))
