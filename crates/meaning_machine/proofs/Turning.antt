-- What is reversed twice is as it was.
use Rattle.std.proofs.Common.{◌≡◌, refl, ap, ◌∙◌, true, List, [], ◌∷◌, map}
use Rattle.meaning_points.specs.rpp_tree.Tree.{Statements, End, Then}
use Rattle.meaning_points.specs.inverse_rules.Inverse.{inverse}
use Rattle.meaning_points.proofs.inverse_rules_laws.Inverses.{inverse_statement-twice, inverse-twice}
use Rattle.meaning_machine.specs.Machine.{Open, OpenPart, Chosen, First, Again, Holding, Calling}
use Rattle.meaning_machine.specs.Turned.{each_undone, turned_part, turned_open, turn}
use Rattle.meaning_machine.specs.Placed.{TurnsTwice}

each_twice : (b : Statements) → each_undone (each_undone b) ≡ b
each_twice End = refl
each_twice (Then s b) =
    ap (λ t. Then t (each_undone (each_undone b))) (inverse_statement-twice true s) ∙ ap (Then s) (each_twice b)

part_twice : (p : OpenPart) → turned_part (turned_part p) ≡ p
part_twice (Chosen side test after) = refl
part_twice (First entry first again exit) =
    ap (λ b. First entry b (inverse (inverse again)) exit) (inverse-twice true first)
    ∙ ap (λ b. First entry first b exit) (inverse-twice true again)
part_twice (Again entry first again exit) =
    ap (λ b. Again entry b (inverse (inverse again)) exit) (inverse-twice true first)
    ∙ ap (λ b. Again entry first b exit) (inverse-twice true again)
part_twice (Holding name value end_value) = refl
part_twice (Calling caller receiver args held) = refl

open_twice : (o : Open) → turned_open (turned_open o) ≡ o
open_twice o =
    let twice = turned_open (turned_open o) in
    ap (λ b. record twice { past = b }) (each_twice o.past)
    ∙ ap (λ s. record twice { past = o.past; here = s }) (inverse_statement-twice true o.here)
    ∙ ap (λ b. record o { part = twice.part; rest = b }) (each_twice o.rest)
    ∙ ap (λ p. record o { part = p }) (part_twice o.part)

around_twice : (around : List Open) → map turned_open (map turned_open around) ≡ around
around_twice [] = refl
around_twice (o ∷ around) =
    ap (λ p. p ∷ map turned_open (map turned_open around)) (open_twice o) ∙ ap (λ l. o ∷ l) (around_twice around)

pub turned_twice : TurnsTwice
turned_twice x =
    let twice = turn (turn x) in
    ap (λ b. record twice { past = b }) (each_twice x.past)
    ∙ ap (λ b. record x { around = twice.around; rest = b }) (each_twice x.rest)
    ∙ ap (λ l. record x { around = l }) (around_twice x.around)
