-- Where the first commands of a script lead, and what they cost.
use Rattle.std.proofs.Common.{◌≡◌, ◌∙◌, sym, ap, refl, ℕ, ◌+◌, ◌<◌, List, [], ◌∷◌, ◌++◌, length, get_or, take}
use Rattle.std.proofs.Common.{add_assoc, arith}
use Rattle.std.proofs.lemmas.List.{take_more}
use Rattle.pisa_machine.specs.Position.{Position}
use Rattle.pisa_scripts.specs.declared.command.Command.{Command}
use Rattle.two_way_debugger.specs.Shown.{walk_of, position_after, spent_in}

position-snoc : (xs : List Command) (x : Command) (p : Position)
    → position_after (xs ++ x ∷ []) p ≡ (walk_of x (position_after xs p)).position
position-snoc [] x p = refl
position-snoc (y ∷ ys) x p = position-snoc ys x (walk_of y p).position

spent-snoc : (xs : List Command) (x : Command) (p : Position)
    → spent_in (xs ++ x ∷ []) p ≡ spent_in xs p + (walk_of x (position_after xs p)).spent
spent-snoc [] x p = omega arith
spent-snoc (y ∷ ys) x p =
    ap (λ n. (walk_of y p).spent + n) (spent-snoc ys x (walk_of y p).position)
    ∙ sym (add_assoc (walk_of y p).spent (spent_in ys (walk_of y p).position)
    (walk_of x (position_after ys (walk_of y p).position)).spent)

-- one command more
pub one_more : (xs : List Command) (i : ℕ) (d : Command) (first at to : Position) → i < length xs
    → at ≡ position_after (take i xs) first → to ≡ (walk_of (get_or xs i d) at).position
    → to ≡ position_after (take (i + 1) xs) first
one_more xs i d first at to h stands leads =
    leads ∙ ap (λ p. (walk_of (get_or xs i d) p).position) stands
    ∙ sym (position-snoc (take i xs) (get_or xs i d) first)
    ∙ ap (λ ys. position_after ys first) (sym (take_more xs i d h))

pub one_more_spent : (xs : List Command) (i : ℕ) (d : Command) (first at : Position) (before now after : ℕ)
    → i < length xs → at ≡ position_after (take i xs) first → now ≡ before + spent_in (take i xs) first
    → after ≡ now + (walk_of (get_or xs i d) at).spent → after ≡ before + spent_in (take (i + 1) xs) first
one_more_spent xs i d first at before now after h stands so_far costs =
    let x = get_or xs i d in
    costs ∙ ap (λ p. now + (walk_of x p).spent) stands
    ∙ ap (λ n. n + (walk_of x (position_after (take i xs) first)).spent) so_far
    ∙ add_assoc before (spent_in (take i xs) first) (walk_of x (position_after (take i xs) first)).spent
    ∙ ap (λ n. before + n) (sym (spent-snoc (take i xs) x first)
    ∙ ap (λ ys. spent_in ys first) (sym (take_more xs i d h)))
