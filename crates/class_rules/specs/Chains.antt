-- Classes by number, and the chain of parents.
use Rattle.std.specs.Prelude.{ℕ, zero, suc, not, is_some, List, [], ◌∷◌, ◌++◌, map, length, Option}
use Rattle.std.specs.Prelude.{Some, None, slice_get, position}
use Rattle.std.specs.Str.{bytes_eq}
use Rattle.rpp_tree.specs.declared.tree.Ident.{Ident}
use Rattle.rpp_tree.specs.Tree.{ClassText, Source}
use Rattle.class_rules.specs.Refusal.{Refusal, refused}
use Rattle.class_rules.specs.First.{refused_if, first_at, each_below}
use Rattle.std.specs.Option.{unwrap_or}
use Rattle.class_rules.specs.Rules.{all_class_names}

-- the number of the class of this name
abbrev pub class_named : List (List ℕ) → List ℕ → Option ℕ
class_named names name = position (bytes_eq name) names

abbrev pub parent_named : List (List ℕ) → Option Ident → Option ℕ
parent_named names None = None
parent_named names (Some name) = class_named names name.text

-- the parent of each class
abbrev pub parents : Source → List (Option ℕ)
parents program = map (λ class. parent_named (all_class_names program) class.parent) program.classes

abbrev pub with_last : ℕ → Option (List ℕ) → Option (List ℕ)
with_last class None = None
with_last class (Some above) = Some (above ++ class ∷ [])

-- the ancestors of a class and the class last, if the chain ends within so many steps
abbrev pub chain : ℕ → List (Option ℕ) → Option ℕ → Option (List ℕ)
chain steps parents None = Some []
chain zero parents (Some class) = None
chain (suc steps) parents (Some class) =
    with_last class (chain steps parents (unwrap_or (slice_get parents class) None))

-- a class whose chain of parents ends has at most as many classes on it as the program has
abbrev pub chain_of : Source → ℕ → Option (List ℕ)
chain_of program class = chain (length program.classes) (parents program) (Some class)

-- 7: the chain of parents from this class does not end
abbrev pub endless_chain : Source → ℕ → ClassText → Option Refusal
endless_chain program number class =
    refused_if (not (is_some (chain_of program number))) (refused 7 class.name.at)

abbrev pub inheritance_cycle : Source → Option Refusal
inheritance_cycle program = first_at (endless_chain program) 0 program.classes

-- the ancestors of a class and the class last, if there is no cycle
abbrev pub class_line : Source → ℕ → List ℕ
class_line program class = unwrap_or (chain_of program class) []

abbrev pub lines : Source → List (List ℕ)
lines program = each_below (class_line program) (length program.classes)
