-- The refusals of a source, with their numbers, names and places.
use Rattle.std.specs.Prelude.{ℕ, ◌==◌, List, ◌++◌, codes, if◌then◌else◌}
use Rattle.std.specs.Fmt.{decimal}
use Rattle.class_table.specs.class_rules.Refusal.{Refusal}
use Rattle.pisa_scripts.specs.rpp_words.Texts.{line_end}

-- the name of a refusal of a source
abbrev pub refusal_name : ℕ → List ℕ
refusal_name number =
    if number == 1 then codes "BadByte"
    else if number == 2 then codes "NumberTooLarge"
    else if number == 3 then codes "Syntax"
    else if number == 4 then codes "Limit"
    else if number == 5 then codes "DuplicateClass"
    else if number == 6 then codes "UnknownClass"
    else if number == 7 then codes "InheritanceCycle"
    else if number == 8 then codes "DuplicateField"
    else if number == 9 then codes "DuplicateMethod"
    else if number == 10 then codes "OverrideDiffers"
    else if number == 11 then codes "NoMain"
    else if number == 12 then codes "TwoMains"
    else if number == 13 then codes "UnknownName"
    else if number == 14 then codes "Redeclared"
    else if number == 15 then codes "TypeDiffers"
    else if number == 16 then codes "SelfUpdate"
    else if number == 17 then codes "SameArgument"
    else if number == 18 then codes "FieldArgument"
    else if number == 19 then codes "WrongArity"
    else if number == 20 then codes "NotAnArray"
    else if number == 21 then codes "RefusedOperator"
    else if number == 22 then codes "LocalInOwnExpression"
    else if number == 23 then codes "NotClassType"
    else codes ""

-- refused N NAME at P
abbrev pub refused_line : Refusal → List ℕ
refused_line r =
    codes "refused " ++ (decimal r.number
    ++ (codes " " ++ (refusal_name r.number ++ (codes " at " ++ (decimal r.at ++ line_end)))))
