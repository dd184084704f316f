-- An error as the number and the place of its refusal.
use Rattle.std.specs.Prelude.{Result, Ok, Err}
use Rattle.reversible_types.specs.declared.error.TypeError.{TypeError}
use Rattle.reversible_types.specs.declared.error.TypeError.TheVariants as error
use Rattle.class_table.specs.class_rules.Refusal as refusal
use Rattle.class_table.specs.class_rules.Refusal.{Refusal}

abbrev pub refusal_of : TypeError → Refusal
refusal_of (error.UnknownName at) = refusal.unknown_name at
refusal_of (error.Redeclared at) = refusal.redeclared at
refusal_of (error.TypeDiffers at) = refusal.type_differs at
refusal_of (error.SelfUpdate at) = refusal.self_update at
refusal_of (error.SameArgument at) = refusal.same_argument at
refusal_of (error.FieldArgument at) = refusal.field_argument at
refusal_of (error.WrongArity at) = refusal.wrong_arity at
refusal_of (error.NotAnArray at) = refusal.not_an_array at
refusal_of (error.RefusedOperator at) = refusal.refused_operator at
refusal_of (error.LocalInOwnExpression at) = refusal.local_in_own_expression at
refusal_of (error.NotClassType at) = refusal.not_class_type at
refusal_of error.NoMemory = record { number = 0; at = 0 }

-- what a rule returned, with its refusal as number and place
abbrev pub verdict_of : {A : Type 0} → Result A TypeError → Result A Refusal
verdict_of (Ok value) = Ok value
verdict_of (Err error) = Err (refusal_of error)
