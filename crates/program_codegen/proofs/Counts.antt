-- How many cells, marks and routines a program has, by its tokens.
use Rattle.std.proofs.Common.{◌≡◌, ap, refl, ℕ, zero, suc, ◌+◌, ◌*◌, ◌<◌, ◌≤◌, List, [], ◌∷◌, length, arith}
use Rattle.std.proofs.Common.{length-append}
use Rattle.std.specs.Prelude.{sum_by}
use Rattle.std.specs.List.{AllZip}
use Rattle.std.proofs.lemmas.List.Sums.{sum_by-cons, sum_by-append}
use Rattle.refine_program.specs.rpp_tree.Parts.{procedure_tokens, class_tokens, source_tokens}
use Rattle.refine_program.specs.rpp_tree.Tree.{Procedure, ClassText, Source}
use Rattle.refine_program.specs.class_rules.Members.{class_at}
use Rattle.refine_program.proofs.class_rules_laws.InheritedSlots.{class_there}
use Rattle.refine_program.specs.paired_code.Code.{Code, bodies, marks_size}
use Rattle.refine_program.specs.paired_code.Link.{routines_size}
use Rattle.refine_program.specs.Methods.{RoutineEntry, entries_of, entries_from, entries, methods_before}
use Rattle.program_codegen.specs.Routines.{IsRoutine}
use Rattle.program_codegen.proofs.Tables.{firsts_next}

abbrev pub entry_tokens : RoutineEntry → ℕ
entry_tokens entry = procedure_tokens entry.method

-- ---- the methods and their tokens

of_class : (class : ℕ) (methods : List Procedure) → sum_by entry_tokens (entries_of class methods)
    ≡ sum_by procedure_tokens methods
of_class class [] = refl
of_class class (m ∷ methods) =
    omega (
      arith,
      sum_by-cons entry_tokens (record { class = class; method = m }) (entries_of class methods),
      sum_by-cons procedure_tokens m methods,
      of_class class methods,
    )

of_classes : (number : ℕ) (classes : List ClassText) → sum_by entry_tokens (entries_from number classes) ≤ sum_by
    class_tokens classes
of_classes number [] = omega arith
of_classes number (c ∷ classes) =
    omega (
      arith,
      sum_by-append entry_tokens (entries_of number c.methods) (entries_from (number + 1) classes),
      of_class number c.methods,
      sum_by-cons class_tokens c classes,
      of_classes (number + 1) classes,
    )

pub tokens_within : (program : Source) → sum_by entry_tokens (entries program) ≤ source_tokens program
tokens_within program = of_classes 0 program.classes

few : (es : List RoutineEntry) → length es ≤ sum_by entry_tokens es
few [] = omega arith
few (e ∷ es) = omega (arith, sum_by-cons entry_tokens e es, few es)

-- at most as many methods as tokens
pub entries_few : (program : Source) → length (entries program) ≤ source_tokens program
entries_few program = omega (arith, few (entries program), tokens_within program)

many_of : (class : ℕ) (methods : List Procedure) → length (entries_of class methods) ≡ length methods
many_of class [] = refl
many_of class (m ∷ methods) = ap suc (many_of class methods)

before_few : (number : ℕ) (classes : List ClassText) (class : ℕ)
    → methods_before classes class ≤ length (entries_from number classes)
before_few number [] class = omega arith
before_few number (c ∷ classes) zero = omega arith
before_few number (c ∷ classes) (suc class) =
    omega (
      arith,
      length-append (entries_of number c.methods) (entries_from (number + 1) classes),
      many_of number c.methods,
      before_few (number + 1) classes class,
    )

pub methods_few : (program : Source) (class : ℕ) → methods_before program.classes class ≤ source_tokens program
methods_few program class = omega (arith, before_few 0 program.classes class, entries_few program)

-- the methods of a class are few
pub class_few : (program : Source) (class : ℕ) → class < length program.classes
    → length (class_at program class).methods ≤ source_tokens program
class_few program class inside =
    omega (
      arith,
      firsts_next program.classes class (class_at program class) (class_there program.classes class inside),
      methods_few program (class + 1),
    )

-- ---- the fragments of their routines

module _ (program : Source) where
  pub cells_few : (es : List RoutineEntry) (ps : List Code) → AllZip (IsRoutine program) es ps
      → routines_size (bodies ps) ≤ 200 * sum_by entry_tokens es
  cells_few [] [] h = omega arith
  cells_few [] (p ∷ ps) h = absurd h
  cells_few (e ∷ es) [] h = absurd h
  cells_few (e ∷ es) (p ∷ ps) h =
      let size = h.0.size in
      let more = cells_few es ps h.1 in
      omega (arith, sum_by-cons entry_tokens e es)

  pub marks_few : (es : List RoutineEntry) (ps : List Code) → AllZip (IsRoutine program) es ps
      → marks_size ps ≤ sum_by entry_tokens es
  marks_few [] [] h = omega arith
  marks_few [] (p ∷ ps) h = absurd h
  marks_few (e ∷ es) [] h = absurd h
  marks_few (e ∷ es) (p ∷ ps) h =
      let one = h.0.few in
      let more = marks_few es ps h.1 in
      omega (arith, sum_by-cons entry_tokens e es)
