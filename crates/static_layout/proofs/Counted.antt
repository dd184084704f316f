-- What the class table counts, and how far the tables reach.
use Rattle.std.proofs.Common.{◌≡◌, ◌∙◌, refl, sym, ap, ℕ, ◌+◌, ◌*◌, ◌<◌, ◌≤◌, Bool, true, false, None, length, arith}
use Rattle.std.proofs.Common.{add-one, nat_lt}
use Rattle.std.proofs.lemmas.Bool.{ltb-false}
use Rattle.std.proofs.lemmas.List.{length-map}
use Rattle.roopl_semantics.specs.rpp_tree.declared.limits.TheConstants.{MOST_FIELDS, MOST_METHODS}
use Rattle.roopl_semantics.specs.rpp_tree.Tree.{Source}
use Rattle.roopl_semantics.specs.class_rules.Refusal.{refused}
use Rattle.roopl_semantics.specs.class_rules.First.{refused_if}
use Rattle.roopl_semantics.specs.class_rules.Rules.{class_name}
use Rattle.roopl_semantics.specs.class_rules.Members.{Slots, class_at, too_many_fields_at, too_many_slots_at}
use Rattle.roopl_semantics.specs.class_rules.Classes.{class_fields, class_slots}
use Rattle.roopl_semantics.specs.class_rules.Table.{table_of, slots_in}
use Rattle.roopl_semantics.specs.class_rules.Program.{IsAccepted}
use Rattle.roopl_semantics.proofs.class_rules_laws.FreshFields.{passed_at}
use Rattle.roopl_semantics.proofs.class_rules_laws.Tables.{table_reads}
use Rattle.roopl_semantics.specs.code_conventions.declared.memory.TheConstants.{FIRST_FIELD, TABLE_HEADER}
use Rattle.roopl_semantics.specs.Layout.{table_at}
use Rattle.roopl_semantics.proofs.MainPlace.{table_rules}

-- the classes before this one have no more words of fields and tables
abbrev pub farthest : ℕ → ℕ
farthest class = FIRST_FIELD + MOST_FIELDS + (TABLE_HEADER + MOST_METHODS) * class

-- the class table names each class
pub many_classes : (program : Source) → length (table_of program).names ≡ length program.classes
many_classes program = length-map program.classes class_name

-- what is no more than a limit is not refused for it
not_refused : {E : Type 0} (most n : ℕ) (error : E) → refused_if (nat_lt most n) error ≡ None → n ≤ most
not_refused most n error h = by (nat_lt most n) refl h
  where
    by : (b : Bool) → nat_lt most n ≡ b → refused_if b error ≡ None → n ≤ most
    by true e h = absurd (cc)
    by false e h = ltb-false most n e

-- a class of an accepted program has no more fields, and no more method slots
pub fields_few : (program : Source) → IsAccepted program → (class : ℕ) → class < length program.classes
    → length (class_fields program class) ≤ MOST_FIELDS
fields_few program accepted class inside =
    let own = class_at program class in
    let here : 0 + class ≡ class = omega arith in
    not_refused MOST_FIELDS (length (class_fields program class)) (refused 4 own.name.at)
    (ap (λ i. too_many_fields_at program i own) (sym here)
    ∙ passed_at (too_many_fields_at program) 0 class program.classes
    (table_rules program accepted.classes).fields_few inside)

pub slots_few : (program : Source) → IsAccepted program → (class : ℕ) → class < length program.classes
    → length (class_slots program class) ≤ MOST_METHODS
slots_few program accepted class inside =
    let own = class_at program class in
    let here : 0 + class ≡ class = omega arith in
    not_refused MOST_METHODS (length (class_slots program class)) (refused 4 own.name.at)
    (ap (λ i. too_many_slots_at program i own) (sym here)
    ∙ passed_at (too_many_slots_at program) 0 class program.classes
    (table_rules program accepted.classes).slots_few inside)

-- the address of the next table
pub table_next : (program : Source) (class : ℕ) → class < length program.classes
    → table_at program (class + 1)
    ≡ table_at program class + TABLE_HEADER + length (slots_in (table_of program) class)
table_next program class inside =
    let grouped : table_at program class + (TABLE_HEADER + length (slots_in (table_of program) class))
    ≡ table_at program class + TABLE_HEADER + length (slots_in (table_of program) class) = omega arith in
    ap (table_at program) (add-one class)
    ∙ ap (λ (s : Slots). table_at program class + (TABLE_HEADER + length s))
    (sym (table_reads program class inside).slots)
    ∙ grouped
