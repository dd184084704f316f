-- Each slot of a class leads to a method of the program, which has a routine.
use Rattle.std.proofs.Common.{◌≡◌, ◌∙◌, sym, ap, subst, refl, ℕ, ◌+◌, ◌^◌, ◌<◌, ◌≤◌, List, [], ◌∷◌, ◌++◌, length}
use Rattle.std.proofs.Common.{Some, arith, slice_get}
use Rattle.std.specs.Prelude.{slice_index}
use Rattle.std.specs.Option.{unwrap_or}
use Rattle.refine_program.specs.rpp_tree.Parts.{source_tokens}
use Rattle.refine_program.specs.rpp_tree.Tree.{Procedure, Source}
use Rattle.refine_program.specs.class_rules.declared.method.MethodId.{MethodId}
use Rattle.refine_program.specs.class_rules.Chains.{parents}
use Rattle.refine_program.specs.class_rules.Classes.{class_slots, main_of}
use Rattle.refine_program.specs.class_rules.First.{each_below}
use Rattle.refine_program.specs.class_rules.Mains.{mains}
use Rattle.refine_program.specs.class_rules.Members.{Slots, class_at, no_class, slots_along}
use Rattle.refine_program.specs.class_rules.Overrides.{run_at}
use Rattle.refine_program.specs.class_rules.Program.{IsAccepted}
use Rattle.refine_program.specs.class_rules.Table.{Table, table_of, slots_in, dispatch_in}
use Rattle.refine_program.proofs.class_rules_laws.ChainEnds.{parents_in}
use Rattle.refine_program.proofs.class_rules_laws.ClassLines.{in_range}
use Rattle.refine_program.proofs.class_rules_laws.FoundMethods.{has_line}
use Rattle.refine_program.proofs.class_rules_laws.InheritedSlots.{there_at, run_is, AreEntries, entries_along}
use Rattle.refine_program.proofs.class_rules_laws.Numbers.{length-each_below}
use Rattle.refine_program.proofs.class_rules_laws.Tables.{table_reads}
use Rattle.refine_program.proofs.roopl_semantics_laws.MainPlace.{first_of_mains, table_rules, class_inside}
use Rattle.refine_program.specs.Methods.{methods_before, routine_of}
use Rattle.refine_program.proofs.Stated.{methods_have_routines}
use Rattle.program_codegen.proofs.Counts.{entries_few}
use Rattle.program_codegen.proofs.Tables.{first_read}
use Rattle.std.proofs.lemmas.Option.{same_Some}

-- a method that is there
pub record IsMethod (program : Source) (id : MethodId) : Type 0 where
  pub inside : id.class < length program.classes
  pub method : Procedure
  pub there : slice_get (class_at program id.class).methods id.method ≡ Some method

pub slot_method : (program : Source) (own slot : ℕ) → own < length program.classes
    → slot < length (class_slots program own) → IsMethod program (run_at (class_slots program own) slot)
slot_method program own slot own_in low =
    let x = there_at (class_slots program own) slot low in
    let line = has_line program own slot x.0 x.1 in
    let whole = line.shorter ++ own ∷ [] in
    let entries : AreEntries program whole (slots_along program [] whole) =
    entries_along program whole whole [] (λ q g. g) (record { at = λ p y g. absurd (nothing p y g) }) in
    let entry = entries.at slot x.0 (ap (λ l. slice_get (slots_along program [] l) slot) (sym line.is) ∙ x.1) in
    let class_in : x.0.1.class < length program.classes =
    in_range (length program.classes) (length program.classes) (parents program) (Some own) whole x.0.1.class
    (parents_in program) (λ number e. subst (λ n. n < length program.classes) (same_Some own number e) own_in)
    line.chain_is entry.known in
    subst (IsMethod program) (sym (run_is (class_slots program own) slot x.0 x.1))
    (record { inside = class_in; method = entry.method; there = entry.there })
  where
    nothing : (p : ℕ) (y : List ℕ × MethodId) → slice_get [] p ≡ Some y → ⊥
    nothing p y g = cc

-- the method that the table's reader returns for a slot
pub record SlotRead (program : Source) (class slot : ℕ) (id : MethodId) : Type 0 where
  pub low : slot < length (class_slots program class)
  pub runs : id ≡ run_at (class_slots program class) slot
  pub method : IsMethod program id

pub slot_read : (program : Source) (table : Table) (class slot count : ℕ) (id : MethodId) → table ≡ table_of program
    → class < length program.classes
    → count ≡ length (slots_in table class) → slot < count → id ≡ dispatch_in table class slot
    → SlotRead program class slot id
slot_read program table class slot count id table_is inside count_is below id_is =
    let slots : slots_in table class ≡ class_slots program class = ap (λ (t : Table). slots_in t class) table_is
    ∙ (table_reads program class inside).slots in
    let low : slot < length (class_slots program class) = omega (arith, count_is, ap (λ (s : Slots). length s) slots) in
    let runs : id ≡ run_at (class_slots program class) slot = id_is ∙ ap (λ (s : Slots). run_at s slot) slots in
    record {
      low = low;
      runs = runs;
      method = subst (IsMethod program) (sym runs)
          (slot_method program class slot inside low);
    }

-- the number of a method's routine, from the first one of its class
pub record NumberRead (program : Source) (firsts : List ℕ) (id : MethodId) : Type 0 where
  pub inside : id.class < length firsts
  pub is : slice_index firsts id.class + id.method ≡ routine_of program id
  pub small : 1 + (slice_index firsts id.class + id.method) < 2 ^ 32

pub number_read : (program : Source) (firsts : List ℕ) (id : MethodId)
    → firsts ≡ each_below (methods_before program.classes) (length program.classes)
    → source_tokens program ≤ 20000 → IsMethod program id → NumberRead program firsts id
number_read program firsts id firsts_are few m =
    let is : slice_index firsts id.class + id.method ≡ routine_of program id =
    ap (λ n. n + id.method) (first_read program firsts id.class firsts_are m.inside) in
    let below = (methods_have_routines program id m.method m.there).below in
    record {
      inside = omega (
        arith,
        m.inside,
        ap (λ (xs : List ℕ). length xs) firsts_are,
        length-each_below (methods_before program.classes) (length program.classes),
      );
      is = is;
      small = omega (arith, is, below, entries_few program);
    }

-- `main` is a method
pub main_method : (program : Source) → IsAccepted program → IsMethod program (main_of program)
main_method program accepted =
    let place = first_of_mains 0 program.classes (mains program) refl (table_rules program accepted.classes).one_main in
    let class_is : (main_of program).class ≡ place.index = place.class_is
    ∙ (let e : 0 + place.index ≡ place.index = omega arith in e) in
    let number_is : (main_of program).method ≡ place.found.index = place.found.number_is
    ∙ (let e : 0 + place.found.index ≡ place.found.index = omega arith in e) in
    record {
      inside = class_inside program accepted;
      method = place.found.method;
      there =
          ap (λ k. slice_get (class_at program k).methods (main_of program).method) class_is
          ∙ ap (λ o. slice_get (unwrap_or o no_class).methods (main_of program).method) place.there
          ∙ ap (slice_get place.class.methods) number_is
          ∙ place.found.there;
    }
