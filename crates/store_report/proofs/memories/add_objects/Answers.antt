use Rattle.std.proofs.Common.{◌≡◌, ◌∙◌, sym, ap, ◌+◌, ◌++◌, drop, ℕ, zero, suc, List, [], ◌∷◌, Some, slice_get, arith}
use Rattle.std.proofs.Common.{append_assoc}
use Rattle.std.specs.Prelude.{string_bytes}
use Rattle.meaning_reached.specs.rpp_tree.Views.{source_of}
use Rattle.meaning_reached.specs.rpp_tree.Tree.{Source}
use Rattle.refine_frame.specs.class_rules.Table.{Table}
use Rattle.static_layout.specs.roopl_semantics.Report.{Text}
use Rattle.store_report.specs.declared.leads.Lead.{Lead}
use Rattle.store_report.specs.Leads.{Met}
use Rattle.store_report.specs.Shown.{object_by, objects_by, addresses_of}
use Rattle.store_report.proofs.memories.add_objects.Goals as goal

dropped : (met : Met) (k : ℕ) (entry : ℕ × Lead) → Some entry ≡ slice_get met k → drop k met ≡ entry ∷ drop (suc k) met
dropped [] k entry e = absurd (cc)
dropped (x ∷ met) zero entry e = let q : entry ≡ x = cc in ap (λ z. z ∷ met) (sym q)
dropped (x ∷ met) (suc k) entry e = dropped met k entry e

next : (program : Source) (table : Table) (tables cells names : List ℕ) (before : Text) (met : Met) (k : ℕ)
    (entry : ℕ × Lead) → Some entry ≡ slice_get met k
    → (before ++ object_by program table tables cells names entry)
    ++ objects_by program table tables cells names (drop (k + 1) met)
    ≡ before ++ objects_by program table tables cells names (drop k met)
next program table tables cells names before met k entry e =
    let one : k + 1 ≡ suc k = omega arith in
    ap (λ j. (before ++ object_by program table tables cells names entry)
    ++ objects_by program table tables cells names (drop j met)) one
    ∙ append_assoc before (object_by program table tables cells names entry)
    (objects_by program table tables cells names (drop (suc k) met))
    ∙ ap (λ rest. before ++ objects_by program table tables cells names rest) (sym (dropped met k entry e))

pub loop-number-preserved : goal.loop-number-preserved
loop-number-preserved c =
    let cells = c.args.memory.now.machine.now.state.cells in
    let met = c.args.met.now.entries in
    let program = source_of c.args.memory.now.program.now in
    let names = addresses_of met in
    let k = c.loop-number.number in
    ap (λ z. z ++ objects_by program c.args.memory.now.table.now c.args.memory.now.tables.now cells names
    (drop (k + 1) met)) c.in_ok-add_object.ensures
    ∙ next program c.args.memory.now.table.now c.args.memory.now.tables.now cells names (string_bytes c.loop-number.out)
    met k (c.in-Some.at.now, c.in-Some.lead.now) c.in-Some.ensures.entry
    ∙ c.loop-number.invariant
