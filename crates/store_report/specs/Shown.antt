-- The text of what is met, as the code makes it.
use Rattle.std.specs.Prelude.{ℕ, ◌+◌, List, [], ◌∷◌, ◌++◌, map, length, replicate, codes}
use Rattle.meaning_reached.specs.rpp_tree.declared.tree.Var.{Var}
use Rattle.meaning_reached.specs.rpp_tree.Tree.{Source}
use Rattle.refine_frame.specs.class_rules.Table.{Table, fields_in}
use Rattle.static_layout.specs.roopl_semantics.Store.{Value, Word, Head, OfClass, OfInts, OfObjects}
use Rattle.static_layout.specs.roopl_semantics.Report.{Text, number_shown, field_lines}
use Rattle.static_layout.specs.roopl_semantics.Report.{element_lines, live_line, head_line}
use Rattle.static_layout.specs.roopl_semantics.Report.{head_shown}
use Rattle.pisa_machine.specs.pisa_isa.Loaded.{statics_at}
use Rattle.pisa_machine.specs.pisa_isa.Machine.{word_at}
use Rattle.refine_frame.specs.code_conventions.declared.memory.TheConstants.{COUNT_WORD}
use Rattle.refine_frame.specs.code_conventions.declared.memory.TheConstants.{HEADER_WORDS}
use Rattle.store_report.specs.declared.leads.Lead.{Lead}
use Rattle.store_report.specs.Told.{reference_told}
use Rattle.store_report.specs.Leads.{Met, address_met, leads_of, class_at_table, met_all}
use Rattle.store_report.specs.declared.leads.Lead.TheVariants as lead

-- the meaning of a word
abbrev pub lead_value : Lead → ℕ → Value
lead_value lead.Int word = Word word
lead_value lead.Object word = reference_told word
lead_value lead.Ints word = reference_told word
lead_value (lead.Objects class) word = reference_told word

-- the meaning of the cells from an address on
abbrev pub values_by : List ℕ → ℕ → List Lead → List Value
values_by cells address [] = []
values_by cells address (lead ∷ leads) =
    lead_value lead (word_at cells address) ∷ values_by cells (address + 1) leads

abbrev pub head_by : List ℕ → Lead → ℕ → Head
head_by tables lead.Int word = OfInts 0
head_by tables lead.Object word = OfClass (class_at_table tables word)
head_by tables lead.Ints word = OfInts word
head_by tables (lead.Objects class) word = OfObjects class word

abbrev pub addresses_of : Met → List ℕ
addresses_of met = map address_met met

-- the lines of an object's or array's cells
abbrev pub cells_by : Table → List ℕ → List ℕ → List ℕ → ℕ → Lead → ℕ → Text
cells_by table tables cells names at lead.Int word = []
cells_by table tables cells names at lead.Object word =
    let fields = fields_in table (class_at_table tables word) in
    field_lines (codes "  ") names fields
    (values_by cells (at + HEADER_WORDS) (leads_of table fields))
cells_by table tables cells names at lead.Ints word =
    element_lines names 0 (values_by cells (at + HEADER_WORDS) (replicate word lead.Int))
cells_by table tables cells names at (lead.Objects class) word =
    element_lines names 0 (values_by cells (at + HEADER_WORDS) (replicate word lead.Object))

-- the head line and the lines of what is met at an address
abbrev pub object_by : Source → Table → List ℕ → List ℕ → List ℕ → ℕ × Lead → Text
object_by program table tables cells names entry =
    head_line (number_shown names entry.0)
    (head_shown program (head_by tables entry.1 (word_at cells entry.0)))
    (word_at cells (entry.0 + COUNT_WORD))
    ++ cells_by table tables cells names entry.0 entry.1 (word_at cells entry.0)

abbrev pub objects_by : Source → Table → List ℕ → List ℕ → List ℕ → Met → Text
objects_by program table tables cells names [] = []
objects_by program table tables cells names (entry ∷ rest) =
    object_by program table tables cells names entry
    ++ objects_by program table tables cells names rest

-- the whole text
abbrev pub report_by : Source → Table → List ℕ → List Var → List ℕ → Text
report_by program table tables fields cells =
    let met = met_all table tables fields cells in
    let names = addresses_of met in
    field_lines [] names fields
    (values_by cells (statics_at + HEADER_WORDS) (leads_of table fields))
    ++ objects_by program table tables cells names met
    ++ live_line (length met)
