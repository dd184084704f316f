-- The walk of a memory as the code makes it: a list of what is met, each address with what it leads
-- to, that grows at its end.
use Rattle.std.specs.Prelude.{ℕ, zero, suc, ◌+◌, Bool, true, false, not, ◌&&◌, nat_eq, is_none}
use Rattle.std.specs.Prelude.{position, List, [], ◌∷◌, map, length, replicate, Option, Some, None}
use Rattle.std.specs.Prelude.{slice_get, if◌then◌else◌}
use Rattle.std.specs.Option.{unwrap_or}
use Rattle.indexmap.specs.IndexMap.{insert_entry}
use Rattle.meaning_reached.specs.rpp_tree.declared.tree.Var.{Var}
use Rattle.meaning_reached.specs.rpp_tree.declared.tree.VarType.{VarType}
use Rattle.meaning_reached.specs.rpp_tree.declared.tree.VarType.TheVariants as type
use Rattle.refine_frame.specs.class_rules.Table.{Table, class_of, fields_in}
use Rattle.pisa_machine.specs.pisa_isa.Loaded.{statics_at}
use Rattle.pisa_machine.specs.pisa_isa.Machine.{word_at}
use Rattle.refine_frame.specs.code_conventions.declared.memory.TheConstants.{HEADER_WORDS}
use Rattle.store_report.specs.declared.leads.Lead.{Lead}
use Rattle.store_report.specs.declared.leads.Lead.TheVariants as lead

-- what is met, in the order of the numbers
abbrev pub Met : Type 0
Met = List (ℕ × Lead)

-- what a cell of this type leads to
abbrev pub lead_of : Table → VarType → Lead
lead_of table type.Int = lead.Int
lead_of table (type.Class name) = lead.Object
lead_of table type.IntArray = lead.Ints
lead_of table (type.ClassArray name) = lead.Objects (unwrap_or (class_of table name.text) 0)

abbrev pub leads_of : Table → List Var → List Lead
leads_of table vars = map (λ var. lead_of table var.kind) vars

abbrev pub is_reference : Lead → Bool
is_reference lead.Int = false
is_reference lead.Object = true
is_reference lead.Ints = true
is_reference (lead.Objects class) = true

abbrev pub address_met : ℕ × Lead → ℕ
address_met entry = entry.0

-- whether an address is among what is met
abbrev pub is_unmet : Met → ℕ → Bool
is_unmet met word = is_none (position (nat_eq word) (map address_met met))

-- after a cell with this word: a reference to what is not yet met is met
abbrev pub meets_one : Met → Lead → ℕ → Met
meets_one met lead word =
    if is_reference lead && not (nat_eq word 0) && is_unmet met word
    then insert_entry nat_eq met word lead else met

-- after the cells from an address on
abbrev pub met_leads : List ℕ → Met → ℕ → List Lead → Met
met_leads cells met address [] = met
met_leads cells met address (lead ∷ leads) =
    met_leads cells (meets_one met lead (word_at cells address)) (address + 1) leads

-- the class whose table is at an address
abbrev pub class_at_table : List ℕ → ℕ → ℕ
class_at_table tables word = unwrap_or (position (nat_eq word) tables) 0

-- what the cells after a head word lead to; ints lead nowhere
abbrev pub leads_at : Table → List ℕ → Lead → ℕ → List Lead
leads_at table tables lead.Int head = []
leads_at table tables lead.Object head = leads_of table
    (fields_in table (class_at_table tables head))
leads_at table tables lead.Ints head = []
leads_at table tables (lead.Objects class) head = replicate head lead.Object

abbrev pub meets_behind : Table → List ℕ → List ℕ → Met → ℕ × Lead → Met
meets_behind table tables cells met entry =
    met_leads cells met (entry.0 + HEADER_WORDS) (leads_at table tables entry.1 (word_at cells entry.0))

-- goes on with what was met at this place
abbrev pub goes_on : Option (ℕ × Lead) → Met → (ℕ × Lead → Met) → Met
goes_on None met next = met
goes_on (Some entry) met next = next entry

-- the cells of what is met are walked in turn, from a place on, in at most so many steps
abbrev pub walks : ℕ → Table → List ℕ → List ℕ → Met → ℕ → Met
walks zero table tables cells met next = met
walks (suc steps) table tables cells met next =
    goes_on (slice_get met next) met
    (λ entry. walks steps table tables cells (meets_behind table tables cells met entry) (next + 1))

-- what is met from the main object's fields on
abbrev pub met_all : Table → List ℕ → List Var → List ℕ → Met
met_all table tables fields cells =
    walks (length cells) table tables cells (met_leads cells [] (statics_at + HEADER_WORDS)
    (leads_of table fields)) 0
