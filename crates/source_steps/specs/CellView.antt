-- What contracts see of cells.
use Rattle.source_store.specs.roopl_semantics.Value.{Cell, Slot, Part}
use Rattle.source_steps.specs.declared.cell.Cell.{Cell as Place}
use Rattle.source_steps.specs.declared.cell.Cell.TheVariants as place

abbrev pub cell_view : Place → Cell
cell_view (place.Slot index) = Slot index
cell_view (place.Part name index) = Part name index
