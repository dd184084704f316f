-- The laws in the form of their statements.
use Rattle.refine_frame.specs.Laws.{OpenCells, OpenLayout}
use Rattle.refine_frame.proofs.Opens.{read_cell_is, write_cell_is, begun, ended}
use Rattle.meaning_sound.specs.code_conventions.declared.memory.TheConstants.{FIRST_VARIABLE}

pub open_cells : OpenCells
open_cells u extra shape class st s below m g o = record {
  reads = read_cell_is u extra shape class st s g below m o;
  writes = write_cell_is u extra shape class st s g below m o;
}

pub open_layout : OpenLayout
open_layout u at st m none one placed = record {
  begins = λ deep cells regs object frame. begun u at st m none one deep placed cells regs object frame;
  ends = λ o. ended u at st m FIRST_VARIABLE none o;
}
