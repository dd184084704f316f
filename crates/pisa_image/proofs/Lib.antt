pub use Rattle.pisa_isa.proofs as pisa_isa_laws
pub mod RowNumbers
pub mod Many
pub mod Words
pub mod Cells
pub mod NoteBytes
pub mod Whole
