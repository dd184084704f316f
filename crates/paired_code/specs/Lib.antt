pub use Rattle.code_conventions.specs.rpp_words
pub use Rattle.code_conventions.specs.pisa_isa
pub use Rattle.code_conventions.specs as code_conventions
pub mod Cells
pub mod Machine
pub mod Layout
pub mod Pieces
pub mod Laws
pub mod Fit
pub mod Code
pub mod Literal
pub mod Closed
pub mod Link
pub mod Does
pub mod Rows
pub mod Stored
