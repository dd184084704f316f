pub use Rattle.branch_codegen.specs.code_scope
pub mod Codes
pub mod Laws
pub mod Rows
pub mod Ranges
pub mod Pieces
