pub use Rattle.roopl_semantics.proofs.rpp_tree_laws
pub use Rattle.roopl_semantics.proofs.class_rules_laws
pub use Rattle.roopl_semantics.proofs.inverse_rules_laws
pub use Rattle.roopl_semantics.proofs.buddy_book_laws
pub use Rattle.roopl_semantics.proofs as roopl_semantics_laws
pub mod Growing
mod WrittenOut
mod Rows
