pub use Rattle.buddy_book.proofs.rpp_words_laws
pub use Rattle.inverse_rules.proofs.rpp_tree_laws
pub use Rattle.class_rules.proofs as class_rules_laws
pub use Rattle.inverse_rules.proofs as inverse_rules_laws
pub use Rattle.code_conventions.proofs.pisa_isa_laws
pub use Rattle.buddy_book.proofs as buddy_book_laws
pub mod CostBound
pub mod MoreFuel
pub mod Exactly
pub mod Starting
pub mod Testing
pub mod IntRows
mod CallRows
pub mod ObjectRows
mod ArrayRows
mod SharedRows
mod MemoryRows
mod OperatorRows
mod CheckRows
mod CellRows
pub mod MainPlace
pub mod Orders
pub mod Changed
