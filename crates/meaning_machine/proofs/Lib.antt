pub use Rattle.meaning_points.proofs.rpp_tree_laws
pub use Rattle.meaning_points.proofs.class_rules_laws
pub use Rattle.meaning_points.proofs.inverse_rules_laws
pub use Rattle.meaning_points.proofs.buddy_book_laws
pub use Rattle.meaning_points.proofs.roopl_semantics_laws
pub use Rattle.meaning_points.proofs as meaning_points_laws
pub mod Steps
pub mod Following
pub mod Sources
pub mod Trails
pub mod Back
pub mod Turning
pub mod Placing
pub mod Branching
