pub use Rattle.roopl_semantics.specs.rpp_words
pub use Rattle.roopl_semantics.specs.rpp_tree
pub use Rattle.roopl_semantics.specs.class_rules
pub use Rattle.roopl_semantics.specs.inverse_rules
pub use Rattle.roopl_semantics.specs.buddy_book
pub use Rattle.roopl_semantics.specs as roopl_semantics
pub mod Points
pub mod Trail
pub mod PointLaws
pub mod WrittenOut
