pub use Rattle.meaning_points.specs.rpp_words
pub use Rattle.meaning_points.specs.rpp_tree
pub use Rattle.meaning_points.specs.class_rules
pub use Rattle.meaning_points.specs.inverse_rules
pub use Rattle.meaning_points.specs.buddy_book
pub use Rattle.meaning_points.specs.roopl_semantics
pub use Rattle.meaning_points.specs as meaning_points
pub mod Machine
pub mod MachineLaws
pub mod SourceLaws
pub mod TrailLaws
pub mod Turned
pub mod Reversed
pub mod BackLaws
pub mod Placed
