pub use Rattle.source_steps.specs.meaning_points
pub use Rattle.source_steps.specs.buddy_book
pub use Rattle.source_steps.specs as source_steps
pub mod Named
