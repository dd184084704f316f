pub use Rattle.source_store.specs as source_store
pub mod Comparisons
pub mod TestWords
pub mod ComparedView
