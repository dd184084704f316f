pub use Rattle.rpp_tree.specs.rpp_words
pub use Rattle.rpp_tree.specs as rpp_tree
pub mod Signs
pub mod Tokens
pub mod Begins
pub mod Readable
