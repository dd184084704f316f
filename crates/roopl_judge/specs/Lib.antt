pub use Rattle.token_limits.specs.rpp_words
pub use Rattle.token_limits.specs.rpp_tree
pub use Rattle.reversible_types.specs.class_rules
pub mod Errors
pub mod Judged
pub mod Laws
