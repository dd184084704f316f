pub use Rattle.inverse_rules.specs.rpp_tree
pub use Rattle.inverse_rules.specs as inverse_rules
