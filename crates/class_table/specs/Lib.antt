pub use Rattle.class_rules.specs.rpp_tree
pub use Rattle.class_rules.specs as class_rules
