pub use Rattle.class_table.specs.class_rules
pub mod ScopeView
pub mod Verdicts
