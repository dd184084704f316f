pub use Rattle.roopl_judge.specs.rpp_words
pub use Rattle.command_plan.specs.rpp_ports
pub use Rattle.roopl_judge.specs.rpp_tree
pub use Rattle.command_plan.specs.pisa_loader
pub use Rattle.command_plan.specs.pisa_scripts
pub use Rattle.command_plan.specs as command_plan
pub use Rattle.roopl_semantics.specs as roopl_semantics
pub use Rattle.roopl_judge.specs as roopl_judge
pub use Rattle.roopl_semantics.specs.pisa_isa
pub use Rattle.roopl_semantics.specs.class_rules
pub use Rattle.command_plan.specs.command_ends
pub use Rattle.command_plan.specs.pisa_image
pub mod Inputs
pub mod Runnable
pub mod Readied
