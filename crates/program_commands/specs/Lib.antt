pub use Rattle.command_plan.specs.rpp_words
pub use Rattle.command_plan.specs.rpp_ports
pub use Rattle.command_plan.specs.rpp_tree
pub use Rattle.command_plan.specs.class_rules
pub use Rattle.image_inverter.specs.pisa_isa
pub use Rattle.store_report.specs.pisa_machine
pub use Rattle.command_plan.specs.pisa_image
pub use Rattle.command_plan.specs.pisa_loader
pub use Rattle.command_plan.specs.pisa_scripts
pub use Rattle.store_report.specs.roopl_semantics
pub use Rattle.store_report.specs as store_report
pub use Rattle.command_plan.specs as command_plan
pub use Rattle.program_runs.specs.roopl_judge
pub use Rattle.program_runs.specs.run_settings
pub mod ProgramPlans
pub mod GoRun
pub mod RunPlans
pub mod ToldShort
