pub use Rattle.command_plan.specs.rpp_ports
pub use Rattle.command_plan.specs.rpp_probes
pub use Rattle.command_plan.specs as command_plan
pub use Rattle.command_plan.specs.pisa_image
pub use Rattle.command_plan.specs.pisa_loader
pub mod CommandNames
pub mod Lines
