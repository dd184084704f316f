pub use Rattle.two_way_debugger.specs as two_way_debugger
pub use Rattle.two_way_debugger.specs.pisa_machine
pub mod RunTexts
pub mod ImagePlans
pub mod DebugPlans
