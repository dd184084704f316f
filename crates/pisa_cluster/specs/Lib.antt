pub use Rattle.pisa_isa.specs as pisa_isa
pub mod Replay
pub mod Schedules
