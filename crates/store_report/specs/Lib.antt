pub use Rattle.pisa_machine.specs as pisa_machine
pub use Rattle.static_layout.specs.roopl_semantics
pub use Rattle.pisa_machine.specs.pisa_isa
pub mod Ascii
pub mod Memory
pub mod Told
pub mod Leads
pub mod Shown
