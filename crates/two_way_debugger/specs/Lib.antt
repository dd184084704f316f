pub use Rattle.pisa_machine.specs as pisa_machine
pub use Rattle.pisa_scripts.specs as pisa_scripts
pub use Rattle.pisa_machine.specs.rpp_probes
pub mod Moves
pub mod Shown
pub mod Along
