pub use Rattle.pisa_machine.specs.rpp_probes
pub use Rattle.pisa_image.specs as pisa_image
pub mod Limiting
pub mod States
pub mod InputLines
pub mod Kinds
pub mod InputGrammar
