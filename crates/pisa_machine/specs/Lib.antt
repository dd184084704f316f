pub use Rattle.rpp_probes.specs as rpp_probes
pub use Rattle.pisa_isa.specs as pisa_isa
pub use Rattle.pisa_isa.specs.rpp_words
pub mod Reached
pub mod Position
pub mod Told
pub mod Ways
