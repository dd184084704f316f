pub use Rattle.pisa_isa.specs.rpp_words
pub use Rattle.pisa_isa.specs as pisa_isa
pub mod Cells
pub mod Faults
pub mod Header
