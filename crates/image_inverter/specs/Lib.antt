pub use Rattle.pisa_isa.specs as pisa_isa
pub mod Leading
