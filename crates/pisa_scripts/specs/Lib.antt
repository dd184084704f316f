pub use Rattle.code_conventions.specs.rpp_words
pub use Rattle.code_conventions.specs.pisa_isa
pub mod Lines
pub mod Words
pub mod Stops
