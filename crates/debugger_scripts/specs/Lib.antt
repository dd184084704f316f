pub use Rattle.pisa_scripts.specs as pisa_scripts
pub use Rattle.pisa_scripts.specs.rpp_words
pub mod Scripts
