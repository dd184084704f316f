pub use Rattle.roopl_semantics.specs as roopl_semantics
