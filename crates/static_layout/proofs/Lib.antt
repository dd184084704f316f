pub use Rattle.roopl_semantics.proofs as roopl_semantics_laws
pub mod Counted
