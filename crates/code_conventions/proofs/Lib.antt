pub use Rattle.pisa_isa.proofs as pisa_isa_laws
