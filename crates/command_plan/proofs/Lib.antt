pub use Rattle.pisa_loader.proofs.rpp_probes_laws
pub use Rattle.pisa_scripts.proofs as pisa_scripts_laws
pub mod TwoReads
pub mod Writes
pub mod GivenTexts
