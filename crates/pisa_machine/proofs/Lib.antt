pub use Rattle.rpp_probes.proofs as rpp_probes_laws
pub use Rattle.rpp_probes.proofs.rpp_words_laws
pub mod Legs
pub mod Watched
