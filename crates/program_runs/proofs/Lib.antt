pub use Rattle.run_settings.proofs as run_settings_laws
pub mod Sizes
pub mod Weaker
