pub use Rattle.pisa_machine.proofs.rpp_probes_laws
pub mod Decimal
pub mod StateBytes
pub mod Inputs
pub mod InputForm
pub mod ValidInput
pub mod Zeros
