pub use Rattle.pisa_machine.proofs.rpp_probes_laws
pub mod OneStep
pub mod RunOn
pub mod Walking
pub mod CellRange
pub mod Fronts
