pub use Rattle.command_plan.proofs as command_plan_laws
pub mod ValidInput
pub mod RefusedRuns
