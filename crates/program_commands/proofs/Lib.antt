pub use Rattle.store_report.proofs as store_report_laws
pub use Rattle.command_plan.proofs as command_plan_laws
pub use Rattle.program_runs.proofs.run_settings_laws
pub mod Reported
pub mod Turned
pub mod ProgramTargets
pub mod Watched
