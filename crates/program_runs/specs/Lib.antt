pub use Rattle.program_codegen.specs as program_codegen
pub use Rattle.run_settings.specs as run_settings
pub use Rattle.run_settings.specs.roopl_judge
pub mod Reports
