pub use Rattle.source_debugger.specs.source_execution
pub use Rattle.source_debugger.specs as source_debugger
pub mod Free
pub mod Takes
pub mod Accounts
pub mod AccountLaws
