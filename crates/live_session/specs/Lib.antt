pub use Rattle.live_searches.specs.source_debugger
pub use Rattle.live_talks.specs as live_talks
pub use Rattle.live_searches.specs as live_searches
pub use Rattle.live_accounts.specs as live_accounts
pub use Rattle.live_searches.specs.source_courses
pub mod Ends
pub mod Replies
pub mod Sessions
pub mod Serving
pub mod SessionLaws
