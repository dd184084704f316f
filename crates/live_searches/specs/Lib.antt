pub use Rattle.source_debugger.specs as source_debugger
pub use Rattle.live_requests.specs as live_requests
pub use Rattle.source_debugger.specs.rpp_tree
pub use Rattle.source_debugger.specs.roopl_semantics
pub use Rattle.source_debugger.specs.source_courses
pub mod Steps
pub mod Searches
pub mod Goals
pub mod Sights
pub mod Turns
pub mod Makings
pub mod SearchLaws
pub mod Values
