pub use Rattle.live_requests.specs.two_way_debugger
pub use Rattle.live_requests.specs as live_requests
pub use Rattle.live_requests.specs.pisa_machine
pub use Rattle.live_requests.specs.rpp_words
pub mod Steps
pub mod Searches
pub mod Goals
pub mod Sights
pub mod Turns
pub mod Makings
pub mod SearchLaws
