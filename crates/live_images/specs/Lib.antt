pub use Rattle.image_searches.specs.two_way_debugger
pub use Rattle.image_searches.specs as image_searches
pub use Rattle.live_talks.specs as live_talks
pub mod Ends
pub mod Replies
pub mod Sessions
pub mod AlongLaws
