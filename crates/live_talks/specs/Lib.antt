pub use Rattle.live_port.specs as live_port
pub use Rattle.live_requests.specs as live_requests
pub use Rattle.live_requests.specs.pisa_scripts
pub use Rattle.live_requests.specs.debugger_scripts
pub use Rattle.live_requests.specs.two_way_debugger
pub mod Ends
pub mod Talks
pub mod Sessions
pub mod Serving
pub mod Limits
