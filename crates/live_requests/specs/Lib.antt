pub use Rattle.debugger_scripts.specs.pisa_scripts
pub use Rattle.debugger_scripts.specs as debugger_scripts
pub use Rattle.two_way_debugger.specs as two_way_debugger
pub use Rattle.two_way_debugger.specs.pisa_machine
pub use Rattle.debugger_scripts.specs.rpp_words
pub mod Requests
pub mod Asks
pub mod Limited
