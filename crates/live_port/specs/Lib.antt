pub use Rattle.rpp_ports.specs as rpp_ports
pub mod Heard
pub mod Notes
pub mod Told
