pub use Rattle.live_requests.proofs as live_requests_laws
pub mod Byes
pub mod Putting
pub mod Limiting
