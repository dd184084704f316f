pub use Rattle.meaning_inverse.proofs.meaning_sound_laws
pub use Rattle.meaning_machine.proofs as meaning_machine_laws
pub use Rattle.meaning_machine.proofs.buddy_book_laws
pub mod Undoing
pub mod Simple
pub mod Branches
pub mod Holding
pub mod CallsBack
pub mod CallsBackOpened
pub mod Requests
pub mod Made
pub mod AllSteps
pub mod Walked
