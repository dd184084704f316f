pub use Rattle.source_courses.proofs as source_courses_laws
pub use Rattle.source_lines.proofs.meaning_machine_laws
pub use Rattle.source_lines.proofs.source_steps_laws
pub use Rattle.source_courses.proofs.buddy_book_laws
pub mod Longer
pub mod Following
pub mod Finished
pub mod Stopping
