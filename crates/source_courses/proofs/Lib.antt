pub use Rattle.source_execution.proofs.meaning_points_laws
pub use Rattle.pisa_scripts.proofs as pisa_scripts_laws
pub use Rattle.meaning_reversed.proofs.buddy_book_laws
pub mod Rewound
pub mod Left
pub mod Onwards
pub mod Backwards
pub mod Endings
