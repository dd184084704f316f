pub use Rattle.roopl_lexer.proofs.rpp_tree_laws
pub use Rattle.roopl_lexer.proofs as roopl_lexer_laws
pub mod ReadRows
pub mod Moves
pub mod Sound
pub mod Productive
pub mod Complete
pub mod Fault
pub mod Exact
pub mod MoreMoves
pub mod MoveSets
pub mod Parts
pub mod Answered
pub mod Kept
pub mod Steps
