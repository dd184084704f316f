pub use Rattle.rpp_tree.proofs as rpp_tree_laws
pub mod Inverses
pub mod InverseWalks
mod InverseRows
