pub use Rattle.rpp_tree.specs as rpp_tree
pub mod Inverse
pub mod Laws
