pub use Rattle.rpp_tree.proofs as rpp_tree_laws
pub mod Words
pub mod Signs
pub mod Fronts
pub mod Cuts
pub mod Found
pub mod Unique
pub mod Order
