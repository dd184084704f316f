pub use Rattle.rpp_tree.specs as rpp_tree
pub mod First
pub mod Names
pub mod Rules
pub mod Chains
pub mod Members
pub mod Table
pub mod Refusal
pub mod Scope
pub mod Expressions
pub mod Statements
pub mod Program
pub mod Overrides
pub mod Laws
pub mod Mains
pub mod Classes
pub mod Inheritance
