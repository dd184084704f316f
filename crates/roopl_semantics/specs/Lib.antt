pub use Rattle.buddy_book.specs.rpp_words
pub use Rattle.inverse_rules.specs.rpp_tree
pub use Rattle.class_rules.specs as class_rules
pub use Rattle.inverse_rules.specs as inverse_rules
pub use Rattle.code_conventions.specs.pisa_isa
pub use Rattle.code_conventions.specs as code_conventions
pub use Rattle.buddy_book.specs as buddy_book
pub mod Operators
pub mod Run
pub mod Store
pub mod Value
pub mod Elements
pub mod Execution
pub mod Source
pub mod Alone
pub mod Agreement
pub mod Report
pub mod Layout
pub mod Walk
pub mod StandsFor
pub mod Exact
pub mod Laws
