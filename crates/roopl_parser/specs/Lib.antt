pub use Rattle.roopl_lexer.specs.rpp_words
pub use Rattle.roopl_lexer.specs.rpp_tree
pub use Rattle.roopl_lexer.specs as roopl_lexer
pub mod Operators
pub mod Grammar
pub mod Reader
pub mod Viable
pub mod Fits
pub mod Parens
pub mod Readable
