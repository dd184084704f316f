pub use Rattle.roopl_parser.specs as roopl_parser
pub use Rattle.roopl_parser.specs.rpp_words
pub use Rattle.roopl_parser.specs.rpp_tree
pub use Rattle.roopl_parser.specs.roopl_lexer
pub mod Limits
pub mod Laws
