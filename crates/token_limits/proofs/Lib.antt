pub use Rattle.roopl_parser.proofs as roopl_parser_laws
pub use Rattle.roopl_parser.proofs.roopl_lexer_laws
pub mod Outlines
pub mod Limited
