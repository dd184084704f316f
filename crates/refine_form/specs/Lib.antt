pub use Rattle.refine_frame.specs.rpp_words
pub use Rattle.refine_frame.specs.rpp_tree
pub use Rattle.refine_frame.specs.class_rules
pub use Rattle.refine_frame.specs.inverse_rules
pub use Rattle.refine_frame.specs.pisa_isa
pub use Rattle.refine_frame.specs.code_conventions
pub use Rattle.refine_frame.specs.buddy_book
pub use Rattle.refine_frame.specs.roopl_semantics
pub use Rattle.refine_frame.specs.meaning_sound
pub use Rattle.paired_code.specs as paired_code
pub use Rattle.refine_frame.specs as refine_frame
pub mod Cells
pub mod Form
pub mod Frames
pub mod Stands
pub mod Worlds
pub mod Held
pub mod Laws
