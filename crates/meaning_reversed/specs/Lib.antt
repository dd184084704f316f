pub use Rattle.meaning_inverse.specs.meaning_sound
pub use Rattle.meaning_machine.specs as meaning_machine
pub mod ReverseLaws
