pub use Rattle.bennett_wrap.specs as bennett_wrap
pub mod Programs
pub mod Laws
