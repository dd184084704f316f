pub use Rattle.run_settings.specs as run_settings
pub use Rattle.image_commands.specs as image_commands
pub use Rattle.live_images.specs as live_images
pub use Rattle.live_session.specs as live_session
pub mod Beginnings
pub mod Lives
