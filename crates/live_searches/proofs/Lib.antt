pub mod Single
pub mod Listing
pub mod Looking
pub mod Seeking
pub mod Returning
pub mod GoingOn
pub mod Watching
pub mod Valued
