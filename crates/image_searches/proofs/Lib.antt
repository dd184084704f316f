pub mod Moving
pub mod Listing
pub mod Seeking
pub mod GoingOn
pub mod Asking
