pub mod Locality
pub mod Commuting
pub mod Keeping
pub mod Undoing
pub mod Calls
pub mod LastFree
