pub mod Wanted
pub mod Held
pub mod Outside
pub mod Places
pub mod Finishes
pub mod Left
