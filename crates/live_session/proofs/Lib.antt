pub mod Carried
pub mod Looks
pub mod Answering
pub mod Along
pub mod Scripted
