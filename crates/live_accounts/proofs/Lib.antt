pub mod Books
pub mod Taking
pub mod Sizes
pub mod Going
pub mod Ones
