pub mod Numbers
pub mod Rows
pub mod ImageBytes
pub mod Reading
