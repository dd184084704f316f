pub mod ImageTargets
mod Short
