pub mod Gaps
pub mod NamedTokens
pub mod TokenBytes
pub mod Cutting
pub mod Looks
pub mod LikeExpressions
pub mod LikeKinds
pub mod LikeStatements
pub mod SameLimits
pub mod LikeClasses
pub mod ReadBack
mod PrintRows
