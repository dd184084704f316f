pub mod Cuts
pub mod ParsedNumbers
pub mod TextEnd
pub mod LongestDots
pub mod Rounds
pub mod AddedTexts
