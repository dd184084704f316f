pub mod Accepted
pub mod AsRefusals
pub mod OneJudgement
