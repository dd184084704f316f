pub mod Quits
pub mod ScriptLines
pub mod Left
pub mod Unlimited
