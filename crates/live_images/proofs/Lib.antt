pub mod Answering
pub mod ScriptedAlong
