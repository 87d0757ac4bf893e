pub mod NoteLemmas
pub mod QuietSteps
pub mod EventNotes
pub mod ToldWorlds
pub mod RunSteps
