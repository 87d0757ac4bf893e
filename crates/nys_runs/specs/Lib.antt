pub mod StepLines
pub mod HostLines
