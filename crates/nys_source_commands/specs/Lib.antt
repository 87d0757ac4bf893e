pub mod Numbers
pub mod BareRun
pub mod BareText
pub mod Refusals
pub mod Answers
pub mod Judging
