pub mod SumLemmas
pub mod CourseLemmas
pub mod ScenarioLemmas
pub mod AnsweredLemmas
pub mod LoggedLemmas
