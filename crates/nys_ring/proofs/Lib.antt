pub mod CourseLemmas
