pub mod VoteLemmas
