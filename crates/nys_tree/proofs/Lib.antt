pub mod NamedEquations
