pub mod Equations
pub mod StmtEquations
