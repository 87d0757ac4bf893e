pub mod ExprEquations
pub mod StmtEquations
pub mod NameLemmas
pub mod ExprsNamed
pub mod StmtsNamed
pub mod BindingLemmas
pub mod ListLemmas
