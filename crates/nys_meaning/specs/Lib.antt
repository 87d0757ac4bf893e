pub mod Numbers
pub mod Exprs
pub mod Stmts
pub mod ByName
pub mod Machines
