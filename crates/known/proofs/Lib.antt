pub mod Answering
pub mod Proved
pub mod RowAnswers
pub mod EqualRows
pub mod Rows
