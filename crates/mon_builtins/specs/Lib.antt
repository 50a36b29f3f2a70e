pub mod Literals
pub mod Extremes
pub mod Builtins
pub mod Answers
