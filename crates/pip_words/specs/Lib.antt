pub mod Alone
pub mod Arguments
pub mod Numbers
pub mod ParameterVector
pub mod Words
