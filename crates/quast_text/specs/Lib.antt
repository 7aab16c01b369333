pub mod Printing
pub mod Faults
pub mod Fractions
pub mod Components
pub mod Trees
pub mod Spoken
