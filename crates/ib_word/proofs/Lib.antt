pub mod Equation
pub mod Cells
