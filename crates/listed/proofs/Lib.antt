pub mod Decimal
pub mod Intake
pub mod Theorems
