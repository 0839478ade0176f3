pub mod Below
pub mod EdgeContracts
pub mod PathContracts
pub mod PathSteps
pub mod Paths
