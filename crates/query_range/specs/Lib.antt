pub mod AtLabel
pub mod Parting
pub mod RangeContracts
pub mod RangeWays
