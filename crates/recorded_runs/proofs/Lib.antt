pub mod Coming
pub mod OneReport
pub mod Outputs
pub mod PlainRuns
pub mod Reporting
pub mod Scripted
pub mod Lending
pub mod Pieces
pub mod Served
pub mod Sizes
pub mod Counted
pub mod ManyReports
mod Summed
