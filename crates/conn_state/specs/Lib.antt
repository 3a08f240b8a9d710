pub mod Phase
pub mod Step
pub mod Inside
pub mod Run
pub mod Split
