pub mod Asking
pub mod Working
pub mod Shortness
pub mod HallAnswers
pub mod HallCalls
pub mod HallLoop
pub mod HallWork
