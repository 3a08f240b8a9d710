mod AtEquals
mod PairWords
mod SameKinds
mod Taking
mod Progressing
pub mod Served
mod Determined
mod Defaulting
