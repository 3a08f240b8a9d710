pub mod Meant
pub mod Made
pub mod Throwing
pub mod ShownByNumber
pub mod Rising
pub mod RowsMade
pub mod Sets
pub mod Inheriting
