pub mod Splits
pub mod DoesSplit
pub mod Inside
