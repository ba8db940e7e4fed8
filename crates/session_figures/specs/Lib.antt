pub mod Playout
pub mod Amounts
pub mod Spreads
pub mod Figures
pub mod Counting
pub mod Inside
