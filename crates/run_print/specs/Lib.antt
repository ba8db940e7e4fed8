pub mod Printing
pub mod DoesAsk
pub mod DoesDrill
