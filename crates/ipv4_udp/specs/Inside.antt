-- What private contracts cite.
pub mod Total
