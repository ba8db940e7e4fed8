pub mod State
pub mod StateAfter
pub mod OneMore
pub mod Fill
pub mod Inside
