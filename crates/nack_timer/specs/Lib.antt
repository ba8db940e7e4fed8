pub mod State
pub mod Steps
pub mod TimerAfter
pub mod OneMore
pub mod Inside
