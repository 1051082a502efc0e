pub mod Delivered
pub mod Answered
pub mod Judged
pub mod RunsGo
