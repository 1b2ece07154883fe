pub mod Answers
pub mod Decides
pub mod EdgeLaws
pub mod TestLaws
pub mod WalkLaws
