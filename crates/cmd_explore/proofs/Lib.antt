pub mod Judging
pub mod Counting
pub mod Comments
pub mod Named
pub mod Texts
pub mod Telling
