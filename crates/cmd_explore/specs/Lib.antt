pub mod Counts
pub mod ToldTexts
pub mod QuestionCauses
pub mod ExplorePlan
pub mod Explored
pub mod ExploreState
