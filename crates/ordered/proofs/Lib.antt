pub mod TurnLaws
pub mod SceneLaws
pub mod UnionLaws
pub mod ComparedLaws
