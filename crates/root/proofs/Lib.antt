pub mod RootLaws
pub mod PatternLaws
pub mod LargestLaws
