pub mod SideLaws
pub mod MarkLaws
pub mod WalkLaws
pub mod LeadLaws
