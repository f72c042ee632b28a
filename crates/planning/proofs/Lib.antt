pub mod RowsLaws
pub mod PlanLaws
