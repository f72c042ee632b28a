pub mod BoolLaws
pub mod BytesLaws
pub mod ListLaws
pub mod NatLaws
pub mod RunLaws
pub mod TableLaws
pub mod ClearLaws
pub mod CompareLaws
