pub mod PickingLaws
