pub mod HostLaws
pub mod OrderedLaws
