pub mod HostLaws
