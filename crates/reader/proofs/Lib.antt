pub mod ReadsLaws
pub mod PairedLaws
pub mod ExchangeLaws
pub mod IndexedLaws
pub mod EndLaws
pub mod LinkLaws
pub mod ArchiveLaws
pub mod LineLaws
