pub mod TabledLaws
