pub mod ValidateLaws
