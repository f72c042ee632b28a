pub mod MatchLaws
