pub mod RankLaws
pub mod CountLaws
