pub mod JoinedTextLaws
