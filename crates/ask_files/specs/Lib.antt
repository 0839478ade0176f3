pub mod AskedAt
pub mod FileLaws
pub mod KeyAt
pub mod QuestionAt
pub mod Questions
pub mod ReplyContracts
pub mod ReplyLaws
