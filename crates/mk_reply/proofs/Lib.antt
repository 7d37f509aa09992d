pub mod RefusalLaws
pub mod ToldLaws
pub mod ReplyLaws
pub mod LengthLaws
