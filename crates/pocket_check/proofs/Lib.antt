pub mod AnswerLemmas
pub mod IdLemmas
pub mod HeldLemmas
pub mod GivenLemmas
pub mod SentLemmas
pub mod FaultlessLemmas
pub mod JudgingLemmas
mod SetLemmas
mod ChangeLemmas
mod ReadingLemmas
mod LoopLemmas
mod FaultLemmas
