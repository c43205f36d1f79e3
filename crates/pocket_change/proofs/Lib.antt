pub mod IdLemmas
pub mod LimitLemmas
pub mod SentLemmas
pub mod StandingLemmas
pub mod DeltaLemmas
pub mod ChainLemmas
pub mod PlanLemmas
pub mod PutLaws
