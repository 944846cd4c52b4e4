pub mod PlanLemmas
pub mod PutBackLemmas
pub mod StepLemmas
