mod WordLemmas
mod OpeningLemmas
mod CallLemmas
mod StepLemmas
mod AloneLemmas
mod RuleLemmas
