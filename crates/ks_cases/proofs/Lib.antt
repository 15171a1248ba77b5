mod FileLemmas
mod StepLemmas
