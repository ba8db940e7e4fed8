mod LevelLemmas
mod SearchLemmas
mod NearLemmas
