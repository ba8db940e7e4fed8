mod CtrLemmas
mod CounterLemmas
mod AddLemmas
mod Vectors
