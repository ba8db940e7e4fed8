mod SumLemmas
mod Vectors
mod KeyLemmas
