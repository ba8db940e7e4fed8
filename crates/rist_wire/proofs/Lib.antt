pub mod PartLemmas
pub mod SealLemmas
pub mod CipherLemmas
pub mod BackLemmas
pub mod MediaLemmas
pub mod StripLemmas
pub mod AmongLemmas
