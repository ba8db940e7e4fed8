-- Files and standard streams: their counts of faults, and what a call does to the reader or writer behind, where that
-- tells.
use Rattle.std.specs.Prelude.{◌≡◌, ◌≢◌, ℕ, List, Option, None, IsSome, Result, codes}
use Rattle.std.specs.Io.KnownBytes.{Appends, ReadConsumes}
use Rattle.outside_io.specs.Told.{IsPrefix}
use Rattle.outside_io.specs.declared.source.Failed.{Failed}
use Rattle.outside_io.specs.declared.file_identity.FileIdentity.{FileIdentity}
use Rattle.outside_io.specs.declared.real.RealSource.{RealSource}
use Rattle.outside_io.specs.declared.real.RealSource.TheVariants as sources
use Rattle.outside_io.specs.declared.real.RealSink.{RealSink}
use Rattle.outside_io.specs.declared.real.RealSink.TheVariants as sinks

-- what is given or taken is not told
abbrev pub silent : Option (List ℕ)
silent = None

-- how many calls of a source failed, a file or a stream
abbrev pub source_faults : {F I : Type 0} → RealSource F I → ℕ
source_faults (sources.File s file) = s.faults
source_faults (sources.Stream s) = s.faults

-- likewise of a sink
abbrev pub sink_faults : {F O : Type 0} → RealSink F O → ℕ
sink_faults (sinks.File s) = s.faults
sink_faults (sinks.Stream s) = s.faults

-- the reader behind gave what was read, and reads the same file
abbrev pub ReadsBehind : {F I : Type 0} → (F → Option (List ℕ)) → (I → Option (List ℕ)) → RealSource F I
    → RealSource F I → Result ℕ Failed → List ℕ → Type 0
ReadsBehind file stream (sources.File s known) (sources.File t same) result buf =
    ReadConsumes (file s.inner) (file t.inner) result buf × (same ≡ known)
ReadsBehind file stream (sources.Stream s) (sources.Stream t) result buf =
    ReadConsumes (stream s.inner) (stream t.inner) result buf
ReadsBehind file stream (sources.File s known) (sources.Stream t) result buf = ⊥
ReadsBehind file stream (sources.Stream s) (sources.File t known) result buf = ⊥

-- a writer, where it tells, has gained a front part of the piece and nothing else
abbrev pub WritesFront : Option (List ℕ) → Option (List ℕ) → List ℕ → Type 0
WritesFront old new piece = (front : List ℕ) × IsPrefix front piece × Appends old new front

-- the writer behind has gained the piece
abbrev pub WritesBehind : {F O : Type 0} → (F → Option (List ℕ)) → (O → Option (List ℕ)) → RealSink F O → RealSink F O
    → List ℕ → Type 0
WritesBehind file stream (sinks.File s) (sinks.File t) piece = Appends (file s.inner) (file t.inner) piece
WritesBehind file stream (sinks.Stream s) (sinks.Stream t) piece = Appends (stream s.inner) (stream t.inner) piece
WritesBehind file stream (sinks.File s) (sinks.Stream t) piece = ⊥
WritesBehind file stream (sinks.Stream s) (sinks.File t) piece = ⊥

-- the writer behind has gained a front part of the piece
abbrev pub WritesFrontBehind : {F O : Type 0} → (F → Option (List ℕ)) → (O → Option (List ℕ)) → RealSink F O
    → RealSink F O → List ℕ → Type 0
WritesFrontBehind file stream (sinks.File s) (sinks.File t) piece = WritesFront (file s.inner) (file t.inner) piece
WritesFrontBehind file stream (sinks.Stream s) (sinks.Stream t) piece =
    WritesFront (stream s.inner) (stream t.inner) piece
WritesFrontBehind file stream (sinks.File s) (sinks.Stream t) piece = ⊥
WritesFrontBehind file stream (sinks.Stream s) (sinks.File t) piece = ⊥

-- the standard streams have the name `-`, and files all others
abbrev pub IsSourceNamed : {F I : Type 0} → List ℕ → RealSource F I → Type 0
IsSourceNamed name (sources.File s file) = name ≢ codes "-"
IsSourceNamed name (sources.Stream s) = name ≡ codes "-"

-- likewise of sinks
abbrev pub IsSinkNamed : {F O : Type 0} → List ℕ → RealSink F O → Type 0
IsSinkNamed name (sinks.File s) = name ≢ codes "-"
IsSinkNamed name (sinks.Stream s) = name ≡ codes "-"

-- this name is that of the file: a regular file was found under it, and it is the same one. `-` is the name of none
abbrev pub IsNameOf : List ℕ → Option FileIdentity → Option FileIdentity → Type 0
IsNameOf name found file = (name ≢ codes "-") × IsSome found × (found ≡ file)

-- the regular file that a source reads, if it is one: a stream reads none
abbrev pub file_of : {F I : Type 0} → RealSource F I → Option FileIdentity
file_of (sources.File s file) = file
file_of (sources.Stream s) = None
