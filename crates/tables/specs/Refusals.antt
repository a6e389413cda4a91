-- The number of each refusal.
use Rattle.std.specs.Prelude.{ℕ}
use Rattle.tables.specs.declared.refusal.Refusal.{Refusal}
use Rattle.tables.specs.declared.refusal.Refusal.TheVariants.{MalformedLine, UnknownFrame, OutOfStage, FieldValue, Limit, ModuleOutOfRange, ExternalRuntime, EntryApart, StoreSize, PairPresent, DependencyLimit, PairAbsent, DrawingRoom, UnreachedModule, ChunkOutOfRange, BufferRoom}

abbrev pub number_of : Refusal → ℕ
number_of MalformedLine = 1
number_of UnknownFrame = 2
number_of OutOfStage = 3
number_of FieldValue = 4
number_of Limit = 5
number_of ModuleOutOfRange = 6
number_of ExternalRuntime = 7
number_of EntryApart = 8
number_of StoreSize = 9
number_of PairPresent = 10
number_of DependencyLimit = 11
number_of PairAbsent = 12
number_of DrawingRoom = 13
number_of UnreachedModule = 14
number_of ChunkOutOfRange = 15
number_of BufferRoom = 16
