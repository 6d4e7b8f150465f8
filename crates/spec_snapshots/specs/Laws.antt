-- What is so of what is written of a memory and of tables.
-- Part of the statement of laws: docs/LAWS.md, "Laws of the parts".
use Rattle.std.specs.Prelude.{◌≡◌, ◌≤◌, ℕ, List, length}
use Rattle.spec_loading.specs.spec_runtime.Memories.{MemoryInstance}
use Rattle.spec_loading.specs.spec_runtime.Tables.{TableInstance}
use Rattle.spec_snapshots.specs.Stretches.{Stretch, Contents, memory_gap, IsSparse, IsWritten}

-- they determine it
abbrev pub WrittenIsOne : Type 0
WrittenIsOne = (memory : MemoryInstance) (tables : List TableInstance) (c d : Contents) → IsWritten memory tables c → IsWritten memory tables d → c ≡ d

-- there are at most 65,536 stretches of a memory
abbrev pub MemoryIsFew : Type 0
MemoryIsFew = (memory : MemoryInstance) (ss : List (Stretch ℕ)) → IsSparse 0 (memory_gap memory) memory.bytes ss → length ss ≤ 65536
