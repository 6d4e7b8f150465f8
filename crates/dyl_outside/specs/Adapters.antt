-- What the readers of the adapters answer, where the bytes are known.
-- This profile: docs/DECISIONS.md, "The outside".
use Rattle.std.specs.Prelude.{◌≡◌, ℕ, ◌<◌, ◌≤◌, List, length, take, Result, Ok, Err, Vec}
use Rattle.std.specs.Int.{w64, from_le_bytes}
use Rattle.std.specs.declared.alloc.Global.{Global}
use Rattle.dyl_outside.specs.declared.fault.FileFault.{FileFault}
use Rattle.dyl_outside.specs.declared.fault.FileFault.TheVariants.{Absent, Failed, TooLong, Memory}
use Rattle.dyl_outside.specs.declared.fault.IoFault.{IoFault}
use Rattle.dyl_outside.specs.declared.fault.IoFault.TheVariants as io

-- what reading the whole of a file may answer, where these are its bytes
abbrev pub IsWhole : List ℕ → ℕ → Result (Vec ℕ Global) FileFault → Type 0
IsWhole whole most (Ok bytes) = bytes.items ≡ whole
IsWhole whole most (Err Absent) = ⊥
IsWhole whole most (Err TooLong) = most < length whole
IsWhole whole most (Err Failed) = Unit {0}
IsWhole whole most (Err Memory) = Unit {0}

-- what it means for a fetch that reading failed so
abbrev pub read_fault : IoFault → FileFault
read_fault io.Failed = Failed
read_fault io.Memory = Memory

-- the word is that of the first eight bytes, the least first
pub record IsWord (left : List ℕ) (word : ℕ) : Type 0 where
  pub enough : 8 ≤ length left
  pub value : word ≡ from_le_bytes w64 (take 8 left)
