-- The buffers of a call.
-- Serves the contracts of this crate, which follow Calls of `spec_hosts`.
use Rattle.std.specs.Prelude.{◌≡◌, ℕ, ◌+◌, ◌*◌, ◌≤◌, List, take, drop, length, IsTrue}
use Rattle.spec_hosts.specs.spec_runtime.Memories.{MemoryInstance}
use Rattle.spec_hosts.specs.Calls as calls
use Rattle.host_wasi.specs.declared.want.Buffer.{Buffer}

-- there are not too many vectors, and they, their buffers and the place for a number lie inside the memory
pub record AreFit (memory : MemoryInstance) (vectors n out : ℕ) : Type 0 where
  pub few : n ≤ calls.most_vectors
  pub vectors_in : vectors + 8 * n ≤ length memory.bytes
  pub buffers_in : IsTrue (calls.are_in memory (calls.vectors_at memory vectors n))
  pub out_in : out + 4 ≤ length memory.bytes

-- a call with such vectors answers this errno, whatever it is for
abbrev pub IsRefused : MemoryInstance → ℕ → ℕ → ℕ → ℕ → Type 0
IsRefused memory vectors n out errno = (go : List (ℕ × ℕ) → calls.Wanted) → calls.with_buffers memory vectors n out go ≡ calls.Says (calls.refused errno)

-- the bytes of a buffer
abbrev pub bytes_of : MemoryInstance → Buffer → List ℕ
bytes_of memory buffer = take buffer.len (drop buffer.at memory.bytes)
