-- Bytes of numbers, and bytes in buffers.
use Rattle.std.proofs.Common.{◌≡◌, ℕ, ◌+◌, ◌-◌, ◌<◌, ◌%◌, ◌/◌, List, [], ◌∷◌, ◌++◌, arith, append_assoc}
use Rattle.spec_hosts.specs.spec_runtime.Memories.{little}

-- one more byte of a number
pub little_next : (done : List ℕ) (len i rest : ℕ) → i < len → done ++ little (len - i) rest ≡ (done ++ rest % 256 ∷ []) ++ little (len - (i + 1)) (rest / 256)
little_next done len i rest lt =
    let more : len - i ≡ (len - (i + 1)) + 1 = omega arith in
    grind (arith, more, append_assoc)
