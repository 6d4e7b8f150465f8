-- Vectors and the buffers that they name.
use Rattle.std.proofs.Common.{arith, ◌≡◌, ℕ, zero, suc, ◌+◌, ◌-◌, ◌*◌, ◌≤◌, ◌<◌, List, [], ◌∷◌, ◌++◌, length, get_or, refl, sym, ap, ◌∙◌, true}
use Rattle.std.proofs.lemmas.List.{append_assoc, length-map, map_push}
use Rattle.std.proofs.lemmas.Bool.{leb-true, and_parts}
use Rattle.spec_hosts.specs.spec_runtime.Memories.{MemoryInstance}
use Rattle.spec_hosts.specs.Calls.{number_at, vectors_at, is_in, are_in}
use Rattle.host_wasi.specs.Wants.{pairs}
use Rattle.host_wasi.specs.declared.want.Buffer.{Buffer}

abbrev pub pair : Buffer → ℕ × ℕ
pair b = (b.at, b.len)

pub length-vectors_at : (memory : MemoryInstance) (at n : ℕ) → length (vectors_at memory at n) ≡ n
length-vectors_at memory at zero = refl
length-vectors_at memory at (suc n) = ap (λ k. suc k) (length-vectors_at memory (at + 8) n)

-- as many buffers as vectors
pub buffers_count : (memory : MemoryInstance) (at n : ℕ) (bs : List Buffer) → pairs bs ≡ vectors_at memory at n → length bs ≡ n
buffers_count memory at n bs e = sym (length-map bs pair) ∙ ap length e ∙ length-vectors_at memory at n

module _ (memory : MemoryInstance) (at n k : ℕ) where
  -- the first of the vectors that are left
  vectors_more : k < n → vectors_at memory (at + 8 * k) (n - k) ≡ (number_at memory (at + 8 * k), number_at memory (at + 8 * k + 4)) ∷ vectors_at memory (at + 8 * (k + 1)) (n - (k + 1))
  vectors_more h =
      let left : n - k ≡ suc (n - (k + 1)) = omega arith in
      let next : at + 8 * k + 8 ≡ at + 8 * (k + 1) = omega arith in
      rw (left, next) refl

  -- the rest of the vectors decides where the buffer of the first one is inside
  pub are_in_more : (b : Buffer) → k < n → b.at ≡ number_at memory (at + 8 * k) → b.len ≡ number_at memory (at + 8 * k + 4) → is_in memory b.at b.len ≡ true
      → are_in memory (vectors_at memory (at + 8 * k) (n - k)) ≡ are_in memory (vectors_at memory (at + 8 * (k + 1)) (n - (k + 1)))
  are_in_more b h a l e = ap (are_in memory) (vectors_more h) ∙ (rw (← a, ← l, e) refl)

  pub buffers_more : (bs : List Buffer) (b : Buffer) (whole : List (ℕ × ℕ)) → k < n → b.at ≡ number_at memory (at + 8 * k) → b.len ≡ number_at memory (at + 8 * k + 4)
      → pairs bs ++ vectors_at memory (at + 8 * k) (n - k) ≡ whole → pairs (bs ++ b ∷ []) ++ vectors_at memory (at + 8 * (k + 1)) (n - (k + 1)) ≡ whole
  buffers_more bs b whole h a l e =
      let rest : List (ℕ × ℕ) = vectors_at memory (at + 8 * (k + 1)) (n - (k + 1)) in
      let first : vectors_at memory (at + 8 * k) (n - k) ≡ pair b ∷ rest = rw (a, l) (vectors_more h) in
      ap (λ ps. ps ++ rest) (map_push pair bs b) ∙ append_assoc (pairs bs) (pair b ∷ []) rest ∙ ap (λ vs. pairs bs ++ vs) (sym first) ∙ e

pub buffer_in : (memory : MemoryInstance) (bs : List Buffer) (i : ℕ) (d : Buffer) → i < length bs → are_in memory (pairs bs) ≡ true → (get_or bs i d).at + (get_or bs i d).len ≤ length memory.bytes
buffer_in memory [] i d h e = absurd (omega arith)
buffer_in memory (b ∷ bs) zero d h e = leb-true (b.at + b.len) (length memory.bytes) (and_parts (is_in memory b.at b.len) (are_in memory (pairs bs)) e).0
buffer_in memory (b ∷ bs) (suc i) d h e = buffer_in memory bs i d (omega arith) (and_parts (is_in memory b.at b.len) (are_in memory (pairs bs)) e).1
