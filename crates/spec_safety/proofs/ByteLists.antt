-- What memories hold stays bytes.
use Rattle.std.proofs.Common.{◌≡◌, ℕ, zero, suc, ◌+◌, ◌*◌, ◌/◌, ◌%◌, ◌^◌, ◌<◌, ◌≤◌, List, [], ◌∷◌, ◌++◌, length, take, drop, nat_le, Bool, true, false, Option, Some, None, if◌then◌else◌, refl, sym, ap, ◌∙◌, arith}
use Rattle.std.specs.Option.{option_map}
use Rattle.std.proofs.lemmas.Bool.{leb-true}
use Rattle.std.proofs.lemmas.Nat.{pow-add, mod_below}
use Rattle.std.proofs.lemmas.List.{length-take, length-drop, length-replicate}
use Rattle.std.proofs.lemmas.List.Elements.{All-nil, All-cons, All-head, All-tail, All-take, All-drop, All-append, All-replicate}
use Rattle.spec_execution.specs.spec_validation.Faults.{most_pages}
use Rattle.spec_execution.specs.spec_runtime.Memories.{MemoryInstance, page_size, pages, bytes_at, little, little_value, loaded, overwritten, zeros, new_memory}
use Rattle.spec_safety.specs.ValueTypes.{AreBytes, IsMemory}

abbrev IsByte : ℕ → Type 0
IsByte b = b < 256

-- ---- numbers

digits_fit : (n b v : ℕ) → b < 256 → v < 2 ^ (8 * n) → b + 256 * v < 2 ^ (8 * suc n)
digits_fit n b v h k =
    let split : 2 ^ (8 + 8 * n) ≡ 256 * 2 ^ (8 * n) = pow-add 2 8 (8 * n) in
    let more : 8 * suc n ≡ 8 + 8 * n = omega arith in
    rw (more, split) (omega arith)

pub value_fits : (bytes : List ℕ) → AreBytes bytes → little_value bytes < 2 ^ (8 * length bytes)
value_fits [] h = omega arith
value_fits (b ∷ bytes) h = digits_fit (length bytes) b (little_value bytes) (All-head IsByte b bytes h) (value_fits bytes (All-tail IsByte b bytes h))

-- so many bytes from a place on
abbrev AreSome : ℕ → Option (List ℕ) → Type 0
AreSome n None = Unit {0}
AreSome n (Some bytes) = AreBytes bytes × (length bytes ≡ n)

bytes_found : (bytes : List ℕ) (at n : ℕ) → AreBytes bytes → AreSome n (bytes_at bytes at n)
bytes_found bytes at n h = go (nat_le (at + n) (length bytes)) refl
  where
    go : (b : Bool) → nat_le (at + n) (length bytes) ≡ b → AreSome n (if b then Some (take n (drop at bytes)) else None)
    go true q =
        let fits = leb-true (at + n) (length bytes) q in
        let left = length-drop at bytes in
        let size = length-take n (drop at bytes) in
        (All-take IsByte n (drop at bytes) (All-drop IsByte at bytes h), omega arith)
    go false q = tt

pub loaded_fits : (memory : MemoryInstance) (base offset len n : ℕ) → AreBytes memory.bytes → loaded memory base offset len ≡ Some n
    → n < 2 ^ (8 * len)
loaded_fits memory base offset len n h e = go (bytes_at memory.bytes (base + offset) len) (bytes_found memory.bytes (base + offset) len h) e
  where
    go : (o : Option (List ℕ)) → AreSome len o → option_map little_value o ≡ Some n → n < 2 ^ (8 * len)
    go None found q = absurd cc
    go (Some bytes) found q =
        let is : little_value bytes ≡ n = cc in
        rw (← is, ← found.1) (value_fits bytes found.0)

pub little_bytes : (len value : ℕ) → AreBytes (little len value)
little_bytes zero value = All-nil IsByte
little_bytes (suc len) value =
    All-cons IsByte (value % 256) (little len (value / 256)) (mod_below value 256 (omega arith)) (little_bytes len (value / 256))

-- ---- what is written

pub zeros_bytes : (n : ℕ) → AreBytes (zeros n)
unfolding zeros
zeros_bytes n = All-replicate IsByte n 0 (omega arith)

pub overwritten_bytes : (bytes : List ℕ) (at : ℕ) (new : List ℕ) → AreBytes bytes → AreBytes new → AreBytes (overwritten bytes at new)
unfolding overwritten
overwritten_bytes bytes at new h k =
    All-append IsByte (take at bytes) (new ++ drop (at + length new) bytes) (All-take IsByte at bytes h)
    (All-append IsByte new (drop (at + length new) bytes) k (All-drop IsByte (at + length new) bytes h))

-- ---- a new memory

pub new_memory_is : (count max : ℕ) → count ≤ max → max ≤ most_pages → IsMemory (new_memory count max)
unfolding zeros
new_memory_is count max few most =
    let paged : pages (new_memory count max) ≡ count = ap (λ (k : ℕ). k / 65536) size ∙ whole count in
    record { bytes = zeros_bytes (count * page_size); whole = size ∙ ap (λ (k : ℕ). k * 65536) (sym paged); few = rw paged few; most = most }
  where
    size : length (zeros (count * page_size)) ≡ count * 65536
    size = length-replicate (count * page_size) 0

    whole : (n : ℕ) → (n * 65536) / 65536 ≡ n
    whole n = omega arith
