-- A memory stays one: what is written is bytes, and it grows up to its maximum.
use Rattle.std.proofs.Common.{◌≡◌, ℕ, ◌+◌, ◌*◌, ◌/◌, ◌<◌, ◌≤◌, List, [], ◌∷◌, ◌++◌, length, take, drop, Some, None, Bool, true, false, refl, sym, ap, ◌∙◌, nat_le, arith, if◌then◌else◌}
use Rattle.std.specs.Prelude.{IfSome}
use Rattle.std.specs.List.{All}
use Rattle.std.proofs.lemmas.Bool.{leb-true, and_parts}
use Rattle.std.proofs.lemmas.List.{length-append, length-take, length-drop, length-replicate}
use Rattle.std.proofs.lemmas.List.Elements.{All-head, All-tail, All-append, All-take, All-drop}
use Rattle.spec_execution.specs.wasm_form.declared.runtime.Write.{Write}
use Rattle.spec_execution.specs.spec_binary.Options.{◌>>=◌}
use Rattle.spec_execution.specs.spec_runtime.Memories.{MemoryInstance, zeros, overwritten, page_size, pages, written, initialized, grown}
use Rattle.spec_execution.specs.spec_runtime.Hosts.{writes_fit, all_written}
use Rattle.spec_safety.specs.ValueTypes.{AreBytes, IsMemory}
use Rattle.spec_safety.proofs.ByteLists.{overwritten_bytes, zeros_bytes}

pub overwritten_length : (bytes : List ℕ) (at : ℕ) (new : List ℕ) → at + length new ≤ length bytes → length (overwritten bytes at new) ≡ length bytes
unfolding overwritten
overwritten_length bytes at new le =
    let outer = length-append (take at bytes) (new ++ drop (at + length new) bytes) in
    let inner = length-append new (drop (at + length new) bytes) in
    omega (arith, outer, inner, length-take at bytes, length-drop (at + length new) bytes)

-- other bytes, as many
memory_as : (memory : MemoryInstance) (bytes : List ℕ) → length bytes ≡ length memory.bytes → AreBytes bytes → IsMemory memory
    → IsMemory (record memory { bytes = bytes })
memory_as memory bytes same are is = record { bytes = are; whole = rw same is.whole; few = rw same is.few; most = is.most }

-- bytes over those from an address on
pub over_kept : (memory : MemoryInstance) (at : ℕ) (new : List ℕ) → nat_le (at + length new) (length memory.bytes) ≡ true → IsMemory memory → AreBytes new
    → IsMemory (record memory { bytes = overwritten memory.bytes at new })
over_kept memory at new fits is are =
    memory_as memory (overwritten memory.bytes at new)
    (overwritten_length memory.bytes at new (leb-true (at + length new) (length memory.bytes) fits))
    (overwritten_bytes memory.bytes at new is.bytes are) is

pub written_kept : (memory : MemoryInstance) (at : ℕ) (new : List ℕ) → IsMemory memory → AreBytes new → IfSome (written memory at new) IsMemory
written_kept memory at new is are = go (nat_le (at + length new) (length memory.bytes)) refl
  where
    go : (b : Bool) → nat_le (at + length new) (length memory.bytes) ≡ b
        → IfSome (if b then Some (record memory { bytes = overwritten memory.bytes at new }) else None) IsMemory
    go true fits = over_kept memory at new fits is are
    go false fits = tt

pub initialized_kept : (memory : MemoryInstance) (to : ℕ) (bytes : List ℕ) (from n : ℕ) → IsMemory memory → AreBytes bytes
    → IfSome (initialized memory to bytes from n) IsMemory
initialized_kept memory to bytes from n is are = go (nat_le (from + n) (length bytes))
  where
    go : (b : Bool) → IfSome ((if b then Some (take n (drop from bytes)) else None) >>= written memory to) IsMemory
    go true = written_kept memory to (take n (drop from bytes)) is
        (All-take (λ b. b < 256) n (drop from bytes) (All-drop (λ b. b < 256) from bytes are))
    go false = tt

more_pages : (length more pages delta : ℕ) → length ≡ pages * 65536 → more ≡ delta * 65536 → (length + more) / 65536 ≡ pages + delta
more_pages length more pages delta e f = omega arith

many_zeros : (n : ℕ) → length (zeros n) ≡ n
unfolding zeros
many_zeros n = length-replicate n 0

pub grown_kept : (memory : MemoryInstance) (delta : ℕ) → IsMemory memory → IfSome (grown memory delta) IsMemory
grown_kept memory delta is = go (nat_le (pages memory + delta) memory.max) refl
  where
    size : length (memory.bytes ++ zeros (delta * page_size)) ≡ length memory.bytes + delta * page_size
    size = length-append memory.bytes (zeros (delta * page_size)) ∙ ap (λ n. length memory.bytes + n) (many_zeros (delta * page_size))

    larger : MemoryInstance
    larger = record memory { bytes = memory.bytes ++ zeros (delta * page_size) }

    sized : pages larger ≡ pages memory + delta
    sized = ap (λ n. n / page_size) size ∙ more_pages (length memory.bytes) (delta * page_size) (pages memory) delta is.whole refl

    sum : (p d : ℕ) → p * 65536 + d * 65536 ≡ (p + d) * 65536
    sum p d = omega arith

    go : (b : Bool) → nat_le (pages memory + delta) memory.max ≡ b → IfSome (if b then Some larger else None) IsMemory
    go true fits =
        let le = leb-true (pages memory + delta) memory.max fits in
        let whole = is.whole in
        record {
          bytes = All-append (λ b. b < 256) memory.bytes (zeros (delta * page_size)) is.bytes (zeros_bytes (delta * page_size));
          whole = size ∙ ap (λ n. n + delta * page_size) whole ∙ sum (pages memory) delta ∙ ap (λ n. n * page_size) (sym sized);
          few = rw sized le;
          most = is.most;
        }
    go false fits = tt

pub writes_kept : (ws : List Write) (memory : MemoryInstance) → writes_fit ws memory ≡ true → All (λ (w : Write). AreBytes w.bytes) ws
    → IsMemory memory → IsMemory (all_written ws memory)
writes_kept [] memory e are is = is
writes_kept (w ∷ ws) memory e are is =
    let p = and_parts (nat_le (w.at + length w.bytes) (length memory.bytes)) (writes_fit ws memory) e in
    let size = overwritten_length memory.bytes w.at w.bytes (leb-true (w.at + length w.bytes) (length memory.bytes) p.0) in
    writes_kept ws (record memory { bytes = overwritten memory.bytes w.at w.bytes })
    (same ws memory (overwritten memory.bytes w.at w.bytes) size ∙ p.1)
    (All-tail (λ (w : Write). AreBytes w.bytes) w ws are) (over_kept memory w.at w.bytes p.0 is (All-head (λ (w : Write). AreBytes w.bytes) w ws are))
  where
    same : (ws : List Write) (memory : MemoryInstance) (bytes : List ℕ) → length bytes ≡ length memory.bytes
        → writes_fit ws (record memory { bytes = bytes }) ≡ writes_fit ws memory
    same [] memory bytes e = refl
    same (w ∷ ws) memory bytes e = rw (e, same ws memory bytes e) refl
