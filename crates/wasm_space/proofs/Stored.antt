-- A memory that is kept in pages.
use Rattle.std.proofs.Common.{◌≡◌, refl, ◌∙◌, sym, ap, ℕ, ◌+◌, ◌*◌, ◌≤◌, List, ◌++◌, length, take, drop, arith, Ok}
use Rattle.std.specs.Option.{ok_or}
use Rattle.spec_runtime.specs.wasm_form.declared.runtime.Trap.TheVariants.{MemoryBounds}
use Rattle.spec_runtime.specs.Memories.{MemoryInstance, overwritten, written, initialized, pages, grown, loaded, little_value}
use Rattle.wasm_space.specs.Access.{ChangesOrTraps, GrowsOrStays}
use Rattle.wasm_space.specs.Paged.{joined, ArePages}
use Rattle.wasm_space.proofs.Parts.{overwritten_is}
use Rattle.wasm_space.proofs.Joined.{length-joined, joined-append, AreNew}
use Rattle.wasm_space.proofs.Changes.{memory_writes, written_all, initialized_all, part_within, length_part}
use Rattle.wasm_space.proofs.Growth.{memory_grew}

module _ (old : MemoryInstance) (list : List (List ℕ)) (max : ℕ) (view : record { bytes = joined list; max = max } ≡ old) (whole : ArePages list) where
  pub size_is : length old.bytes ≡ length list * 65536
  size_is = let bytes : MemoryInstance → ℕ = λ m. length m.bytes in ap bytes (sym view) ∙ length-joined list whole

  pub pages_are : length list ≡ pages old
  pages_are = let size = size_is in omega arith

  make : List ℕ → MemoryInstance
  make bytes = record { bytes = bytes; max = max }

  pub wrote : (after : List (List ℕ)) (at : ℕ) (new : List ℕ) → at + length new ≤ length list * 65536 → joined after ≡ overwritten (joined list) at new
      → ChangesOrTraps MemoryBounds old (written old at new) (Ok tt) (record { bytes = joined after; max = max })
  wrote after at new fits is =
      written_all (λ bytes. record { bytes = bytes; max = max }) written (memory_writes max) MemoryBounds old (joined list) new (joined after) at (length new) view refl (rw (length-joined list whole) fits)
      (is ∙ sym (overwritten_is (joined list) new at (length new) refl))

  pub initial : (after : List (List ℕ)) (items : List ℕ) (at from n : ℕ) → from + n ≤ length items → at + n ≤ length list * 65536 → joined after ≡ overwritten (joined list) at (take n (drop from items))
      → ChangesOrTraps MemoryBounds old (initialized old at items from n) (Ok tt) (record { bytes = joined after; max = max })
  initial after items at from n given fits is =
      initialized_all (λ bytes. record { bytes = bytes; max = max }) written (memory_writes max) MemoryBounds old (joined list) items (joined after) at from n view given (rw (length-joined list whole) fits)
      (is ∙ sym (overwritten_is (joined list) (take n (drop from items)) at n (length_part items from n given)))

  pub bytes_are : old.bytes ≡ joined list
  bytes_are = let bytes : MemoryInstance → List ℕ = λ m. m.bytes in ap bytes (sym view)

  pub loaded_is : (base offset len : ℕ) (part : List ℕ) → base + offset + len ≤ length list * 65536 → part ≡ take len (drop (base + offset) (joined list)) → Ok (little_value part) ≡ ok_or (loaded old base offset len) MemoryBounds
  loaded_is base offset len part fits is =
      let inside : base + offset + len ≤ length (joined list) = rw (length-joined list whole) fits in
      rw (bytes_are, part_within (joined list) (base + offset) len inside, is) refl

  pub grew : (more after : List (List ℕ)) (delta size : ℕ) → size ≡ pages old → size + delta ≤ max → AreNew more delta → after ≡ list ++ more
      → GrowsOrStays old (grown old delta) (pages old) (Ok size) (record { bytes = joined after; max = max })
  grew more after delta size same within new is =
      let here : size ≡ length list = same ∙ sym pages_are in
      memory_grew old (joined list) (joined after) size max delta view (rw here (length-joined list whole)) within (rw is (joined-append list more) ∙ ap (λ b. joined list ++ b) new.0)
