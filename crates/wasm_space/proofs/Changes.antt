-- A write within a memory or a table is the one that is wanted.
use Rattle.std.proofs.Common.{◌≡◌, refl, ap, sym, subst, ℕ, zero, suc, ◌+◌, ◌/◌, ◌≤◌, List, ◌++◌, length, take, drop, arith, Ok, Option, Some, None, nat_le, if◌then◌else◌}
use Rattle.std.proofs.lemmas.Bool.{le-leb}
use Rattle.std.proofs.lemmas.List.{length-take-le, length-drop}
use Rattle.spec_runtime.specs.wasm_form.declared.runtime.Trap.{Trap}
use Rattle.spec_runtime.specs.spec_binary.Options.{◌>>=◌}
use Rattle.spec_runtime.specs.Memories.{MemoryInstance, overwritten, written, little}
use Rattle.spec_runtime.specs.Tables.{TableInstance, entries_overwritten, entries_written}
use Rattle.wasm_space.specs.Access.{ChangesOrTraps}

pub length-little : (n value : ℕ) → length (little n value) ≡ n
length-little zero value = refl
length-little (suc n) value = ap (λ k. suc k) (length-little n (value / 256))

-- so many items from a place on; none where they pass the end
abbrev pub items_at : {X : Type 0} → List X → ℕ → ℕ → Option (List X)
items_at xs at n = if nat_le (at + n) (length xs) then Some (take n (drop at xs)) else None

pub part_within : {X : Type 0} (xs : List X) (at n : ℕ) → at + n ≤ length xs → items_at xs at n ≡ Some (take n (drop at xs))
part_within xs at n fits = rw (le-leb _ _ fits) refl

pub length_part : {X : Type 0} (xs : List X) (at n : ℕ) → at + n ≤ length xs → length (take n (drop at xs)) ≡ n
length_part xs at n fits = length-take-le n (drop at xs) (omega (arith, length-drop at xs))

-- what a write of others from an index on gives, in an instance made of a list
abbrev pub Writes : {X I : Type 0} → (List X → I) → (I → ℕ → List X → Option I) → Type 0
Writes {X} make write =
    (xs : List X) (at : ℕ) (new : List X) → write (make xs) at new ≡ (if nat_le (at + length new) (length xs) then Some (make (take at xs ++ (new ++ drop (at + length new) xs))) else None)

pub memory_writes : (max : ℕ) → Writes (λ bytes. let m : MemoryInstance = record { bytes = bytes; max = max } in m) written
unfolding overwritten
memory_writes max xs at new = refl

pub table_writes : (max : ℕ) → Writes (λ entries. let t : TableInstance = record { entries = entries; max = max } in t) entries_written
unfolding entries_overwritten
table_writes max xs at new = refl

module _ {X I : Type 0} (make : List X → I) (write : I → ℕ → List X → Option I) (law : Writes make write) (trap : Trap) where
  within : (xs new after : List X) (at n : ℕ) → length new ≡ n → at + n ≤ length xs → after ≡ take at xs ++ (new ++ drop (at + n) xs) → write (make xs) at new ≡ Some (make after)
  within xs new after at n size fits is = rw (law xs at new, size, le-leb _ _ fits, is) refl

  changed : (old new : I) (wanted : Option I) → wanted ≡ Some new → ChangesOrTraps trap old wanted (Ok tt) new
  changed old new wanted e = let P : Option I → Type 0 = λ w. ChangesOrTraps trap old w (Ok tt) new in subst P (sym e) (refl, refl)

  pub written_all : (old : I) (xs new after : List X) (at n : ℕ) → make xs ≡ old → length new ≡ n → at + n ≤ length xs → after ≡ take at xs ++ (new ++ drop (at + n) xs)
      → ChangesOrTraps trap old (write old at new) (Ok tt) (make after)
  written_all old xs new after at n view size fits is =
      let P : I → Type 0 = λ i. ChangesOrTraps trap i (write i at new) (Ok tt) (make after) in
      subst P view (changed _ _ _ (within xs new after at n size fits is))

  pub initialized_all : (old : I) (xs items after : List X) (at from n : ℕ) → make xs ≡ old → from + n ≤ length items → at + n ≤ length xs → after ≡ take at xs ++ (take n (drop from items) ++ drop (at + n) xs)
      → ChangesOrTraps trap old (items_at items from n >>= write old at) (Ok tt) (make after)
  initialized_all old xs items after at from n view given fits is =
      rw (part_within items from n given) (written_all old xs (take n (drop from items)) after at n view (length_part items from n given) fits is)
