-- A new memory or table, and one that grew.
use Rattle.std.proofs.Common.{◌≡◌, refl, sym, subst, ℕ, ◌+◌, ◌-◌, ◌*◌, ◌/◌, ◌≤◌, List, ◌++◌, length, take, replicate, arith, Ok, Option, Some, None, []}
use Rattle.std.proofs.lemmas.Bool.{le-leb}
use Rattle.std.proofs.Math.Seq.{take-nil}
use Rattle.spec_runtime.specs.wasm_form.declared.runtime.Ref.{Ref}
use Rattle.spec_runtime.specs.Memories.{MemoryInstance, zeros, pages, grown}
use Rattle.spec_runtime.specs.Tables.{nulls, new_table}
use Rattle.wasm_space.specs.Access.{GrowsOrStays}

pub zeros_are : (bytes : List ℕ) (n : ℕ) → bytes ≡ replicate n 0 → bytes ≡ zeros n
unfolding zeros
zeros_are bytes n is = is

pub pages_are : (bytes : List ℕ) (size : ℕ) → length bytes ≡ size * 65536 → length bytes / 65536 ≡ size
pages_are bytes size whole = rw whole (omega arith)

grows : {I : Type 0} (old new : I) (wanted : Option I) (size answer : ℕ) → wanted ≡ Some new → answer ≡ size → GrowsOrStays old wanted size (Ok answer) new
grows {I} old new wanted size answer e same = let P : Option I → Type 0 = λ w. GrowsOrStays old w size (Ok answer) new in subst P (sym e) (same, refl)

memory_grown : (bytes after : List ℕ) (size max delta : ℕ) → length bytes ≡ size * 65536 → size + delta ≤ max → after ≡ bytes ++ zeros (delta * 65536)
    → grown (record { bytes = bytes; max = max }) delta ≡ Some (record { bytes = after; max = max })
memory_grown bytes after size max delta whole within is = rw (pages_are bytes size whole, le-leb _ _ within, is) refl

pub memory_grew : (old : MemoryInstance) (bytes after : List ℕ) (size max delta : ℕ) → record { bytes = bytes; max = max } ≡ old → length bytes ≡ size * 65536 → size + delta ≤ max
    → after ≡ bytes ++ zeros (delta * 65536) → GrowsOrStays old (grown old delta) (pages old) (Ok size) (record { bytes = after; max = max })
memory_grew old bytes after size max delta view whole within is =
    let P : MemoryInstance → Type 0 = λ m. GrowsOrStays m (grown m delta) (pages m) (Ok size) (record { bytes = after; max = max }) in
    subst P view (grows _ _ _ _ size (memory_grown bytes after size max delta whole within is) (sym (pages_are bytes size whole)))

-- an empty `Vec` after `resize`
pub new_table_is : (entries : List (Option Ref)) (n max : ℕ) (old : List (Option Ref)) (len : ℕ) → old ≡ [] → len ≡ 0 → entries ≡ take n old ++ replicate (n - len) None → record { entries = entries; max = max } ≡ new_table n max
unfolding nulls
new_table_is entries n max old len empty none is =
    let all : n - len ≡ n = omega arith in
    rw (is, empty, all, take-nil) refl
