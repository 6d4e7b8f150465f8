-- Units that are in a store: what a change of them changes, and what it leaves (WebAssembly Core 2.0, section 4.2.3).
use Rattle.std.specs.Prelude.{◌≡◌, ◌≢◌, ℕ, List, [], Option, Some}
use Rattle.spec_execution.specs.wasm_form.declared.runtime.Ref.{Ref}
use Rattle.spec_execution.specs.wasm_form.declared.runtime.Value.{Value}
use Rattle.spec_execution.specs.spec_runtime.Tables.{TableInstance}
use Rattle.spec_execution.specs.Views.{View}

-- each look finds what it found before
abbrev pub AreSame : {A : Type 0} → (ℕ → ℕ → Option A) → (ℕ → ℕ → Option A) → Type 0
AreSame old new = (unit n : ℕ) → new unit n ≡ old unit n

-- what is at the address of this number is replaced: each look at that address finds the new item, and each other one what it found before
abbrev pub IsReplaced : {A : Type 0} → (ℕ → ℕ → Option ℕ) → (ℕ → ℕ → Option A) → (ℕ → ℕ → Option A) → ℕ → ℕ → A → Type 0
IsReplaced at old new unit n x = (other k : ℕ) → (at other k ≡ at unit n → new other k ≡ Some x) × (at other k ≢ at unit n → new other k ≡ old other k)

module _ {Units : Type 0} (V : View Units) (old new : Units) where
  abbrev pub SameGlobals : Type 0
  SameGlobals = AreSame (V.global old) (V.global new)

  abbrev pub SameTables : Type 0
  SameTables = AreSame (V.table old) (V.table new)

  abbrev pub SameElems : Type 0
  SameElems = AreSame (V.elem old) (V.elem new)

  abbrev pub SameDatas : Type 0
  SameDatas = AreSame (V.bytes old) (V.bytes new)

-- Each global, table and segment is at an address, which units may share. A change of one that there is is seen at its address by each later
-- look, and changes nothing else: a global has the value that it is set to, a table is the one that it is set to, and a segment that is
-- dropped is empty.
pub record AreStored {Units : Type 0} (V : View Units) : Type 0 where
  pub global_at : ℕ → ℕ → Option ℕ
  pub table_at : ℕ → ℕ → Option ℕ
  pub elem_at : ℕ → ℕ → Option ℕ
  pub data_at : ℕ → ℕ → Option ℕ
  pub set_global : (us : Units) (unit g : ℕ) (old v : Value) → V.global us unit g ≡ Some old
      → IsReplaced global_at (V.global us) (V.global (V.set_global us unit g v)) unit g v
      × SameTables V us (V.set_global us unit g v) × SameElems V us (V.set_global us unit g v) × SameDatas V us (V.set_global us unit g v)
  pub set_table : (us : Units) (unit t : ℕ) (old x : TableInstance) → V.table us unit t ≡ Some old
      → IsReplaced table_at (V.table us) (V.table (V.set_table us unit t x)) unit t x
      × SameGlobals V us (V.set_table us unit t x) × SameElems V us (V.set_table us unit t x) × SameDatas V us (V.set_table us unit t x)
  pub drop_elem : (us : Units) (unit e : ℕ) (old : List (Option Ref)) → V.elem us unit e ≡ Some old
      → IsReplaced elem_at (V.elem us) (V.elem (V.drop_elem us unit e)) unit e []
      × SameGlobals V us (V.drop_elem us unit e) × SameTables V us (V.drop_elem us unit e) × SameDatas V us (V.drop_elem us unit e)
  pub drop_data : (us : Units) (unit d : ℕ) (old : List ℕ) → V.bytes us unit d ≡ Some old
      → IsReplaced data_at (V.bytes us) (V.bytes (V.drop_data us unit d)) unit d []
      × SameGlobals V us (V.drop_data us unit d) × SameTables V us (V.drop_data us unit d) × SameElems V us (V.drop_data us unit d)
