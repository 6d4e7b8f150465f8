-- What effects keep, over any view whose changes keep it.
use Rattle.std.proofs.Common.{◌≡◌, ℕ, ◌+◌, ◌*◌, List, [], ◌∷◌, ◌++◌, length, nat_le, nat_lt, replicate, slice_set, Option, Some, None, IfSome, Bool, true, false, if◌then◌else◌, refl}
use Rattle.spec_loading.specs.wasm_form.declared.runtime.Ref.{Ref}
use Rattle.spec_loading.specs.wasm_form.declared.runtime.Trap.{Trap}
use Rattle.spec_loading.specs.wasm_form.declared.runtime.Value.{Value}
use Rattle.spec_loading.specs.spec_binary.Options.{◌>>=◌}
use Rattle.spec_loading.specs.spec_runtime.Memories.{MemoryInstance, page_size, zeros, overwritten, written, bytes_at, initialized, pages, grown}
use Rattle.spec_loading.specs.spec_runtime.Tables.{TableInstance, entry_set, entries_at, entries_overwritten, entries_written, entries_initialized, entries_grown}
use Rattle.spec_loading.specs.spec_execution.Activations.{Effect, GlobalGet, GlobalSet, TableGet, TableSet, TableSize, TableGrow, TableFill, TableCopy, TableInit, ElemDrop, Load, Store, MemorySize, MemoryGrow, MemoryCopy, MemoryFill, MemoryInit, DataDrop}
use Rattle.spec_loading.specs.spec_execution.Views.{View, Effected, performed, value_done, memory_done, memory_grown, table_done, table_grown}
use Rattle.spec_loading.specs.spec_execution.Views as effects
use Rattle.spec_loading.specs.spec_execution.Segments.{Performed, followed_by, all_performed}

-- what is so of something that is looked up first
pub looked : {A B : Type 0} (P : B → Type 0) (o : Option A) (f : A → Option B) → ((x : A) → o ≡ Some x → IfSome (f x) P) → IfSome (o >>= f) P
looked P None f all = tt
looked P (Some x) f all = all x refl

if_some : {B : Type 0} (P : B → Type 0) (b : Bool) (x : B) → P x → IfSome (if b then Some x else None) P
if_some P true x p = p
if_some P false x p = tt

-- ---- maxima

abbrev pub SameMost : TableInstance → TableInstance → Type 0
SameMost old new = new.max ≡ old.max

abbrev pub SameMax : MemoryInstance → MemoryInstance → Type 0
SameMax old new = new.max ≡ old.max

set_same : (table : TableInstance) (i : ℕ) (r : Option Ref) → IfSome (entry_set table i r) (SameMost table)
set_same table i r =
    if_some (SameMost table) (nat_lt i (length table.entries)) (record table { entries = slice_set table.entries i r }) refl

pub written_same : (table : TableInstance) (at : ℕ) (new : List (Option Ref)) → IfSome (entries_written table at new) (SameMost table)
written_same table at new =
    if_some (SameMost table) (nat_le (at + length new) (length table.entries))
    (record table { entries = entries_overwritten table.entries at new }) refl

initialized_same : (table : TableInstance) (to : ℕ) (items : List (Option Ref)) (from n : ℕ)
    → IfSome (entries_initialized table to items from n) (SameMost table)
initialized_same table to items from n =
    looked (SameMost table) (entries_at items from n) (entries_written table to) (λ new e. written_same table to new)

grown_same : (table : TableInstance) (delta : ℕ) (r : Option Ref) → IfSome (entries_grown table delta r) (SameMost table)
grown_same table delta r =
    if_some (SameMost table) (nat_le (length table.entries + delta) table.max)
    (record table { entries = table.entries ++ replicate delta r }) refl

bytes_same : (memory : MemoryInstance) (at : ℕ) (new : List ℕ) → IfSome (written memory at new) (SameMax memory)
bytes_same memory at new =
    if_some (SameMax memory) (nat_le (at + length new) (length memory.bytes)) (record memory { bytes = overwritten memory.bytes at new }) refl

copied_same : (memory : MemoryInstance) (to : ℕ) (bytes : List ℕ) (from n : ℕ) → IfSome (initialized memory to bytes from n) (SameMax memory)
copied_same memory to bytes from n = looked (SameMax memory) (bytes_at bytes from n) (written memory to) (λ new e. bytes_same memory to new)

larger_same : (memory : MemoryInstance) (delta : ℕ) → IfSome (grown memory delta) (SameMax memory)
larger_same memory delta =
    if_some (SameMax memory) (nat_le (pages memory + delta) memory.max)
    (record memory { bytes = memory.bytes ++ zeros (delta * page_size) }) refl

-- ---- effects

-- Each change of units keeps it, where a table that is set has its maximum, and so does a memory with the same maximum.
pub record Keeps {Units : Type 0} (V : View Units) (K : Units → MemoryInstance → Type 0) : Type 0 where
  pub global : (us : Units) (memory : MemoryInstance) (unit g : ℕ) (v : Value) → K us memory → K (V.set_global us unit g v) memory
  pub table : (us : Units) (memory : MemoryInstance) (unit t : ℕ) (old new : TableInstance) → V.table us unit t ≡ Some old → SameMost old new
      → K us memory → K (V.set_table us unit t new) memory
  pub elem : (us : Units) (memory : MemoryInstance) (unit e : ℕ) → K us memory → K (V.drop_elem us unit e) memory
  pub data_ : (us : Units) (memory : MemoryInstance) (unit d : ℕ) → K us memory → K (V.drop_data us unit d) memory
  pub memory : (us : Units) (old new : MemoryInstance) → SameMax old new → K us old → K us new

module _ {Units : Type 0} (V : View Units) (K : Units → MemoryInstance → Type 0) (keeps : Keeps V K) where
  abbrev pub KeptAfter : Effected Units → Type 0
  KeptAfter (effects.Gives values us memory) = K us memory
  KeptAfter (effects.Traps why) = Unit {0}

  value_kept : (us : Units) (memory : MemoryInstance) (o : Option Value) (why : Trap) → K us memory → KeptAfter (value_done us memory o why)
  value_kept us memory (Some v) why is = is
  value_kept us memory None why is = tt

  memory_kept : (us : Units) (old : MemoryInstance) (o : Option MemoryInstance) → K us old → IfSome o (SameMax old) → KeptAfter (memory_done us o)
  memory_kept us old (Some new) is same = keeps.memory us old new same is
  memory_kept us old None is same = tt

  memory_grown_kept : (us : Units) (old : MemoryInstance) (o : Option MemoryInstance) → K us old → IfSome o (SameMax old)
      → KeptAfter (memory_grown us old o)
  memory_grown_kept us old (Some larger) is same = keeps.memory us old larger same is
  memory_grown_kept us old None is same = is

  table_kept : (us : Units) (memory : MemoryInstance) (unit t : ℕ) (old : TableInstance) (o : Option TableInstance) → V.table us unit t ≡ Some old
      → K us memory → IfSome o (SameMost old) → KeptAfter (table_done V us memory unit t o)
  table_kept us memory unit t old (Some new) e is same = keeps.table us memory unit t old new e same is
  table_kept us memory unit t old None e is same = tt

  table_grown_kept : (us : Units) (memory : MemoryInstance) (unit t : ℕ) (old : TableInstance) (o : Option TableInstance) → V.table us unit t ≡ Some old
      → K us memory → IfSome o (SameMost old) → KeptAfter (table_grown V us memory unit t old o)
  table_grown_kept us memory unit t old (Some larger) e is same = keeps.table us memory unit t old larger e same is
  table_grown_kept us memory unit t old None e is same = is

  pub performed_kept : (us : Units) (memory : MemoryInstance) (unit : ℕ) → K us memory → (e : Effect) → IfSome (performed V us memory unit e) KeptAfter
  performed_kept us memory unit is (GlobalGet g) = looked KeptAfter (V.global us unit g) _ (λ v q. is)
  performed_kept us memory unit is (GlobalSet g v) = looked KeptAfter (V.global us unit g) _ (λ old q. keeps.global us memory unit g v is)
  performed_kept us memory unit is (TableGet t i) = looked KeptAfter (V.table us unit t) _ (λ table q. value_kept us memory _ _ is)
  performed_kept us memory unit is (TableSet t i r) =
      looked KeptAfter (V.table us unit t) _ (λ table q. table_kept us memory unit t table _ q is (set_same table i r))
  performed_kept us memory unit is (TableSize t) = looked KeptAfter (V.table us unit t) _ (λ table q. is)
  performed_kept us memory unit is (TableGrow t r n) =
      looked KeptAfter (V.table us unit t) _ (λ table q. table_grown_kept us memory unit t table _ q is (grown_same table n r))
  performed_kept us memory unit is (TableFill t i r n) =
      looked KeptAfter (V.table us unit t) _ (λ table q. table_kept us memory unit t table _ q is (written_same table i (replicate n r)))
  performed_kept us memory unit is (TableCopy t u to from n) =
      looked KeptAfter (V.table us unit t) _
      (λ table q. looked KeptAfter (V.table us unit u) _
      (λ other p. table_kept us memory unit t table _ q is (initialized_same table to other.entries from n)))
  performed_kept us memory unit is (TableInit e t to from n) =
      looked KeptAfter (V.table us unit t) _
      (λ table q. looked KeptAfter (V.elem us unit e) _ (λ items p. table_kept us memory unit t table _ q is (initialized_same table to items from n)))
  performed_kept us memory unit is (ElemDrop e) = looked KeptAfter (V.elem us unit e) _ (λ items q. keeps.elem us memory unit e is)
  performed_kept us memory unit is (Load op m offset at) = value_kept us memory _ _ is
  performed_kept us memory unit is (Store m offset at v) = memory_kept us memory _ is (bytes_same memory (at + offset) _)
  performed_kept us memory unit is MemorySize = is
  performed_kept us memory unit is (MemoryGrow n) = memory_grown_kept us memory _ is (larger_same memory n)
  performed_kept us memory unit is (MemoryCopy to from n) = memory_kept us memory _ is (copied_same memory to memory.bytes from n)
  performed_kept us memory unit is (MemoryFill to byte n) = memory_kept us memory _ is (bytes_same memory to (replicate n byte))
  performed_kept us memory unit is (MemoryInit d to from n) =
      looked KeptAfter (V.bytes us unit d) _ (λ bytes q. memory_kept us memory _ is (copied_same memory to bytes from n))
  performed_kept us memory unit is (DataDrop d) = looked KeptAfter (V.bytes us unit d) _ (λ bytes q. keeps.data_ us memory unit d is)

  -- ---- in order

  abbrev pub KeptPlaced : Performed Units → Type 0
  KeptPlaced p = K p.units p.memory

  followed_kept : (more : Units → MemoryInstance → Option (Performed Units)) → ((us : Units) (memory : MemoryInstance) → K us memory → IfSome (more us memory) KeptPlaced)
      → (us : Units) (memory : MemoryInstance) → K us memory → (o : Option (Effected Units)) → IfSome o KeptAfter
      → IfSome (o >>= followed_by more us memory) KeptPlaced
  followed_kept more all us memory is None after = tt
  followed_kept more all us memory is (Some (effects.Gives values us' memory')) after = all us' memory' after
  followed_kept more all us memory is (Some (effects.Traps why)) after = is

  pub all_kept : (unit : ℕ) (xs : List Effect) (us : Units) (memory : MemoryInstance) → K us memory → IfSome (all_performed V unit xs us memory) KeptPlaced
  all_kept unit [] us memory is = is
  all_kept unit (x ∷ xs) us memory is =
      followed_kept (all_performed V unit xs) (all_kept unit xs) us memory is (performed V us memory unit x) (performed_kept us memory unit is x)
