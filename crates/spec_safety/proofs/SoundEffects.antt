-- What a typed effect comes to: it is there, gives values of its types, and keeps what the units and the memory are.
use Rattle.std.proofs.Common.{◌≡◌, ℕ, ◌+◌, ◌*◌, ◌^◌, ◌<◌, ◌≤◌, List, [], ◌∷◌, ◌++◌, length, take, drop, replicate, Option, Some, None, Bool, true, false, refl, ap, ◌∙◌, slice_get, slice_set, nat_le, nat_lt, arith, if◌then◌else◌, length-set}
use Rattle.std.specs.Prelude.{IfSome}
use Rattle.std.proofs.lemmas.Bool.{leb-true}
use Rattle.std.proofs.lemmas.List.{length-append, length-take, length-drop, length-replicate}
use Rattle.std.proofs.lemmas.List.Elements.{All-append, All-take, All-drop, All-set, All-replicate}
use Rattle.spec_execution.specs.wasm_form.declared.types.ValType.{ValType}
use Rattle.spec_execution.specs.wasm_form.declared.types.ValType.TheVariants.{I32}
use Rattle.spec_execution.specs.wasm_form.declared.runtime.Ref.{Ref}
use Rattle.spec_execution.specs.wasm_form.declared.runtime.Trap.{Trap}
use Rattle.spec_execution.specs.wasm_form.declared.runtime.Trap.TheVariants as trap
use Rattle.spec_execution.specs.wasm_form.declared.access.MemoryAccess.{MemoryAccess}
use Rattle.spec_execution.specs.wasm_form.Access.{memory_access}
use Rattle.spec_execution.specs.spec_binary.Options.{◌>>=◌}
use Rattle.spec_execution.specs.spec_validation.Context.{Context}
use Rattle.spec_execution.specs.spec_runtime.Memories.{MemoryInstance, pages, little, loaded, stored, initialized, copied, filled, grown}
use Rattle.spec_execution.specs.spec_runtime.Tables.{TableInstance, entry_at, entry_set, entries_at, entries_overwritten, entries_written, entries_copied_from, entries_filled, entries_initialized, entries_grown}
use Rattle.spec_execution.specs.Activations.{Effect, GlobalGet, GlobalSet, TableGet, TableSet, TableSize, TableGrow, TableFill, TableCopy, TableInit, ElemDrop, Load, Store, MemorySize, MemoryGrow, MemoryCopy, MemoryFill, MemoryInit, DataDrop}
use Rattle.spec_execution.specs.Views.{View, Effected, Gives, Traps, access_length, load_extended, as_number, as_reference, value_done, memory_done, memory_grown, table_done, table_grown, performed}
use Rattle.spec_execution.specs.Values.{is_number}
use Rattle.spec_execution.specs.Ranges.{ReferenceExists, AllExist}
use Rattle.spec_execution.proofs.of_spec_binary.Lists.{holds_at}
use Rattle.spec_safety.specs.ValueTypes.{HaveTypes, IsMemory, IsTable}
use Rattle.spec_safety.specs.TypedViews.{HoldTypes, IsTypedView}
use Rattle.spec_safety.specs.TypedMoves.{IsTypedEffect}
use Rattle.spec_safety.proofs.OperatorTypes.{access_number}
use Rattle.spec_safety.proofs.Widths.{extended_fits}
use Rattle.spec_safety.proofs.ByteLists.{loaded_fits, little_bytes}
use Rattle.spec_safety.proofs.KeptMemories.{written_kept, initialized_kept, grown_kept}

module _ {Units : Type 0} (V : View Units) where
  -- ---- tables

  entries_length : (entries : List (Option Ref)) (at : ℕ) (new : List (Option Ref)) → at + length new ≤ length entries
      → length (entries_overwritten entries at new) ≡ length entries
  unfolding entries_overwritten
  entries_length entries at new le =
      let outer = length-append (take at entries) (new ++ drop (at + length new) entries) in
      let inner = length-append new (drop (at + length new) entries) in
      omega (arith, outer, inner, length-take at entries, length-drop (at + length new) entries)

  entries_over : (entries : List (Option Ref)) (at : ℕ) (new : List (Option Ref)) → AllExist V entries → AllExist V new
      → AllExist V (entries_overwritten entries at new)
  unfolding entries_overwritten
  entries_over entries at new h q =
      All-append (ReferenceExists V) (take at entries) (new ++ drop (at + length new) entries) (All-take (ReferenceExists V) at entries h)
      (All-append (ReferenceExists V) new (drop (at + length new) entries) q (All-drop (ReferenceExists V) (at + length new) entries h))

  table_as : (table : TableInstance) (entries : List (Option Ref)) → length entries ≡ length table.entries → AllExist V entries → IsTable V table
      → IsTable V (record table { entries = entries })
  table_as table entries same all is = record { entries = all; few = rw same is.few; most = is.most }

  pub entries_kept : (table : TableInstance) (at : ℕ) (new : List (Option Ref)) → IsTable V table → AllExist V new
      → IfSome (entries_written table at new) (IsTable V)
  entries_kept table at new is all = go (nat_le (at + length new) (length table.entries)) refl
    where
      go : (b : Bool) → nat_le (at + length new) (length table.entries) ≡ b
          → IfSome (if b then Some (record table { entries = entries_overwritten table.entries at new }) else None) (IsTable V)
      go true fits = table_as table (entries_overwritten table.entries at new)
          (entries_length table.entries at new (leb-true (at + length new) (length table.entries) fits))
          (entries_over table.entries at new is.entries all) is
      go false fits = tt

  taken_exist : (entries : List (Option Ref)) (at n : ℕ) → AllExist V entries → IfSome (entries_at entries at n) (AllExist V)
  taken_exist entries at n h = go (nat_le (at + n) (length entries))
    where
      go : (b : Bool) → IfSome (if b then Some (take n (drop at entries)) else None) (AllExist V)
      go true = All-take (ReferenceExists V) n (drop at entries) (All-drop (ReferenceExists V) at entries h)
      go false = tt

  items_kept : (table : TableInstance) (to : ℕ) (items : List (Option Ref)) (from n : ℕ) → IsTable V table → AllExist V items
      → IfSome (entries_initialized table to items from n) (IsTable V)
  items_kept table to items from n is all = go (entries_at items from n) (taken_exist items from n all)
    where
      go : (o : Option (List (Option Ref))) → IfSome o (AllExist V) → IfSome (o >>= entries_written table to) (IsTable V)
      go None h = tt
      go (Some new) h = entries_kept table to new is h

  entry_kept : (table : TableInstance) (i : ℕ) (r : Option Ref) → IsTable V table → ReferenceExists V r → IfSome (entry_set table i r) (IsTable V)
  entry_kept table i r is e = go (nat_lt i (length table.entries))
    where
      go : (b : Bool) → IfSome (if b then Some (record table { entries = slice_set table.entries i r }) else None) (IsTable V)
      go true = table_as table (slice_set table.entries i r) (length-set table.entries i r)
          (All-set (ReferenceExists V) table.entries i r e is.entries) is
      go false = tt

  larger_kept : (table : TableInstance) (n : ℕ) (r : Option Ref) → IsTable V table → ReferenceExists V r
      → IfSome (entries_grown table n r) (IsTable V)
  larger_kept table n r is e = go (nat_le (length table.entries + n) table.max) refl
    where
      go : (b : Bool) → nat_le (length table.entries + n) table.max ≡ b
          → IfSome (if b then Some (record table { entries = table.entries ++ replicate n r }) else None) (IsTable V)
      go true fits =
          let le = leb-true (length table.entries + n) table.max fits in
          let size = length-append table.entries (replicate n r) ∙ ap (λ k. length table.entries + k) (length-replicate n r) in
          record {
            entries = All-append (ReferenceExists V) table.entries (replicate n r) is.entries (All-replicate (ReferenceExists V) n r e);
            few = rw size le;
            most = is.most;
          }
      go false fits = tt

  -- ---- effects

  module _ (N : ℕ → Context) (Kept : Units → Type 0) (typed : IsTypedView V N Kept) where
    -- it gives values of these types, and keeps what there is, and the memory
    abbrev pub IsSoundEffected : List ValType → Effected Units → Type 0
    IsSoundEffected given (Gives values us memory) = HaveTypes V given values × Kept us × IsMemory memory
    IsSoundEffected given (Traps why) = Unit {0}

    -- it is there, and so is what holds of it
    abbrev pub IsThere : List ValType → Option (Effected Units) → Type 0
    IsThere given None = ⊥
    IsThere given (Some e) = IsSoundEffected given e

    module _ (us : Units) (memory : MemoryInstance) (kept : Kept us) (is : IsMemory memory) (unit : ℕ) where
      holds : HoldTypes V N us
      holds = typed.holds us kept

      memory_ok : (o : Option MemoryInstance) → IfSome o IsMemory → IsSoundEffected [] (memory_done us o)
      memory_ok None h = tt
      memory_ok (Some new) h = (tt, kept, h)

      -- a size that is told is a number of 32 bits
      pages_fit : pages memory < 2 ^ 32
      pages_fit =
          let few = is.few in
          let most = is.most in
          omega arith

      grown_ok : (o : Option MemoryInstance) → IfSome o IsMemory → IsSoundEffected (I32 ∷ []) (memory_grown us memory o)
      grown_ok None h = (((refl, omega arith), tt), kept, is)
      grown_ok (Some new) h = (((refl, pages_fit), tt), kept, h)

      entries_fit : (table : TableInstance) → IsTable V table → length table.entries < 2 ^ 32
      entries_fit table t =
          let few = t.few in
          let most = t.most in
          omega arith

      -- what a load gives
      load_ok : (op : ℕ) (m : MemoryAccess) (o : Option ℕ) (why : Trap) → memory_access op ≡ Some m
          → ((n : ℕ) → o ≡ Some n → n < 2 ^ (8 * access_length m))
          → IsSoundEffected (m.value ∷ []) (value_done us memory (as_number (o >>= λ n. Some (load_extended op m n))) why)
      load_ok op m None why e fits = tt
      load_ok op m (Some n) why e fits = (((access_number op m e, extended_fits op m n e (fits n refl)), tt), kept, is)

      entry_ok : (t : ValType) (o : Option (Option Ref)) → is_number t ≡ false → ((r : Option Ref) → o ≡ Some r → ReferenceExists V r)
          → IsSoundEffected (t ∷ []) (value_done us memory (as_reference o) trap.TableBounds)
      entry_ok t None e h = tt
      entry_ok t (Some r) e h = (((e, h r refl), tt), kept, is)

      table_ok : (t : ℕ) (ty : ValType) → (N unit).tables t ≡ Some ty → (o : Option TableInstance) → IfSome o (IsTable V)
          → IsSoundEffected [] (table_done V us memory unit t o)
      table_ok t ty e None h = tt
      table_ok t ty e (Some x) h = (tt, typed.set_table us unit t ty x kept e h, is)

      larger_ok : (t : ℕ) (ty : ValType) → (N unit).tables t ≡ Some ty → (table : TableInstance) (o : Option TableInstance) → IsTable V table
          → IfSome o (IsTable V) → IsSoundEffected (I32 ∷ []) (table_grown V us memory unit t table o)
      larger_ok t ty e table None old h = (((refl, omega arith), tt), kept, is)
      larger_ok t ty e table (Some x) old h = (((refl, entries_fit table old), tt), typed.set_table us unit t ty x kept e h, is)

      entry_exists : (entries : List (Option Ref)) (i : ℕ) → AllExist V entries → (r : Option Ref) → slice_get entries i ≡ Some r
          → ReferenceExists V r
      entry_exists entries i all r e = holds_at (ReferenceExists V) entries i r all e

      pub performed_ok : (effect : Effect) (given : List ValType) → IsTypedEffect V (N unit) effect given
          → IsThere given (performed V us memory unit effect)
      performed_ok (GlobalGet g) given x =
          let v = holds.globals unit g x.0 x.1 in
          rw (x.2, v.1) ((v.2, tt), kept, is)
      performed_ok (GlobalSet g v) given x =
          let old = holds.globals unit g x.0 x.1 in
          rw (x.3, old.1) (tt, typed.set_global us unit g x.0 v kept x.1 x.2, is)
      performed_ok (TableGet t i) given x =
          let table = holds.tables unit t x.0 x.1 in
          rw (x.2, table.1) (entry_ok x.0 (entry_at table.0 i) (typed.tables unit t x.0 x.1)
          (λ r e. entry_exists table.0.entries i table.2.entries r e))
      performed_ok (TableSet t i r) given x =
          let table = holds.tables unit t x.0 x.1 in
          rw (x.3, table.1) (table_ok t x.0 x.1 (entry_set table.0 i r) (entry_kept table.0 i r table.2 x.2))
      performed_ok (TableSize t) given x =
          let table = holds.tables unit t x.0 x.1 in
          rw (x.2, table.1) (((refl, entries_fit table.0 table.2), tt), kept, is)
      performed_ok (TableGrow t r n) given x =
          let table = holds.tables unit t x.0 x.1 in
          rw (x.3, table.1) (larger_ok t x.0 x.1 table.0 (entries_grown table.0 n r) table.2 (larger_kept table.0 n r table.2 x.2))
      performed_ok (TableFill t i r n) given x =
          let table = holds.tables unit t x.0 x.1 in
          rw (x.3, table.1) (table_ok t x.0 x.1 (entries_filled table.0 i r n)
          (entries_kept table.0 i (replicate n r) table.2 (All-replicate (ReferenceExists V) n r x.2)))
      performed_ok (TableCopy t u to from n) given x =
          let table = holds.tables unit t x.0 x.2 in
          let other = holds.tables unit u x.1 x.3 in
          rw (x.4, table.1, other.1)
          (table_ok t x.0 x.2 (entries_copied_from table.0 to other.0 from n)
          (items_kept table.0 to other.0.entries from n table.2 other.2.entries))
      performed_ok (TableInit e t to from n) given x =
          let items = holds.elems unit e x.0 x.2 in
          let table = holds.tables unit t x.1 x.3 in
          rw (x.4, table.1, items.1)
          (table_ok t x.1 x.3 (entries_initialized table.0 to items.0 from n) (items_kept table.0 to items.0 from n table.2 items.2))
      performed_ok (ElemDrop e) given x =
          let items = holds.elems unit e x.0 x.1 in
          rw (x.2, items.1) (tt, typed.drop_elem us unit e x.0 kept x.1, is)
      performed_ok (Load op m offset at) given x =
          rw x.2 (load_ok op m (loaded memory at offset (access_length m)) trap.MemoryBounds x.0
          (λ n e. loaded_fits memory at offset (access_length m) n is.bytes e))
      performed_ok (Store m offset at v) given x = rw x
          (memory_ok (stored memory at offset (access_length m) v)
          (written_kept memory (at + offset) (little (access_length m) v) is (little_bytes (access_length m) v)))
      performed_ok MemorySize given x = rw x (((refl, pages_fit), tt), kept, is)
      performed_ok (MemoryGrow n) given x = rw x (grown_ok (grown memory n) (grown_kept memory n is))
      performed_ok (MemoryCopy to from n) given x = rw x
          (memory_ok (copied memory to from n) (initialized_kept memory to memory.bytes from n is is.bytes))
      performed_ok (MemoryFill to byte n) given x = rw x.1
          (memory_ok (filled memory to byte n) (written_kept memory to (replicate n byte) is (All-replicate (λ b. b < 256) n byte x.0)))
      performed_ok (MemoryInit d to from n) given x =
          let bytes = holds.datas unit d x.0 in
          rw (x.1, bytes.1) (memory_ok (initialized memory to bytes.0 from n) (initialized_kept memory to bytes.0 from n is bytes.2))
      performed_ok (DataDrop d) given x =
          let bytes = holds.datas unit d x.0 in
          rw (x.1, bytes.1) (tt, typed.drop_data us unit d kept x.0, is)
