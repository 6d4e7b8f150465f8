-- A memory that ends before the last address stays one: a step writes to it, or grows it up to its most pages.
use Rattle.std.proofs.Common.{◌≡◌, ℕ, ◌+◌, ◌*◌, ◌<◌, ◌≤◌, ◌^◌, List, [], ◌∷◌, ◌++◌, length, take, drop, replicate, reverse, nat_le, nat_lt, map, Option, Some, None, IfSome, Bool, true, false, if◌then◌else◌, refl, ◌∙◌, arith, IsTrue}
use Rattle.std.proofs.lemmas.Bool.{and_parts, leb-true}
use Rattle.std.proofs.lemmas.List.{length-append, length-replicate, length-take, length-drop}
use Rattle.spec_loading.specs.wasm_form.declared.types.FuncType.{FuncType}
use Rattle.spec_loading.specs.wasm_form.declared.runtime.Ref.{Ref}
use Rattle.spec_loading.specs.wasm_form.declared.runtime.Ref.TheVariants.{Own, Loader, Host, Stub}
use Rattle.spec_loading.specs.wasm_form.declared.runtime.Trap.{Trap}
use Rattle.spec_loading.specs.wasm_form.declared.runtime.Trap.TheVariants as trap
use Rattle.spec_loading.specs.wasm_form.declared.module.Module.{Module}
use Rattle.spec_loading.specs.wasm_form.declared.runtime.Value.{Value}
use Rattle.spec_loading.specs.wasm_form.declared.runtime.Write.{Write}
use Rattle.spec_loading.specs.spec_runs.Systems.{only_if, Waits}
use Rattle.spec_loading.specs.spec_binary.Options.{◌>>=◌}
use Rattle.spec_loading.specs.spec_binary.SameTypes.{same_function_type}
use Rattle.spec_loading.specs.spec_runtime.Memories.{MemoryInstance, page_size, zeros, overwritten, written, bytes_at, initialized, pages, grown}
use Rattle.spec_loading.specs.spec_runtime.Tables.{TableInstance, entry_at, entries_written}
use Rattle.spec_loading.specs.spec_runtime.Names.{HostName}
use Rattle.spec_loading.specs.spec_runtime.Hosts.{numbers_fit, writes_fit, all_written}
use Rattle.spec_loading.specs.spec_execution.Values.{take_values}
use Rattle.spec_loading.specs.spec_execution.Activations.{Activation, Effect, GlobalGet, GlobalSet, TableGet, TableSet, TableSize, TableGrow, TableFill, TableCopy, TableInit, ElemDrop, Load, Store, MemorySize, MemoryGrow, MemoryCopy, MemoryFill, MemoryInit, DataDrop, Move, On, Calls, CallsEntry, Refers, Does, Leaves, Fails, Stuck, move}
use Rattle.spec_loading.specs.spec_execution.Views.{View, type_of, Effected, performed, value_done, memory_done, memory_grown, table_done, table_grown}
use Rattle.spec_loading.specs.spec_execution.Views as effects
use Rattle.spec_loading.specs.spec_execution.Segments.{Performed, followed_by, all_performed, segment_effects}
use Rattle.spec_loading.specs.spec_execution.Runs.{Frame, Caller, Next, Goes, Asks, Loads, Ends, Traps, call, calling, call_entry, left_with, effected_with, carried_out, stands}
use Rattle.spec_loading.specs.spec_execution.Runs as frames
use Rattle.spec_loading.specs.spec_linking.LinkedSets.{LinkedSet, wasm_of}
use Rattle.spec_loading.specs.spec_linking.Slots.{member_number}
use Rattle.spec_loading.specs.declared.task.Phase.{Phase}
use Rattle.spec_loading.specs.declared.task.Phase.TheVariants.{Place, Start, Relocate, Construct}
use Rattle.spec_loading.specs.declared.task.Task.{Task}
use Rattle.spec_loading.specs.declared.task.After.{After}
use Rattle.spec_loading.specs.declared.task.After.TheVariants.{CallEntry, GiveHandle, GiveAndPromote}
use Rattle.spec_loading.specs.Phases.{LoaderFrame, stage_of}
use Rattle.spec_loading.specs.Loading.{Loading, LoadedState, with_run, goes_on, stage_in, comes_by_itself, LoaderAnswer, Comes, comes_to, call_next, ended_by, place_next, work_next, raised, task_next, after_next, frame_next, loaded_next, answered, went, came_to, loaded_step}
use Rattle.spec_loading.specs.Loading as loading
use Rattle.spec_loading.specs.Members.{Store as Parts, set_view, shared_table}
use Rattle.spec_loading.specs.LoadedSet.{own_functions, first_slot, with_slots, slots_written, slots_after, member_placed, set_loading}
use Rattle.merge_match.specs.Bounded.{IsBounded}
use Rattle.merge_match.specs.Matching.{StepsKeep}

-- ---- memories

-- an address in a bounded memory has a next one
pub bounded_ends : (memory : MemoryInstance) → IsBounded memory → length memory.bytes < 2 ^ 32
bounded_ends memory is = (let most = is.most in let within = is.within in omega (arith, most, within))

overwritten_length : (bytes : List ℕ) (at : ℕ) (new : List ℕ) → at + length new ≤ length bytes → length (overwritten bytes at new) ≡ length bytes
unfolding overwritten
overwritten_length bytes at new le =
    let outer = length-append (take at bytes) (new ++ drop (at + length new) bytes) in
    let inner = length-append new (drop (at + length new) bytes) in
    omega (arith, outer, inner, length-take at bytes, length-drop (at + length new) bytes)

bounded_as : (memory : MemoryInstance) (bytes : List ℕ) → length bytes ≡ length memory.bytes → IsBounded memory → IsBounded (record memory { bytes = bytes })
bounded_as memory bytes same is = record { most = is.most; within = rw same is.within }

overwritten_bounded : (memory : MemoryInstance) (at : ℕ) (new : List ℕ) → nat_le (at + length new) (length memory.bytes) ≡ true → IsBounded memory
    → IsBounded (record memory { bytes = overwritten memory.bytes at new })
overwritten_bounded memory at new fits is =
    bounded_as memory (overwritten memory.bytes at new)
    (overwritten_length memory.bytes at new (leb-true (at + length new) (length memory.bytes) fits)) is

written_bounded : (memory : MemoryInstance) (at : ℕ) (new : List ℕ) → IsBounded memory → IfSome (written memory at new) IsBounded
written_bounded memory at new is = go (nat_le (at + length new) (length memory.bytes)) refl
  where
    go : (b : Bool) → nat_le (at + length new) (length memory.bytes) ≡ b
        → IfSome (if b then Some (record memory { bytes = overwritten memory.bytes at new }) else None) IsBounded
    go true fits = overwritten_bounded memory at new fits is
    go false fits = tt

zeros_length : (n : ℕ) → length (zeros n) ≡ n
unfolding zeros
zeros_length n = length-replicate n 0

grown_bounded : (memory : MemoryInstance) (delta : ℕ) → IsBounded memory → IfSome (grown memory delta) IsBounded
grown_bounded memory delta is = go (nat_le (pages memory + delta) memory.max) refl
  where
    larger : nat_le (pages memory + delta) memory.max ≡ true → IsBounded (record memory { bytes = memory.bytes ++ zeros (delta * page_size) })
    larger fits =
        let le = leb-true (pages memory + delta) memory.max fits in
        let all = length-append memory.bytes (zeros (delta * page_size)) in
        let added = zeros_length (delta * page_size) in
        record { most = is.most; within = omega (arith, le, all, added) }

    go : (b : Bool) → nat_le (pages memory + delta) memory.max ≡ b
        → IfSome (if b then Some (record memory { bytes = memory.bytes ++ zeros (delta * page_size) }) else None) IsBounded
    go true fits = larger fits
    go false fits = tt

-- ---- effects

module _ {Units : Type 0} (V : View Units) where
  -- what is so of something that is looked up first
  looked : {A B : Type 0} (P : B → Type 0) (o : Option A) (f : A → Option B) → ((x : A) → IfSome (f x) P) → IfSome (o >>= f) P
  looked P None f all = tt
  looked P (Some x) f all = all x

  abbrev BoundedAfter : Effected Units → Type 0
  BoundedAfter (effects.Gives values us memory) = IsBounded memory
  BoundedAfter (effects.Traps why) = Unit {0}

  value_bounded : (us : Units) (memory : MemoryInstance) (o : Option Value) (why : Trap) → IsBounded memory → BoundedAfter (value_done us memory o why)
  value_bounded us memory (Some v) why is = is
  value_bounded us memory None why is = tt

  memory_bounded : (us : Units) (o : Option MemoryInstance) → IfSome o IsBounded → BoundedAfter (memory_done us o)
  memory_bounded us (Some memory) is = is
  memory_bounded us None is = tt

  memory_grown_bounded : (us : Units) (memory : MemoryInstance) (o : Option MemoryInstance) → IsBounded memory → IfSome o IsBounded
      → BoundedAfter (memory_grown us memory o)
  memory_grown_bounded us memory (Some larger) is after = after
  memory_grown_bounded us memory None is after = is

  table_bounded : (us : Units) (memory : MemoryInstance) (unit t : ℕ) (o : Option TableInstance) → IsBounded memory
      → BoundedAfter (table_done V us memory unit t o)
  table_bounded us memory unit t (Some table) is = is
  table_bounded us memory unit t None is = tt

  table_grown_bounded : (us : Units) (memory : MemoryInstance) (unit t : ℕ) (table : TableInstance) (o : Option TableInstance)
      → IsBounded memory → BoundedAfter (table_grown V us memory unit t table o)
  table_grown_bounded us memory unit t table (Some larger) is = is
  table_grown_bounded us memory unit t table None is = is

  initialized_bounded : (memory : MemoryInstance) (to : ℕ) (bytes : List ℕ) (from n : ℕ) → IsBounded memory
      → IfSome (initialized memory to bytes from n) IsBounded
  initialized_bounded memory to bytes from n is = looked IsBounded (bytes_at bytes from n) (written memory to) (λ new. written_bounded memory to new is)

  pub performed_bounded : (us : Units) (memory : MemoryInstance) (unit : ℕ) → IsBounded memory → (e : Effect)
      → IfSome (performed V us memory unit e) BoundedAfter
  performed_bounded us memory unit is (GlobalGet g) = looked BoundedAfter (V.global us unit g) _ (λ v. is)
  performed_bounded us memory unit is (GlobalSet g v) = looked BoundedAfter (V.global us unit g) _ (λ old. is)
  performed_bounded us memory unit is (TableGet t i) = looked BoundedAfter (V.table us unit t) _ (λ table. value_bounded us memory _ _ is)
  performed_bounded us memory unit is (TableSet t i r) = looked BoundedAfter (V.table us unit t) _ (λ table. table_bounded us memory unit t _ is)
  performed_bounded us memory unit is (TableSize t) = looked BoundedAfter (V.table us unit t) _ (λ table. is)
  performed_bounded us memory unit is (TableGrow t r n) =
      looked BoundedAfter (V.table us unit t) _ (λ table. table_grown_bounded us memory unit t table _ is)
  performed_bounded us memory unit is (TableFill t i r n) = looked BoundedAfter (V.table us unit t) _ (λ table. table_bounded us memory unit t _ is)
  performed_bounded us memory unit is (TableCopy t u to from n) =
      looked BoundedAfter (V.table us unit t) _ (λ table. looked BoundedAfter (V.table us unit u) _ (λ other. table_bounded us memory unit t _ is))
  performed_bounded us memory unit is (TableInit e t to from n) =
      looked BoundedAfter (V.table us unit t) _ (λ table. looked BoundedAfter (V.elem us unit e) _ (λ items. table_bounded us memory unit t _ is))
  performed_bounded us memory unit is (ElemDrop e) = looked BoundedAfter (V.elem us unit e) _ (λ items. is)
  performed_bounded us memory unit is (Load op m offset at) = value_bounded us memory _ _ is
  performed_bounded us memory unit is (Store m offset at v) = memory_bounded us _ (written_bounded memory (at + offset) _ is)
  performed_bounded us memory unit is MemorySize = is
  performed_bounded us memory unit is (MemoryGrow n) = memory_grown_bounded us memory _ is (grown_bounded memory n is)
  performed_bounded us memory unit is (MemoryCopy to from n) = memory_bounded us _ (initialized_bounded memory to memory.bytes from n is)
  performed_bounded us memory unit is (MemoryFill to byte n) = memory_bounded us _ (written_bounded memory to (replicate n byte) is)
  performed_bounded us memory unit is (MemoryInit d to from n) =
      looked BoundedAfter (V.bytes us unit d) _ (λ bytes. memory_bounded us _ (initialized_bounded memory to bytes from n is))
  performed_bounded us memory unit is (DataDrop d) = looked BoundedAfter (V.bytes us unit d) _ (λ bytes. is)

  -- effects in order
  abbrev PlacedBounded : Performed Units → Type 0
  PlacedBounded p = IsBounded p.memory

  followed_bounded : (more : Units → MemoryInstance → Option (Performed Units))
      → ((us : Units) (memory : MemoryInstance) → IsBounded memory → IfSome (more us memory) PlacedBounded) → (us : Units)
      (memory : MemoryInstance) → IsBounded memory → (o : Option (Effected Units)) → IfSome o BoundedAfter
      → IfSome (o >>= followed_by more us memory) PlacedBounded
  followed_bounded more all us memory is None after = tt
  followed_bounded more all us memory is (Some (effects.Gives values us' memory')) after = all us' memory' after
  followed_bounded more all us memory is (Some (effects.Traps why)) after = is

  pub all_bounded : (unit : ℕ) (xs : List Effect) (us : Units) (memory : MemoryInstance) → IsBounded memory
      → IfSome (all_performed V unit xs us memory) PlacedBounded
  all_bounded unit [] us memory is = is
  all_bounded unit (x ∷ xs) us memory is =
      followed_bounded (all_performed V unit xs) (all_bounded unit xs) us memory is (performed V us memory unit x)
      (performed_bounded us memory unit is x)

  -- ---- calls and moves

  module _ {Mark : Type 0} where
    abbrev BoundedNext : Next Units Mark → Type 0
    BoundedNext (Goes us memory fs) = IsBounded memory
    BoundedNext (Asks e args fs) = Unit {0}
    BoundedNext (Loads which args fs) = Unit {0}
    BoundedNext Ends = Unit {0}
    BoundedNext (Traps why) = Unit {0}

    pub call_bounded : (us : Units) (memory : MemoryInstance) → IsBounded memory → (caller : Caller Mark) (values : List Value) (r : Ref)
        → IfSome (call V us memory caller values r) BoundedNext
    call_bounded us memory is caller values (Own unit f) =
        looked BoundedNext (V.code unit f) _ (λ x. looked BoundedNext (take_values (reverse x.ty.params) values) _ (λ p. is))
    call_bounded us memory is caller values (Host e) = looked BoundedNext (V.host e) _ (λ ty. looked BoundedNext (take_values (reverse ty.params) values) _ (λ p. tt))
    call_bounded us memory is caller values (Loader which) =
        looked BoundedNext (only_if V.has_loader _) _ (λ ty. looked BoundedNext (take_values (reverse ty.params) values) _ (λ p. tt))
    call_bounded us memory is caller values (Stub unit f) =
        looked BoundedNext (V.stub unit f) _ (λ ty. looked BoundedNext (take_values (reverse ty.params) values) _ (λ p. tt))

    module _ (us : Units) (memory : MemoryInstance) (is : IsBounded memory) (fs : List (Frame Mark)) where
      entry_bounded : (a : Activation) (ty : FuncType) (o : Option (Option Ref)) → IfSome (call_entry V us memory fs a ty o) BoundedNext
      entry_bounded a ty None = tt
      entry_bounded a ty (Some None) = tt
      entry_bounded a ty (Some (Some r)) = looked BoundedNext (type_of V r) _ (λ found. go (same_function_type found ty))
        where
          go : (b : Bool) → IfSome (if b then call V us memory (calling a fs) a.values r else Some (Traps trap.WrongType)) BoundedNext
          go true = call_bounded us memory is (calling a fs) a.values r
          go false = tt

      left_bounded : (values : List Value) (gs : List (Frame Mark)) → BoundedNext (left_with us memory values gs)
      left_bounded values [] = tt
      left_bounded values (g ∷ gs) = is

      effected_bounded : (a : Activation) (e : Effected Units) → BoundedAfter e → BoundedNext (effected_with fs a e)
      effected_bounded a (effects.Gives values us' memory') after = after
      effected_bounded a (effects.Traps why) after = tt

      does_bounded : (a : Activation) (o : Option (Effected Units)) → IfSome o BoundedAfter
          → IfSome (o >>= λ e. Some (effected_with fs a e)) BoundedNext
      does_bounded a None after = tt
      does_bounded a (Some e) after = effected_bounded a e after

      pub carried_bounded : (x : Move) → IfSome (carried_out V us memory fs x) BoundedNext
      carried_bounded (On a) = is
      carried_bounded (Calls f a) = looked BoundedNext (V.target a.unit f) _ (λ r. call_bounded us memory is (calling a fs) a.values r)
      carried_bounded (CallsEntry t ty i a) =
          looked BoundedNext (V.table us a.unit t) _ (λ table. looked BoundedNext (V.declared a.unit ty) _ (λ f. entry_bounded a f (entry_at table i)))
      carried_bounded (Refers f a) = looked BoundedNext (V.target a.unit f) _ (λ r. is)
      carried_bounded (Does e a) = does_bounded a (performed V us memory a.unit e) (performed_bounded us memory a.unit is e)
      carried_bounded (Leaves values) = left_bounded values fs
      carried_bounded (Fails why) = tt
      carried_bounded Stuck = tt

-- ---- the loaded run

module _ {Units : Type 0} (D : Loading Units) (placed : (m : ℕ) (us : Units) (memory : MemoryInstance) → IsBounded memory
    → IfSome (D.placed m us memory) (λ p. IsBounded p.memory)) where
  abbrev StateBounded : LoadedState Units → Type 0
  StateBounded s = IsBounded s.run.memory

  abbrev V : View Units
  V = D.view

  answered_bounded : (s : LoadedState Units) → StateBounded s → (under : List (Frame LoaderFrame)) (x : LoaderAnswer) → StateBounded (answered s under x)
  answered_bounded s is [] (loading.Gives n loader) = is
  answered_bounded s is (f ∷ fs) (loading.Gives n loader) = is
  answered_bounded s is under (loading.Traps why) = is
  answered_bounded s is under (loading.Opens frame) = is

  went_bounded : (s : LoadedState Units) → StateBounded s → (x : Next Units LoaderFrame) → BoundedNext V x → IfSome (went D s x) StateBounded
  went_bounded s is (Goes us memory fs) after = after
  went_bounded s is (Asks e args fs) after = go (D.names e)
    where
      go : (o : Option HostName)
          → IfSome ((o >>= λ h. Some (stands s.run fs (Waits (record { host = h; args = args })))) >>= λ run. Some (with_run s run)) StateBounded
      go None = tt
      go (Some h) = is
  went_bounded s is (Loads which args under) after =
      looked V StateBounded (D.answer which args s.run.memory s.loader) _ (λ x. answered_bounded s is under x)
  went_bounded s is Ends after = is
  went_bounded s is (Traps why) after = is

  -- what a step comes to, with the state over which it does
  abbrev ComesBounded : Comes Units → Type 0
  ComesBounded c = StateBounded c.state × IfSome c.next (BoundedNext V)

  comes_bounded : (s : LoadedState Units) → StateBounded s → (o : Option (Next Units LoaderFrame)) → IfSome o (BoundedNext V)
      → IfSome (comes_to s o) ComesBounded
  comes_bounded s is None after = tt
  comes_bounded s is (Some x) after = (is, after)

  call_next_bounded : (s : LoadedState Units) → StateBounded s → (fs : List (Frame LoaderFrame)) (r : Option Ref)
      → IfSome (call_next D s fs r) ComesBounded
  call_next_bounded s is fs None = (is, tt)
  call_next_bounded s is fs (Some r) = comes_bounded s is _ (call_bounded V s.run.units s.run.memory is (λ values. fs) [] r)

  ended_bounded : (s : LoadedState Units) → StateBounded s → (fs : List (Frame LoaderFrame)) (o : Option Trap) → StateBounded (ended_by s fs o)
  ended_bounded s is fs None = is
  ended_bounded s is fs (Some why) = is

  place_bounded : (s : LoadedState Units) (fs : List (Frame LoaderFrame)) (o : Option (Performed Units)) → IfSome o (λ p. IsBounded p.memory)
      → IfSome (o >>= place_next s fs) ComesBounded
  place_bounded s fs None after = tt
  place_bounded s fs (Some p) after = (ended_bounded (with_run s (record s.run { units = p.units; memory = p.memory })) after fs p.trap, tt)

  work_bounded : (s : LoadedState Units) → StateBounded s → (fs : List (Frame LoaderFrame)) (phase : Phase) (m : ℕ)
      → IfSome (work_next D s fs phase m) ComesBounded
  work_bounded s is fs Place m = place_bounded s fs (D.placed m s.run.units s.run.memory) (placed m s.run.units s.run.memory is)
  work_bounded s is fs Start m = looked V ComesBounded (D.callee Start m) _ (call_next_bounded s is fs)
  work_bounded s is fs Relocate m = looked V ComesBounded (D.callee Relocate m) _ (call_next_bounded s is fs)
  work_bounded s is fs Construct m = looked V ComesBounded (D.callee Construct m) _ (call_next_bounded s is fs)

  task_bounded : (s : LoadedState Units) → StateBounded s → (fs : List (Frame LoaderFrame)) (task : Task) → IfSome (task_next D s fs task) ComesBounded
  task_bounded s is fs task = looked V ComesBounded (stage_in s.loader task.member) _ (λ stage. go (nat_lt stage (stage_of task.phase)))
    where
      go : (b : Bool) → IfSome (if b then work_next D (raised s task.member (stage_of task.phase)) fs task.phase task.member
          else comes_by_itself (goes_on s fs)) ComesBounded
      go true = work_bounded (raised s task.member (stage_of task.phase)) is fs task.phase task.member
      go false = (is, tt)

  after_bounded : (s : LoadedState Units) → StateBounded s → (under : List (Frame LoaderFrame)) (after : After) → IfSome (after_next D s under after) ComesBounded
  after_bounded s is under CallEntry = looked V ComesBounded D.entry _ (λ r. call_next_bounded s is under (Some r))
  after_bounded s is [] (GiveHandle m) = (is, tt)
  after_bounded s is (f ∷ fs) (GiveHandle m) = (is, tt)
  after_bounded s is [] (GiveAndPromote m) = (is, tt)
  after_bounded s is (f ∷ fs) (GiveAndPromote m) = (is, tt)

  frame_bounded : (s : LoadedState Units) → StateBounded s → (under : List (Frame LoaderFrame)) (after : After) (tasks : List Task)
      → IfSome (frame_next D s under after tasks) ComesBounded
  frame_bounded s is under after [] = after_bounded s is under after
  frame_bounded s is under after (task ∷ tasks) = task_bounded s is (frames.Marked (record { tasks = tasks; after = after }) ∷ under) task

  next_bounded : (s : LoadedState Units) → StateBounded s → (stack : List (Frame LoaderFrame)) → IfSome (loaded_next D s stack) ComesBounded
  next_bounded s is [] = tt
  next_bounded s is (frames.Active a ∷ under) =
      comes_bounded s is _ (carried_bounded V s.run.units s.run.memory is under (move (D.view.declared a.unit) a))
  next_bounded s is (frames.Marked frame ∷ under) = frame_bounded s is under frame.after frame.tasks

  came_bounded : (s : LoadedState Units) → StateBounded s → (o : Option (Next Units LoaderFrame)) → IfSome o (BoundedNext V)
      → IfSome (came_to D s o) StateBounded
  came_bounded s is None after = is
  came_bounded s is (Some x) after = went_bounded s is x after

  from_bounded : (o : Option (Comes Units)) → IfSome o ComesBounded → IfSome (o >>= λ c. came_to D c.state c.next) StateBounded
  from_bounded None after = tt
  from_bounded (Some c) after = came_bounded c.state after.0 c.next after.1

  -- ---- answers

  -- they lie inside the memory as it is before the first of them
  writes_bounded : (memory : MemoryInstance) (writes : List Write) (now : MemoryInstance) → length now.bytes ≡ length memory.bytes
      → IsTrue (writes_fit writes memory) → IsBounded now → IsBounded (all_written writes now)
  writes_bounded memory [] now same fit is = is
  writes_bounded memory (w ∷ ws) now same fit is =
      let both = and_parts (nat_le (w.at + length w.bytes) (length memory.bytes)) (writes_fit ws memory) fit in
      let here : nat_le (w.at + length w.bytes) (length now.bytes) ≡ true = rw same both.0 in
      let sized = overwritten_length now.bytes w.at w.bytes (leb-true (w.at + length w.bytes) (length now.bytes) here) in
      writes_bounded memory ws (record now { bytes = overwritten now.bytes w.at w.bytes }) (sized ∙ same) both.1
      (overwritten_bounded now w.at w.bytes here is)

  of_step : (o : Option (LoadedState Units)) → IfSome o StateBounded → (s : LoadedState Units) → o ≡ Some s → StateBounded s
  of_step o all s e = rw e at all

  -- each step and each answer keeps it, where placing does
  pub bounded_kept : StepsKeep IsBounded D
  bounded_kept = record {
    steps = λ s s' is e. of_step (loaded_step D s) (from_bounded (loaded_next D s s.run.stack) (next_bounded s is s.run.stack)) s' e;
    answers = λ memory asked results writes is fits. writes_bounded memory writes memory refl
        (and_parts (numbers_fit asked.host.ty.results results) (writes_fit writes memory) fits).1 is;
  }

-- ---- a linked set

module _ (L : LinkedSet) where
  slots_bounded : (m : ℕ) (us : Parts) (memory : MemoryInstance) → IsBounded memory → IfSome (slots_written L m us memory) (λ p. IsBounded p.memory)
  slots_bounded m us memory is = go (shared_table us)
    where
      with_bounded : (o : Option TableInstance) → IsBounded (with_slots us memory o).memory
      with_bounded None = is
      with_bounded (Some table) = is

      go : (o : Option TableInstance)
          → IfSome (o >>= λ table. Some (with_slots us memory (entries_written table (first_slot L m) (map Some (own_functions L m))))) (λ p. IsBounded p.memory)
      go None = tt
      go (Some table) = with_bounded (entries_written table (first_slot L m) (map Some (own_functions L m)))

  after_bounded_of : (m : ℕ) (p : Performed Parts) → IsBounded p.memory → (o : Option Trap) → IfSome (slots_after L m p o) (λ q. IsBounded q.memory)
  after_bounded_of m p is None = slots_bounded m p.units p.memory is
  after_bounded_of m p is (Some why) = is

  pub placed_bounded : (m : ℕ) (us : Parts) (memory : MemoryInstance) → IsBounded memory → IfSome (member_placed L m us memory) (λ p. IsBounded p.memory)
  placed_bounded m us memory is = go (wasm_of L m)
    where
      all_placed : (o : Option (Performed Parts)) → IfSome o (λ p. IsBounded p.memory) → IfSome (o >>= λ p. slots_after L m p p.trap) (λ q. IsBounded q.memory)
      all_placed None after = tt
      all_placed (Some p) after = after_bounded_of m p after p.trap

      go : (o : Option Module)
          → IfSome (o >>= λ wasm. all_performed (set_view L) m (segment_effects (member_number L m) wasm) us memory >>= λ p. slots_after L m p p.trap) (λ q. IsBounded q.memory)
      go None = tt
      go (Some wasm) = all_placed _ (all_bounded (set_view L) m (segment_effects (member_number L m) wasm) us memory is)

  pub set_bounded : StepsKeep IsBounded (set_loading L)
  set_bounded = bounded_kept (set_loading L) (placed_bounded)
