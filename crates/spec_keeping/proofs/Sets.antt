-- The run of a linked set keeps the maxima of its tables and of its memory, and its segments but for dropped ones.
use Rattle.std.proofs.Common.{◌≡◌, ℕ, zero, suc, List, [], ◌∷◌, length, map, slice_get, slice_set, Option, Some, None, IfSome, Bool, true, false, inl, inr, refl, sym, ap, ◌∙◌}
use Rattle.spec_loading.specs.wasm_form.declared.module.Module.{Module}
use Rattle.spec_loading.specs.wasm_form.declared.runtime.Answer.{Answer}
use Rattle.spec_loading.specs.wasm_form.declared.runtime.Trap.{Trap}
use Rattle.spec_loading.specs.spec_runs.Systems.{Outside, Status, Moving, Waits, Returned, Exited, Trapped, System, Ran, with_rest, only_if, next_at, next, run_from, run}
use Rattle.spec_loading.specs.spec_binary.Options.{◌>>=◌}
use Rattle.spec_loading.specs.spec_runtime.Memories.{MemoryInstance}
use Rattle.spec_loading.specs.spec_runtime.Tables.{TableInstance, entries_written}
use Rattle.spec_loading.specs.spec_execution.Segments.{Performed, all_performed, segment_effects}
use Rattle.spec_loading.specs.spec_execution.Instances.{ModuleParts, Instances, set_at, store_view}
use Rattle.spec_loading.specs.spec_linking.LinkedSets.{LinkedSet, wasm_of}
use Rattle.spec_loading.specs.spec_linking.Slots.{linked_plan, member_number}
use Rattle.spec_loading.specs.Addresses.{shared_table_address}
use Rattle.spec_loading.specs.Members.{Store, set_instances, set_view, shared_table, opening_store}
use Rattle.spec_loading.specs.LoadedSet.{SetState, own_functions, first_slot, with_slots, slots_written, slots_after, member_placed, set_loading, set_system, set_opening, set_run}
use Rattle.spec_keeping.specs.Keeping.{AreLeft, most_of, IsKept, SetRunKeeps}
use Rattle.spec_keeping.proofs.Effects.{SameMost, Keeps, all_kept, written_same}
use Rattle.spec_keeping.proofs.Steps.{step_kept, answer_kept}

-- ---- lists

set_length : {A : Type 0} (xs : List A) (i : ℕ) (x : A) → length (slice_set xs i x) ≡ length xs
set_length [] i x = refl
set_length (y ∷ ys) zero x = refl
set_length (y ∷ ys) (suc i) x = ap suc (set_length ys i x)

set_many : {A : Type 0} (xs : List A) (o : Option ℕ) (x : A) → length (set_at xs o x) ≡ length xs
set_many xs None x = refl
set_many xs (Some i) x = set_length xs i x

set_most : (xs : List TableInstance) (i : ℕ) (old new : TableInstance) → slice_get xs i ≡ Some old → SameMost old new
    → map most_of (slice_set xs i new) ≡ map most_of xs
set_most [] i old new e same = absurd cc
set_most (y ∷ ys) zero old new e same = (let is : y ≡ old = cc in ap (λ k. k ∷ map most_of ys) (same ∙ ap most_of (sym is)))
set_most (y ∷ ys) (suc i) old new e same = ap (λ l. y.max ∷ l) (set_most ys i old new e same)

tables_most : (xs : List TableInstance) (o : Option ℕ) (old new : TableInstance) → (o >>= slice_get xs) ≡ Some old → SameMost old new
    → map most_of (set_at xs o new) ≡ map most_of xs
tables_most xs None old new e same = absurd cc
tables_most xs (Some i) old new e same = set_most xs i old new e same

all_left : {A : Type 0} (xs : List (List A)) → AreLeft xs xs
all_left [] = tt
all_left (x ∷ xs) = (inr refl, all_left xs)

dropped_left : {A : Type 0} (xs ys : List (List A)) (i : ℕ) → AreLeft xs ys → AreLeft xs (slice_set ys i [])
dropped_left [] [] i are = tt
dropped_left [] (y ∷ ys) i are = absurd are
dropped_left (x ∷ xs) [] i are = absurd are
dropped_left (x ∷ xs) (y ∷ ys) zero are = (inl refl, are.1)
dropped_left (x ∷ xs) (y ∷ ys) (suc i) are = (are.0, dropped_left xs ys i are.1)

left_at : {A : Type 0} (xs ys : List (List A)) (o : Option ℕ) → AreLeft xs ys → AreLeft xs (set_at ys o [])
left_at xs ys None are = are
left_at xs ys (Some i) are = dropped_left xs ys i are

-- ---- units over a store

module _ (before : ModuleParts) (max : ℕ) where
  -- what is kept of the store and the memory
  pub record Kept (us : ModuleParts) (memory : MemoryInstance) : Type 0 where
    pub store : IsKept before us
    pub most : memory.max ≡ max

  with_table : (us : ModuleParts) (memory : MemoryInstance) (o : Option ℕ) (old new : TableInstance) → (o >>= slice_get us.tables) ≡ Some old
      → SameMost old new → Kept us memory → Kept (record us { tables = set_at us.tables o new }) memory
  with_table us memory o old new e same is = record {
    store = record {
      globals = is.store.globals;
      tables = tables_most us.tables o old new e same ∙ is.store.tables;
      elems = is.store.elems;
      datas = is.store.datas;
    };
    most = is.most;
  }

  pub store_keeps : (I : Instances) → Keeps (store_view I) Kept
  store_keeps I = record {
    global = λ us memory unit g v is. record {
      store = record {
        globals = set_many us.globals (I.global_at unit g) v ∙ is.store.globals;
        tables = is.store.tables;
        elems = is.store.elems;
        datas = is.store.datas;
      };
      most = is.most;
    };
    table = λ us memory unit t old new e same is. with_table us memory (I.table_at unit t) old new e same is;
    elem = λ us memory unit e is. record {
      store = record {
        globals = is.store.globals;
        tables = is.store.tables;
        elems = left_at before.elems us.elems (I.elem_at unit e) is.store.elems;
        datas = is.store.datas;
      };
      most = is.most;
    };
    data_ = λ us memory unit d is. record {
      store = record {
        globals = is.store.globals;
        tables = is.store.tables;
        elems = is.store.elems;
        datas = left_at before.datas us.datas (I.data_at unit d) is.store.datas;
      };
      most = is.most;
    };
    memory = λ us old new same is. record { store = is.store; most = same ∙ is.most };
  }

-- ---- runs

-- what each step and each answer keeps, the run keeps
module _ {O : Outside} (S : System O) (P : S.State → Type 0) (steps : (s : S.State) → P s → IfSome (S.step s) P)
    (answers : (s : S.State) → P s → (a : O.Answer) → P (S.take a s)) where
  abbrev Held : S.State × List O.Answer → Type 0
  Held x = P x.0

  next_held : (s : S.State) (given : List O.Answer) → P s → (st : Status O.Call O.Trap) → IfSome (next_at S st s given) Held
  next_held s given h Moving = go (S.step s) (steps s h)
    where
      go : (o : Option S.State) → IfSome o P → IfSome (with_rest given o) Held
      go None k = tt
      go (Some t) k = k
  next_held s [] h (Waits call) = tt
  next_held s (a ∷ rest) h (Waits call) = go (O.fits call (S.memory s) a)
    where
      go : (b : Bool) → IfSome (with_rest rest (only_if b (S.take a s))) Held
      go true = answers s h a
      go false = tt
  next_held s given h Returned = tt
  next_held s given h (Exited code) = tt
  next_held s given h (Trapped why) = tt

  from_next : (s : S.State) (given : List O.Answer) (more : S.State → List O.Answer → Ran O S.State)
      → ((t : S.State) (rest : List O.Answer) → P t → P (more t rest).state) → P s → (o : Option (S.State × List O.Answer)) → IfSome o Held
      → P (run_from S s given more o).state
  from_next s given more kept h None k = h
  from_next s given more kept h (Some x) k = kept x.0 x.1 k

  run_held : (n : ℕ) (s : S.State) (given : List O.Answer) → P s → P (run S n s given).state
  run_held zero s given h = h
  run_held (suc n) s given h = from_next s given (run S n) (run_held n) h (next S s given) (next_held s given h (S.status s))

-- ---- a linked set

module _ (L : LinkedSet) where
  abbrev K : Store → MemoryInstance → Type 0
  K us memory = Kept (opening_store L) (linked_plan L).pages_max us memory

  keeps : Keeps (set_view L) K
  keeps = store_keeps (opening_store L) (linked_plan L).pages_max (set_instances L)

  slots_kept : (m : ℕ) (us : Store) (memory : MemoryInstance) → K us memory → IfSome (slots_written L m us memory) (λ p. K p.units p.memory)
  slots_kept m us memory is = go (shared_table us) refl
    where
      wrote : (old : TableInstance) → shared_table us ≡ Some old → (o : Option TableInstance) → IfSome o (SameMost old)
          → K (with_slots us memory o).units (with_slots us memory o).memory
      wrote old e None same = is
      wrote old e (Some new) same = with_table (opening_store L) (linked_plan L).pages_max us memory (Some shared_table_address) old new e same is

      go : (o : Option TableInstance) → shared_table us ≡ o
          → IfSome (o >>= λ table. Some (with_slots us memory (entries_written table (first_slot L m) (map Some (own_functions L m))))) (λ p. K p.units p.memory)
      go None e = tt
      go (Some table) e =
          wrote table e (entries_written table (first_slot L m) (map Some (own_functions L m))) (written_same table (first_slot L m) (map Some (own_functions L m)))

  after_kept : (m : ℕ) (p : Performed Store) → K p.units p.memory → (o : Option Trap) → IfSome (slots_after L m p o) (λ q. K q.units q.memory)
  after_kept m p is None = slots_kept m p.units p.memory is
  after_kept m p is (Some why) = is

  placed_kept : (m : ℕ) (us : Store) (memory : MemoryInstance) → K us memory → IfSome (member_placed L m us memory) (λ p. K p.units p.memory)
  placed_kept m us memory is = go (wasm_of L m)
    where
      all_placed : (o : Option (Performed Store)) → IfSome o (λ p. K p.units p.memory) → IfSome (o >>= λ p. slots_after L m p p.trap) (λ q. K q.units q.memory)
      all_placed None after = tt
      all_placed (Some p) after = after_kept m p after p.trap

      go : (o : Option Module)
          → IfSome (o >>= λ wasm. all_performed (set_view L) m (segment_effects (member_number L m) wasm) us memory >>= λ p. slots_after L m p p.trap) (λ q. K q.units q.memory)
      go None = tt
      go (Some wasm) = all_placed _ (all_kept (set_view L) K keeps m (segment_effects (member_number L m) wasm) us memory is)

  abbrev P : SetState → Type 0
  P s = K s.run.units s.run.memory

  opens : P (set_opening L)
  opens = record {
    store = record { globals = refl; tables = refl; elems = all_left (opening_store L).elems; datas = all_left (opening_store L).datas };
    most = refl;
  }

  run_kept : (answers : List Answer) (n : ℕ) → P (set_run L answers n).state
  run_kept answers n =
      run_held (set_system L) P (step_kept (set_loading L) K keeps placed_kept) (answer_kept (set_loading L) K keeps placed_kept) n (set_opening L) answers opens

pub set_run_keeps : SetRunKeeps
set_run_keeps L answers n = (let is = run_kept L answers n in record { store = is.store; memory = is.most })
