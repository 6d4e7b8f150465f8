-- What is answered of a snapshot.
use Rattle.std.proofs.Common.{◌≡◌, ◌⊎◌, inr, ℕ, ◌+◌, ◌≤◌, ◌<◌, ◌^◌, List, [], ◌∷◌, length, map, Some, Result, Ok, Err, IfOk, Option, Vec, Global, slice_get, refl, sym, ap, ◌∙◌, subst, arith}
use Rattle.std.specs.Prelude.{IfErr}
use Rattle.std.specs.List.{All}
use Rattle.std.proofs.lemmas.List.Elements.{All-nil}
use Rattle.spec_reading.specs.spec_binary.Number.{IsShortest}
use Rattle.spec_reading.specs.spec_binary.Modules.{SpellsModule}
use Rattle.spec_reading.specs.spec_binary.Options.{◌>>=◌}
use Rattle.spec_reading.specs.spec_binary.WellFormed.{IsWellFormed}
use Rattle.spec_reading.specs.Laws.{OneModule}
use Rattle.spec_loading.specs.wasm_form.declared.types.FuncType.{FuncType}
use Rattle.spec_loading.specs.wasm_form.declared.module.ImportDesc.{ImportDesc}
use Rattle.spec_loading.specs.wasm_form.declared.module.ImportDesc.TheVariants as imported
use Rattle.spec_loading.specs.wasm_form.declared.module.Import.{Import}
use Rattle.spec_loading.specs.wasm_form.declared.module.Module.{Module}
use Rattle.spec_loading.specs.spec_runtime.Memories.{MemoryInstance}
use Rattle.spec_loading.specs.spec_runtime.Tables.{TableInstance}
use Rattle.spec_loading.specs.spec_runtime.Recorded.{Recorded}
use Rattle.spec_loading.specs.spec_runtime.Courses.{state_at}
use Rattle.spec_loading.specs.spec_execution.Instances.{named_host}
use Rattle.spec_loading.specs.spec_safety.ValueTypes.{IsOfBytes}
use Rattle.spec_loading.specs.spec_linking.Sets.{Member}
use Rattle.spec_loading.specs.spec_linking.Gathering.{total_size}
use Rattle.spec_loading.specs.spec_linking.LinkedSets.{LinkedSet, hosts_of}
use Rattle.spec_loading.specs.LoadedSet.{SetState}
use Rattle.spec_loading.specs.SoundLoading.{IsSoundLoader}
use Rattle.spec_loading.specs.SoundSets.{HoldBytes, SetRunIsSound}
use Rattle.spec_snapshots.specs.declared.fault.SnapFault.{SnapFault}
use Rattle.spec_snapshots.specs.declared.fault.SnapFault.TheVariants as faults
use Rattle.dyl_link.specs.dyl_search.declared.set.Member as kept
use Rattle.dyl_store.specs.Stores.{StoreRun, set_course, new_run}
use Rattle.wasm_encode.specs.SectionSizes.{IsFirstTooLong}
use Rattle.merge_match.specs.Renumbering.{table_instance}
use Rattle.merge_index.specs.Numbering.{numbers_of}
use Rattle.merge_index.proofs.FewItems.{total_cons}
use Rattle.merge_match.specs.SameCode.{SameCode}
use Rattle.merge_module.specs.Shape.{HasShape, imported_type, asked_host}
use Rattle.merge_module.specs.MergedModule.{added_types, merged_module}
use Rattle.merge_module.specs.Laws.{IsMergeable, MergedHasShape, types_bulk, names_bulk}
use Rattle.merge_whole.specs.Counts.{members_of, sizes}
use Rattle.merge_whole.proofs.Little.{sizes_are, is_decoded}
use Rattle.merge_whole.proofs.ShortFits.{never_first_long}
use Rattle.spec_snapshots.specs.Causes.{SnapCause, Takes, TrapsSo, Calls, StepsEnd, IsDeep, IsFirst, cause_at, state_after}
use Rattle.spec_snapshots.specs.Laws.{WrittenIsOne}
use Rattle.snap_set.specs.Parts.{snapshot_module}
use Rattle.snap_set.specs.Laws.{OneFirst, SpelledSnapshot}
use Rattle.snap_sizes.specs.Laws.{SnapshotIsShort}
use Rattle.snap_merge.specs.Answers.{Snapped, SnapTells, IsTooLongAfter, IsLongFirst, IsSpelledFirst, amount}
use Rattle.snap_merge.specs.StartUp.{IsStarting, NoneBefore, Refuses}
use Rattle.snap_merge.specs.Written.{IsHolding, amount_of, IsSpelled, IsWriteFault, WriteTells, TellsLong}

-- ---- results

pub if_ok : {T E : Type 0} {P Q : T → Type 0} (r : Result T E) → ((x : T) → P x → Q x) → IfOk r P → IfOk r Q
if_ok (Ok x) f p = f x p
if_ok (Err e) f p = tt

pub if_err : {T E : Type 0} {P Q : E → Type 0} (r : Result T E) → ((e : E) → P e → Q e) → IfErr r P → IfErr r Q
if_err (Ok x) f p = tt
if_err (Err e) f p = f e p

-- ---- start-up

pub first_tells : (L : LinkedSet) (most : ℕ) (f : SnapFault) → Refuses L most f → SnapTells L most f
first_tells L most faults.HostCall r = (r.0, record { before = r.1; here = r.2 })
first_tells L most (faults.Trap why) r = (r.0, record { before = r.1; here = r.2 })
first_tells L most faults.Steps r = (r.0, record { before = r.1; here = r.2 })
first_tells L most faults.Depth r = (r.0, record { before = r.1; here = r.2 })
first_tells L most (faults.SectionSize id) r = absurd r.2
first_tells L most faults.Memory r = tt

pub opened : (most : ℕ) (v : StoreRun) (L : LinkedSet) → v ≡ new_run L → IsStarting most v
opened most v L is = subst (IsStarting most) (sym is) (record { found = refl; none = refl; unasked = refl; few = omega arith })

-- the loader's part of a sound state
pub sound_loader : SetRunIsSound → (L : LinkedSet) (x : Recorded) → IsMergeable L → HoldBytes L → x.answers ≡ [] → IsSoundLoader (length L.set.members) (state_at (set_course L) x).loader
sound_loader law L x able bytes none =
    let most = able.pages in
    (law L x.answers x.steps able.shape able.links (omega arith) bytes (subst (All IsOfBytes) (sym none) (All-nil IsOfBytes))).loader

-- ---- what is written

pub too_long_of : (L : LinkedSet) (s : SetState) (m : Module) → IsHolding L s m → (id : ℕ) → IsFirstTooLong m id → 2 ^ 32 ≤ amount L s → IsTooLongAfter L s id
too_long_of L s m h id first big = record {
  contents = h.contents;
  held = h.held;
  first = subst (λ (q : Module). IsFirstTooLong q id) h.is first;
  big = big;
}

pub amount_is : (L : LinkedSet) (ms : List kept.Member) → members_of ms ≡ L.set.members → (s : SetState) (memory : MemoryInstance) (tables : List TableInstance) → memory ≡ s.run.memory → tables ≡ s.run.units.tables
    → amount_of (members_of ms) memory tables ≡ amount L s
amount_is L ms are s memory tables space same =
    ap (λ (xs : List Member). amount_of xs memory tables) are
    ∙ ap (λ (x : MemoryInstance). amount_of L.set.members x tables) space
    ∙ ap (λ (ts : List TableInstance). amount_of L.set.members s.run.memory ts) same

pub write_tells : (L : LinkedSet) (s : SetState) (r : Result (Vec ℕ Global) SnapFault) → IfErr r IsWriteFault
    → ((id : ℕ) → r ≡ Err (faults.SectionSize id) → IsTooLongAfter L s id) → IfErr r (WriteTells L s)
write_tells L s (Ok bytes) is long = tt
write_tells L s (Err faults.HostCall) is long = absurd is
write_tells L s (Err (faults.Trap why)) is long = absurd is
write_tells L s (Err faults.Steps) is long = absurd is
write_tells L s (Err faults.Depth) is long = absurd is
write_tells L s (Err (faults.SectionSize id)) is long = long id refl
write_tells L s (Err faults.Memory) is long = tt

abbrev pub Written : Type 0
Written = Result (Vec ℕ Global) SnapFault

-- what is written of a state is determined, and so is the module that holds it
pub tells_long : WrittenIsOne → (L : LinkedSet) (s : SetState) (m : Module) → IsHolding L s m → (r : Written)
    → ((id : ℕ) → IsFirstTooLong m id → (r ≡ Err (faults.SectionSize id)) ⊎ (r ≡ Err faults.Memory)) → TellsLong L s r
tells_long one L s m h r only = λ id c held too.
    let same : h.contents ≡ c =
    one s.run.memory (map (table_instance (numbers_of L)) s.run.units.tables) h.contents c h.held.written held.written in
    only id (subst (λ (q : Module). IsFirstTooLong q id) (sym (h.is ∙ ap (snapshot_module L s) same)) too)

-- ---- the whole

pub spelled_of : (L : LinkedSet) (s : SetState) (m : Module) → IsHolding L s m → (bytes : List ℕ) → IsShortest (SpellsModule m) bytes → IsSpelled L s bytes
spelled_of L s m h bytes shortest = record {
  contents = h.contents;
  held = h.held;
  shortest = subst (λ (q : Module). IsShortest (SpellsModule q) bytes) h.is shortest;
  formed = subst IsWellFormed h.is h.formed;
}

pub exact_of : (L : LinkedSet) (most : ℕ) (r : Written) → IfErr r (λ f. SnapTells L most f) → (id : ℕ) → r ≡ Err (faults.SectionSize id)
    → IsLongFirst L most id
exact_of L most r tells id e =
    let w = subst (λ (q : Written). IfErr q (λ f. SnapTells L most f)) e tells in
    record { steps = w.0; first = w.1; contents = w.2.contents; held = w.2.held; long = w.2.first }

pub only_long_of : OneFirst → (L : LinkedSet) (most n : ℕ) → IsFirst L most n Takes → (s : SetState) → s ≡ state_after L n → (r : Written)
    → TellsLong L s r → (id : ℕ) → IsLongFirst L most id → (r ≡ Err (faults.SectionSize id)) ⊎ (r ≡ Err faults.Memory)
only_long_of one L most n first s is r tells id x =
    let steps : n ≡ x.steps = (one L most n x.steps Takes Takes first x.first).0 in
    let same : s ≡ state_after L x.steps = is ∙ ap (state_after L) steps in
    subst (λ (t : SetState). TellsLong L t r) same tells id x.contents x.held x.long

-- where the entry is called, nothing else is to be said
other_cause : OneFirst → (L : LinkedSet) (most id n : ℕ) (cause : SnapCause) → NoneBefore L most n → cause_at L most n (state_after L n) ≡ Some cause
    → IsLongFirst L most id → cause ≡ Takes
other_cause one L most id n cause before here x = (one L most n x.steps cause Takes (record { before = before; here = here }) x.first).1

pub refused_long : OneFirst → (L : LinkedSet) (most : ℕ) (f : SnapFault) → Refuses L most f → (id : ℕ) → IsLongFirst L most id
    → (◌≡◌ {A = Written} (Err f) (Err (faults.SectionSize id))) ⊎ (◌≡◌ {A = Written} (Err f) (Err faults.Memory))
refused_long one L most faults.HostCall r id x = absurd (let bad = other_cause one L most id r.0 Calls r.1 r.2 x in cc)
refused_long one L most (faults.Trap why) r id x = absurd (let bad = other_cause one L most id r.0 (TrapsSo why) r.1 r.2 x in cc)
refused_long one L most faults.Steps r id x = absurd (let bad = other_cause one L most id r.0 StepsEnd r.1 r.2 x in cc)
refused_long one L most faults.Depth r id x = absurd (let bad = other_cause one L most id r.0 IsDeep r.1 r.2 x in cc)
refused_long one L most (faults.SectionSize k) r id x = absurd r.2
refused_long one L most faults.Memory r id x = inr refl

-- ---- where there is little

names_are : (ms : List Member) → sizes ms ≡ total_size ms + names_bulk ms
names_are [] = refl
names_are (m ∷ ms) = (let later = names_are ms in let sum = total_cons m ms in omega arith)

pub little_of : SnapshotIsShort → (L : LinkedSet) → IsMergeable L → HoldBytes L → (most id : ℕ) → (x : IsLongFirst L most id)
    → amount L (state_after L x.steps) < 2 ^ 32 → types_bulk (added_types L) ≤ 33554432 → ⊥
little_of law L able bytes most id x few types =
    let one = names_are L.set.members in
    let two = sizes_are L.set.members in
    never_first_long (snapshot_module L (state_after L x.steps) x.contents)
    (law L able bytes x.steps x.contents (record { make = x.held.make; written = x.held.written; types = types; few = omega arith })) refl id x.long

-- a module that has the types and imports of another asks for the same host functions
module _ (one other : Module) (same : other.types ≡ one.types) where
  type_same : (d : ImportDesc) → imported_type other d ≡ imported_type one d
  type_same (imported.Func t) = ap (λ (tys : List FuncType). slice_get tys t) same
  type_same (imported.Table ty) = refl
  type_same (imported.Space limits) = refl
  type_same (imported.Global ty) = refl

  asked_same : (i : Import) → asked_host other i ≡ asked_host one i
  asked_same i = ap (λ (o : Option FuncType). o >>= λ ty. Some (named_host i ty)) (type_same i.desc)

imports_are : (L : LinkedSet) (wasm : Module) → SameCode (merged_module L) wasm → HasShape L (merged_module L)
    → map (asked_host wasm) wasm.imports ≡ map Some (hosts_of L)
imports_are L wasm code shape =
    ap (map (asked_host wasm)) code.imports
    ∙ (λ k. map (λ (i : Import). asked_same (merged_module L) wasm code.types i k) (merged_module L).imports)
    ∙ shape.imports

pub snapped_of : SpelledSnapshot → OneModule → MergedHasShape → (L : LinkedSet) → IsMergeable L → HoldBytes L → (most n : ℕ) → IsFirst L most n Takes → (s : SetState) → s ≡ state_after L n → (bytes : List ℕ)
    → IsSpelled L s bytes → (k : ℕ) × IsFirst L most k Takes × Snapped L bytes (state_after L k)
snapped_of law one has L able holds most n first s is bytes spelled =
    let h = subst (λ (t : SetState). IsSpelled L t bytes) is spelled in
    let snapshot = law L able holds most n first h.contents h.held bytes h.shortest.spelled in
    let same = one (snapshot_module L (state_after L n) h.contents) snapshot.wasm bytes h.shortest.spelled snapshot.spelled in (
      n,
      first,
      record {
        snapshot = snapshot;
        decoded = is_decoded snapshot.wasm bytes snapshot.spelled (subst IsWellFormed same h.formed);
        imports = imports_are L snapshot.wasm snapshot.is.items.code (has L able);
        shortest = (h.contents, h.held, h.shortest);
      },
    )

pub spelled_first : (L : LinkedSet) (most n : ℕ) → IsFirst L most n Takes → (s : SetState) → s ≡ state_after L n → (bytes : List ℕ) → IsSpelled L s bytes
    → IsSpelledFirst L most bytes
spelled_first L most n first s is bytes spelled =
    let h = subst (λ (t : SetState). IsSpelled L t bytes) is spelled in
    record { steps = n; first = first; contents = h.contents; held = h.held; spelled = h.shortest.spelled }

pub written_tells : (L : LinkedSet) (most n : ℕ) → IsFirst L most n Takes → (s : SetState) → s ≡ state_after L n → (f : SnapFault) → WriteTells L s f → SnapTells L most f
written_tells L most n first s is faults.HostCall w = absurd w
written_tells L most n first s is (faults.Trap why) w = absurd w
written_tells L most n first s is faults.Steps w = absurd w
written_tells L most n first s is faults.Depth w = absurd w
written_tells L most n first s is (faults.SectionSize id) w = (n, first, subst (λ (t : SetState). IsTooLongAfter L t id) is w)
written_tells L most n first s is faults.Memory w = tt
