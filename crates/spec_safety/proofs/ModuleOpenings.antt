-- The opening state of a valid module is sound.
use Rattle.std.proofs.Common.{◌≡◌, ℕ, ◌≤◌, min, List, [], ◌∷◌, length, map, Option, Some, None, true, refl, sym, ap, ◌∙◌, subst, arith, slice_get}
use Rattle.std.specs.Prelude.{IfSome, ◌&&◌, nat_le, unwrap_or, Result, Ok, Err, is_some, if◌then◌else◌}
use Rattle.std.specs.List.{list_all}
use Rattle.std.proofs.lemmas.Bool.{and_parts, leb-true, ltb-true}
use Rattle.std.proofs.lemmas.List.{length-replicate, length-map}
use Rattle.std.proofs.lemmas.List.Elements.{All-replicate}
use Rattle.std.proofs.lemmas.Option.{slice_get_within}
use Rattle.spec_execution.specs.wasm_form.declared.types.ValType.{ValType}
use Rattle.spec_execution.specs.wasm_form.declared.types.Limits.{Limits}
use Rattle.spec_execution.specs.wasm_form.declared.types.TableType.{TableType}
use Rattle.spec_execution.specs.wasm_form.declared.types.GlobalType.{GlobalType}
use Rattle.spec_execution.specs.wasm_form.declared.module.GlobalDef.{GlobalDef}
use Rattle.spec_execution.specs.wasm_form.declared.module.Data.{Data}
use Rattle.spec_execution.specs.wasm_form.declared.module.Module.{Module}
use Rattle.spec_execution.specs.wasm_form.declared.runtime.Ref.{Ref}
use Rattle.spec_execution.specs.wasm_form.declared.runtime.Trap.{Trap}
use Rattle.spec_execution.specs.wasm_form.declared.runtime.Value.{Value}
use Rattle.spec_execution.specs.spec_binary.Exports.{own_function, start_name}
use Rattle.spec_execution.specs.spec_binary.Indices.{function_type, nullary_at}
use Rattle.spec_execution.specs.spec_binary.IndexSpaces.{imports_of, globals_in, function_space, table_space, type_of_global}
use Rattle.spec_execution.proofs.of_spec_binary.OneType.{nullary_there}
use Rattle.spec_execution.specs.spec_validation.Faults.{is_function, immutable, elem_of_table, global_fits, no_fewer, most_entries, most_pages, max_fits, table_bounded, memory_bounded, elem_fits, start_fits}
use Rattle.spec_execution.proofs.of_spec_validation.Parts.{AreFit, parts_fit}
use Rattle.spec_execution.specs.spec_runtime.Memories.{MemoryInstance, new_memory}
use Rattle.spec_execution.specs.spec_runtime.Tables.{nulls, new_table}
use Rattle.spec_execution.specs.spec_runtime.Names.{HostNames}
use Rattle.spec_execution.specs.spec_runtime.Constants.{no_globals}
use Rattle.spec_execution.specs.Views.{View}
use Rattle.spec_execution.specs.Ranges.{Exists, ReferenceExists}
use Rattle.spec_execution.specs.Segments.{Performed, segment_effects, opened_items}
use Rattle.spec_execution.specs.Instances.{ModuleParts, module_target, module_view, constant_offset, global_value, segment_items, module_names}
use Rattle.spec_execution.specs.declared.fault.SingleFault.{SingleFault}
use Rattle.spec_execution.specs.OneModule.{ModuleState, module_entry, opened_memory, opened_table, opened_parts, segments_performed, opened_state, opened_by, opened_with, opened_after, imports_met, module_opening}
use Rattle.spec_safety.specs.Laws.{IsAlone}
use Rattle.spec_safety.proofs.Lookups.{went_on, got, holds_at, passes_at, mapped_at}
use Rattle.spec_safety.proofs.Spaces.{ImportsFunctions, all_functions, no_globals_imported, own_tables, own_globals, function_has_type}
use Rattle.spec_safety.proofs.Constants.{opened_exist}
use Rattle.spec_safety.specs.ValueTypes.{HasType, constants_fit, AreBytes, IsMemory, IsTable}
use Rattle.spec_safety.specs.TypedViews.{HoldTypes}
use Rattle.spec_safety.specs.SoundModules.{HoldsBytes, HoldsNumbers, IsCalled, IsSound}
use Rattle.spec_safety.proofs.KnownStacks.{some_same, if_some}
use Rattle.spec_safety.proofs.ByteLists.{new_memory_is}
use Rattle.spec_safety.proofs.ConstantTypes.{constant_typed}
use Rattle.spec_safety.proofs.TypedSegments.{Leaves, all_performed_ok, segments_fine}
use Rattle.spec_safety.proofs.SoundCode.{function_typed, checked_is_typed}

-- ---- new memories and tables

memory_opens : (ls : List Limits) → list_all memory_bounded ls ≡ true → IsMemory (opened_memory ls)
memory_opens [] fit = new_memory_is 0 0 (omega arith) (omega arith)
memory_opens (l ∷ ls) fit = go l.max (and_parts (memory_bounded l) (list_all memory_bounded ls) fit).0
  where
    go : (max : Option ℕ) → (nat_le l.min most_pages && max_fits l.min most_pages max) ≡ true → IsMemory (new_memory l.min (unwrap_or max most_pages))
    go None e = let p = and_parts (nat_le l.min most_pages) true e in new_memory_is l.min most_pages (leb-true l.min most_pages p.0) (omega arith)
    go (Some max) e =
        let p = and_parts (nat_le l.min most_pages) _ e in
        let q = and_parts (nat_le l.min max) (nat_le max most_pages) p.1 in
        new_memory_is l.min max (leb-true l.min max q.0) (leb-true max most_pages q.1)

module _ {Units : Type 0} (V : View Units) where
  pub table_opens : (t : TableType) → table_bounded t ≡ true → IsTable V (opened_table t)
  unfolding nulls
  table_opens t fit = go t.limits.max refl
    where
      n : ℕ
      n = t.limits.min

      size : (max : ℕ) → length (new_table n max).entries ≡ n
      size max = length-replicate n None

      bound : (max : Option ℕ) → t.limits.max ≡ max → (n ≤ most_entries) × (no_fewer n max ≡ true)
      bound max e =
          let p = and_parts (nat_le n most_entries) (no_fewer n t.limits.max) fit in
          (leb-true n most_entries p.0, ap (no_fewer n) (sym e) ∙ p.1)

      least : (a b c : ℕ) → a ≤ b → a ≤ c → a ≤ min b c
      least a b c h k = omega arith

      opened : (max : ℕ) → n ≤ max → max ≤ most_entries → IsTable V (new_table n max)
      opened max few most = record { entries = All-replicate (ReferenceExists V) n None tt; few = rw (size max) few; most = most }

      go : (max : Option ℕ) → t.limits.max ≡ max → IsTable V (new_table n (min most_entries (unwrap_or t.limits.max most_entries)))
      go None e =
          let p = bound None e in
          rw e (opened (min most_entries most_entries) (least n most_entries most_entries p.0 p.0) (omega arith))
      go (Some max) e =
          let p = bound (Some max) e in
          rw e (opened (min most_entries max) (least n most_entries max p.0 (leb-true n max p.1)) (omega arith))

-- ---- before the active segments are applied

module _ (m : Module) (alone : IsAlone m) (numbers : HoldsNumbers m) (bytes : HoldsBytes m) where
  abbrev V : View ModuleParts
  V = module_view m

  fit : AreFit m
  fit = parts_fit m alone.valid

  no_imports : ImportsFunctions m.imports
  no_imports = all_functions m.imports alone.imports

  function_there : (f : ℕ) → is_function m f ≡ true → (r : Ref) × (module_target m f ≡ Some r) × Exists V r
  function_there f e =
      let ty = function_has_type m fit f (ltb-true f (length (function_space m)) e) in
      let r = function_typed m alone 0 f ty.0 ty.1 in
      (r.0, r.1, ap is_some r.2)

  -- there are no imported globals
  none_named : (g : ℕ) (ty : GlobalType) (t : ValType) → slice_get (imports_of globals_in m.imports) g ≡ Some ty → immutable ty ≡ Some t
      → (v : Value) × (no_globals g ≡ Some v) × HasType V t v
  none_named g ty t e h = absurd (let none = rw (no_globals_imported m no_imports) at e in cc)

  global_typed : (g : GlobalDef) → global_fits m g ≡ true → constants_fit g.init.list ≡ true → HasType V g.ty.value (global_value m g)
  global_typed g fits small =
      let v = constant_typed V m (module_target m) no_globals function_there none_named g.ty.value g.init small fits in
      rw v.1 v.2

  -- ---- the parts

  parts_typed : HoldTypes V (module_names m) (opened_parts m)
  parts_typed = record {
    globals = λ unit g t e.
        let own = subst (λ (ts : List GlobalType). slice_get ts g ≡ Some t) (own_globals m no_imports) e in
        let lt = slice_get_within (map type_of_global m.globals) g t own in
        let many = length-map m.globals type_of_global in
        let d = got m.globals g (omega arith) in
        let same : type_of_global d.0 ≡ t = some_same (sym (mapped_at type_of_global m.globals g d.0 d.1) ∙ own) in
        let small = holds_at (λ (x : GlobalDef). constants_fit x.init.list ≡ true) m.globals g d.0 numbers.globals d.1 in
        let has = global_typed d.0 (passes_at (global_fits m) m.globals g d.0 fit.globals d.1) small in (
          global_value m d.0,
          mapped_at (global_value m) m.globals g d.0 d.1,
          subst (λ (z : GlobalType). HasType V z.value (global_value m d.0)) same has,
        );
    tables = λ unit t ty e.
        let x = went_on (slice_get (table_space m) t) elem_of_table ty e in
        let at : slice_get m.tables t ≡ Some x.0 = subst (λ (ts : List TableType). slice_get ts t ≡ Some x.0) (own_tables m no_imports) x.1 in
        (opened_table x.0, mapped_at opened_table m.tables t x.0 at, table_opens V x.0 (passes_at table_bounded m.tables t x.0 fit.tables at));
    elems = λ unit e ty h.
        let s = went_on (slice_get m.elems e) _ ty h in (
          opened_items (segment_items m) s.0,
          mapped_at (opened_items (segment_items m)) m.elems e s.0 s.1,
          opened_exist m alone s.0 (passes_at (elem_fits m) m.elems e s.0 fit.elems s.1),
        );
    datas = λ unit d lt.
        let s = got m.datas d lt in
        (s.0.bytes, mapped_at (λ x. x.bytes) m.datas d s.0 s.1, holds_at (λ (x : Data). AreBytes x.bytes) m.datas d s.0 bytes s.1);
  }

  -- ---- the active segments

  segments_typed : Leaves V (module_names m) (HoldTypes V (module_names m)) (checked_is_typed m alone numbers) 0 (segments_performed m)
  segments_typed =
      all_performed_ok V (module_names m) (HoldTypes V (module_names m)) (checked_is_typed m alone numbers) 0 (segment_effects (constant_offset m) m)
      (opened_parts m) (opened_memory m.memories) parts_typed (memory_opens m.memories fit.memories)
      (segments_fine V m (constant_offset m) alone.valid)

  -- ---- the opening state

  entry_called : (f : ℕ) → module_entry m ≡ Some f → IsCalled m f
  entry_called f e =
      let own = went_on (own_function m start_name) (λ g. if nullary_at (function_type m g) then Some g else None) f e in
      let found = if_some (nullary_at (function_type m own.0)) f (Some own.0) own.2 in
      subst (IsCalled m) (some_same found.1) (nullary_there (function_type m own.0) found.0)

  start_called : IfSome m.start (IsCalled m)
  start_called = go m.start fit.start
    where
      go : (o : Option ℕ) → start_fits m o ≡ true → IfSome o (IsCalled m)
      go None e = tt
      go (Some f) e = nullary_there (function_type m f) e

  state_sound : (f : ℕ) (us : ModuleParts) (memory : MemoryInstance) → IsCalled m f → HoldTypes V (module_names m) us → IsMemory memory
      → IsSound m (opened_state m f us memory)
  state_sound f us memory e h is =
      record { units = h; memory = is; stack = (λ q. absurd cc, (refl, record { start = start_called; entry = e; bottom = refl })) }

  performed_sound : (f : ℕ) (s : ModuleState) → IsCalled m f → (p : Performed ModuleParts) → HoldTypes V (module_names m) p.units → IsMemory p.memory
      → opened_by m f (Some p) ≡ Ok s → IsSound m s
  performed_sound f s e p h is q = go p.trap refl
    where
      go : (o : Option Trap) → p.trap ≡ o → IsSound m s
      go None t =
          let same : opened_state m f p.units p.memory ≡ s = (let at = rw t at q in cc) in
          subst (IsSound m) same (state_sound f p.units p.memory e h is)
      go (Some why) t = absurd (let at = rw t at q in cc)

  pub opens_sound : (names : HostNames) (s : ModuleState) → module_opening m names ≡ Ok s → IsSound m s
  opens_sound names s q = go (imports_met m names m.imports) q
    where
      entered : (o : Option ℕ) → module_entry m ≡ o → opened_with m o (segments_performed m) ≡ Ok s → IsSound m s
      entered None e h = absurd cc
      entered (Some f) e h =
          let p = segments_typed in
          performed_sound f s (entry_called f e) p.0 p.2 p.3 (ap (opened_by m f) (sym p.1) ∙ h)

      go : (o : Result (Unit {0}) SingleFault) → opened_after m o ≡ Ok s → IsSound m s
      go (Err fault) h = absurd cc
      go (Ok met) h = entered (module_entry m) refl h
