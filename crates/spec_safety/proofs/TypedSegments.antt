-- The effects of the active segments of a valid module are typed, and typed effects, one after the other, keep what there is.
use Rattle.std.proofs.Common.{◌≡◌, ℕ, suc, ◌+◌, ◌<◌, true, List, [], ◌∷◌, length, Option, Some, None, refl, sym, ap, ◌∙◌, subst, arith, slice_get}
use Rattle.std.specs.List.{All}
use Rattle.std.proofs.lemmas.Bool.{and_parts}
use Rattle.std.proofs.lemmas.List.Elements.{All-nil, All-cons, All-append, All-head, All-tail}
use Rattle.std.proofs.lemmas.Option.{slice_get_within}
use Rattle.spec_execution.specs.wasm_form.declared.types.ValType.TheVariants.{I32}
use Rattle.spec_execution.specs.wasm_form.declared.types.TableType.{TableType}
use Rattle.spec_execution.specs.wasm_form.declared.instr.Expr.{Expr}
use Rattle.spec_execution.specs.wasm_form.declared.module.ElemMode.{ElemMode}
use Rattle.spec_execution.specs.wasm_form.declared.module.ElemMode.TheVariants as elem_mode
use Rattle.spec_execution.specs.wasm_form.declared.module.Elem.{Elem}
use Rattle.spec_execution.specs.wasm_form.declared.module.DataMode.{DataMode}
use Rattle.spec_execution.specs.wasm_form.declared.module.DataMode.TheVariants as data_mode
use Rattle.spec_execution.specs.wasm_form.declared.module.Data.{Data}
use Rattle.spec_execution.specs.wasm_form.declared.module.Module.{Module}
use Rattle.spec_execution.specs.spec_binary.Options.{◌>>=◌}
use Rattle.spec_execution.specs.spec_binary.IndexSpaces.{table_space}
use Rattle.spec_execution.specs.spec_validation.Faults.{fault, is_constant, has_functions, elem_of_table, type_of_elem, item_type, elem_mode_fits, items_fit, elem_fits}
use Rattle.spec_execution.specs.spec_validation.Context.{Context}
use Rattle.spec_execution.proofs.of_spec_validation.Parts.{parts_fit}
use Rattle.spec_execution.specs.spec_runtime.Memories.{MemoryInstance}
use Rattle.spec_execution.specs.Activations.{Effect, TableInit, ElemDrop, MemoryInit, DataDrop}
use Rattle.spec_execution.specs.Views.{View, Effected, Gives, Traps, performed}
use Rattle.spec_execution.specs.Segments.{Performed, followed_by, all_performed, effects_at, elem_applied, data_applied, items_count, elem_effects, data_effects, all_effects, segment_effects}
use Rattle.spec_safety.specs.ValueTypes.{IsMemory}
use Rattle.spec_safety.specs.TypedViews.{IsTypedView}
use Rattle.spec_safety.specs.TypedMoves.{IsTypedEffect}
use Rattle.spec_execution.specs.Instances.{module_context}
use Rattle.spec_safety.proofs.Lookups.{passes_at}
use Rattle.spec_safety.proofs.KnownStacks.{then_is}
use Rattle.spec_safety.proofs.SoundEffects.{IsThere, performed_ok}

-- ---- effects one after the other

module _ {Units : Type 0} (V : View Units) (N : ℕ → Context) (Kept : Units → Type 0) (typed : IsTypedView V N Kept) (unit : ℕ) where
  -- effects lead somewhere, and keep what the units and the memory are
  abbrev pub Leaves : Option (Performed Units) → Type 0
  Leaves o = (p : Performed Units) × (o ≡ Some p) × Kept p.units × IsMemory p.memory

  abbrev pub IsEffectTyped : Effect → Type 0
  IsEffectTyped x = IsTypedEffect V (N unit) x []

  followed_ok : (more : Units → MemoryInstance → Option (Performed Units)) → ((us : Units) (memory : MemoryInstance) → Kept us → IsMemory memory → Leaves (more us memory))
      → (us : Units) (memory : MemoryInstance) → Kept us → IsMemory memory → (o : Option (Effected Units)) → IsThere V N Kept typed [] o → Leaves (o >>= followed_by more us memory)
  followed_ok more all us memory kept is None there = absurd there
  followed_ok more all us memory kept is (Some (Gives values changed changed_memory)) there = all changed changed_memory there.1 there.2
  followed_ok more all us memory kept is (Some (Traps why)) there = (_, refl, kept, is)

  pub all_performed_ok : (xs : List Effect) (us : Units) (memory : MemoryInstance) → Kept us → IsMemory memory → All IsEffectTyped xs → Leaves (all_performed V unit xs us memory)
  all_performed_ok [] us memory kept is fine = (_, refl, kept, is)
  all_performed_ok (x ∷ xs) us memory kept is fine =
      followed_ok (all_performed V unit xs) (λ us' memory' kept' is'. all_performed_ok xs us' memory' kept' is' (All-tail IsEffectTyped x xs fine)) us memory kept is
      (performed V us memory unit x) (performed_ok V N Kept typed us memory kept is unit x [] (All-head IsEffectTyped x xs fine))

-- ---- the effects of active segments, wherever their offsets lie

module _ {Units : Type 0} (V : View Units) (m : Module) (number : Expr → Option ℕ) where
  abbrev IsFine : Effect → Type 0
  IsFine x = IsTypedEffect V (module_context m) x []

  two_fine : (x y : Effect) → IsFine x → IsFine y → All IsFine (x ∷ y ∷ [])
  two_fine x y h k = All-cons IsFine x (y ∷ []) h (All-cons IsFine y [] k (All-nil IsFine))

  elem_fine : (n : ℕ) (e : Elem) → slice_get m.elems n ≡ Some e → elem_fits m e ≡ true → All IsFine (elem_effects number n e)
  elem_fine n e at fits = go e.mode refl
    where
      named : (module_context m).elems n ≡ Some (item_type e.items)
      named = then_is (slice_get m.elems n) type_of_elem e at

      at_fine : (t : ℕ) (o : Option ℕ) → (x : TableType) × (slice_get (table_space m) t ≡ Some x) → All IsFine (effects_at (elem_applied n t (items_count e.items)) o)
      at_fine t None x = All-nil IsFine
      at_fine t (Some to) x =
          two_fine (TableInit n t to 0 (items_count e.items)) (ElemDrop n)
          (item_type e.items, x.0.elem, named, then_is (slice_get (table_space m) t) elem_of_table x.0 x.1, refl) (item_type e.items, named, refl)

      table_there : (o : Option TableType) → has_functions o ≡ true → (x : TableType) × (o ≡ Some x)
      table_there None h = absurd cc
      table_there (Some x) h = (x, refl)

      go : (mode : ElemMode) → e.mode ≡ mode → All IsFine (elem_effects number n e)
      go (elem_mode.Active t offset) q =
          let mode_fits : elem_mode_fits m (elem_mode.Active t offset) ≡ true = ap (elem_mode_fits m) (sym q) ∙ (and_parts (elem_mode_fits m e.mode) (items_fit m e.items) fits).0 in
          rw q (at_fine t (number offset) (table_there (slice_get (table_space m) t) (and_parts (has_functions (slice_get (table_space m) t)) (is_constant m I32 offset) mode_fits).0))
      go elem_mode.Passive q = rw q (All-nil IsFine)
      go elem_mode.Declarative q = rw q (All-nil IsFine)

  data_fine : (n : ℕ) (d : Data) → slice_get m.datas n ≡ Some d → All IsFine (data_effects number n d)
  data_fine n d at = go d.mode refl
    where
      lt : n < length m.datas
      lt = slice_get_within m.datas n d at

      at_fine : (o : Option ℕ) → All IsFine (effects_at (data_applied n (length d.bytes)) o)
      at_fine None = All-nil IsFine
      at_fine (Some to) = two_fine (MemoryInit n to 0 (length d.bytes)) (DataDrop n) (lt, refl) (lt, refl)

      go : (mode : DataMode) → d.mode ≡ mode → All IsFine (data_effects number n d)
      go (data_mode.Active memory offset) q = rw q (at_fine (number offset))
      go data_mode.Passive q = rw q (All-nil IsFine)

  -- segments that are numbered from n on
  all_fine : {A : Type 0} (of_segment : ℕ → A → List Effect) (whole : List A) → ((k : ℕ) (x : A) → slice_get whole k ≡ Some x → All IsFine (of_segment k x))
      → (n : ℕ) (xs : List A) → ((k : ℕ) (x : A) → slice_get xs k ≡ Some x → slice_get whole (n + k) ≡ Some x) → All IsFine (all_effects of_segment n xs)
  all_fine of_segment whole each n [] at = All-nil IsFine
  all_fine of_segment whole each n (x ∷ xs) at =
      let here : n + 0 ≡ n = omega arith in
      All-append IsFine (of_segment n x) (all_effects of_segment (n + 1) xs) (each n x (subst (λ k. slice_get whole k ≡ Some x) here (at 0 x refl)))
      (all_fine of_segment whole each (n + 1) xs (λ k y e. let next : n + suc k ≡ n + 1 + k = omega arith in subst (λ j. slice_get whole j ≡ Some y) next (at (suc k) y e)))

  from_zero : {A : Type 0} (xs : List A) (k : ℕ) (x : A) → slice_get xs k ≡ Some x → slice_get xs (0 + k) ≡ Some x
  from_zero xs k x e = let same : 0 + k ≡ k = omega arith in rw same e

  pub segments_fine : fault m ≡ None → All IsFine (segment_effects number m)
  segments_fine valid =
      All-append IsFine (all_effects (elem_effects number) 0 m.elems) (all_effects (data_effects number) 0 m.datas)
      (all_fine (elem_effects number) m.elems (λ k e at. elem_fine k e at (passes_at (elem_fits m) m.elems k e (parts_fit m valid).elems at)) 0 m.elems (λ k x e. from_zero m.elems k x e))
      (all_fine (data_effects number) m.datas data_fine 0 m.datas (λ k x e. from_zero m.datas k x e))
