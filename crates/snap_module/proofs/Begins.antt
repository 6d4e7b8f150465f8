-- The module opens, and its first step calls the entry.
use Rattle.std.proofs.Common.{◌≡◌, ℕ, List, [], ◌∷◌, slice_get, Option, Some, None, refl, ap, ap₂, ◌∙◌}
use Rattle.std.specs.Prelude.{Ok}
use Rattle.spec_loading.specs.wasm_form.declared.module.Module.{Module}
use Rattle.spec_loading.specs.wasm_form.declared.module.Import.{Import}
use Rattle.spec_loading.specs.wasm_form.declared.module.ImportDesc.{ImportDesc}
use Rattle.spec_loading.specs.wasm_form.declared.module.ImportDesc.TheVariants as imported
use Rattle.spec_loading.specs.wasm_form.declared.types.FuncType.{FuncType}
use Rattle.spec_loading.specs.wasm_form.declared.runtime.Ref.{Ref}
use Rattle.spec_loading.specs.wasm_form.declared.runtime.Ref.TheVariants.{Own}
use Rattle.spec_loading.specs.spec_binary.Options.{◌>>=◌}
use Rattle.spec_loading.specs.spec_binary.Indices.{Function, function_at, nullary}
use Rattle.spec_loading.specs.spec_runtime.Memories.{MemoryInstance}
use Rattle.spec_loading.specs.spec_runtime.Names.{HostNames}
use Rattle.spec_loading.specs.spec_execution.Instances.{ModuleParts, module_target, module_view, module_hosts}
use Rattle.spec_loading.specs.spec_execution.Runs.{call, call_own, became}
use Rattle.spec_loading.specs.spec_execution.OneModule.{ModuleState, module_step, module_opening, module_entry, import_met, met_then, imports_met, opened_state, opened_after, opened_with}
use Rattle.snap_module.specs.Held.{Contents, held, held_parts, CanBeHeld}
use Rattle.snap_module.specs.Laws.{IsStart, entered_state}
use Rattle.snap_module.proofs.Opens.{held_opens}

module _ (m : Module) (entry : ℕ) (p : ModuleParts) (memory : MemoryInstance) (c : Contents) where
  abbrev N : Module
  N = held m entry p memory c

  pub entry_found : IsStart m entry → module_entry N ≡ Some entry
  entry_found is = rw (is.own, is.nullary) refl

  typed_still : (names : HostNames) (i : Import) (t : ℕ) → i.desc ≡ imported.Func t → (o : Option FuncType) → slice_get m.types t ≡ o → import_met N names i ≡ import_met m names i
  typed_still names i t e None q = rw (e, q) refl
  typed_still names i t e (Some ty) q = rw (e, q) refl

  one_still : (names : HostNames) (i : Import) → import_met N names i ≡ import_met m names i
  one_still names i = go i.desc refl
    where
      go : (d : ImportDesc) → i.desc ≡ d → import_met N names i ≡ import_met m names i
      go (imported.Func t) q = typed_still names i t q (slice_get m.types t) refl
      go (imported.Table ty) q = rw q refl
      go (imported.Space limits) q = rw q refl
      go (imported.Global ty) q = rw q refl

  imports_still : (names : HostNames) (is : List Import) → imports_met N names is ≡ imports_met m names is
  imports_still names [] = refl
  imports_still names (i ∷ is) = ap₂ met_then (one_still names i) (imports_still names is)

  pub opens : (names : HostNames) → CanBeHeld m p memory c → IsStart m entry → imports_met m names m.imports ≡ Ok tt
      → module_opening N names ≡ Ok (opened_state N entry (held_parts p c) memory)
  opens names can is met =
      ap (opened_after N) (imports_still names m.imports ∙ met)
      ∙ ap₂ (opened_with N) (entry_found is) (held_opens m entry p memory c can)

  pub enters : (x : Function) → module_target m entry ≡ Some (Own 0 entry) → function_at m entry ≡ Some x → x.ty ≡ nullary
      → module_step N (opened_state N entry (held_parts p c) memory) ≡ Some (entered_state entry x (held_parts p c) memory)
  enters x target found ty =
      let s : ModuleState = opened_state N entry (held_parts p c) memory in
      ap (λ (o : Option Ref). (o >>= call (module_view m) s.units s.memory (λ values. []) []) >>= became (module_hosts m) s) target
      ∙ ap (λ (o : Option Function). (o >>= call_own s.units s.memory (λ values. []) [] 0 entry) >>= became (module_hosts m) s) found
      ∙ rw ty refl
