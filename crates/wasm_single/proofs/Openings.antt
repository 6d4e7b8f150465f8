-- The opening of a run.
use Rattle.std.proofs.Common.{◌≡◌, ℕ, List, length, Some, None, Ok, refl, ap, ◌∙◌, sym, subst}
use Rattle.std.specs.Prelude.{Vec}
use Rattle.std.specs.Borrow.{Bor}
use Rattle.std.specs.declared.alloc.Global.{Global}
use Rattle.std.proofs.lemmas.List.{length-map}
use Rattle.wasm_form.specs.declared.module.Import.{Import}
use Rattle.wasm_form.specs.declared.module.Module.{Module}
use Rattle.spec_safety.specs.spec_binary.WellFormed.{IsWellFormed}
use Rattle.spec_safety.specs.spec_validation.Faults.{fault}
use Rattle.spec_safety.specs.spec_runtime.Names.{HostNames}
use Rattle.spec_safety.specs.spec_execution.Instances.{module_view}
use Rattle.spec_safety.specs.spec_binary.IndexSpaces.{imported_count}
use Rattle.spec_safety.specs.spec_execution.OneModule.{ModuleState, imports_met, module_entry, segments_performed, opened_state, opened_with, opened_after}
use Rattle.spec_safety.specs.Laws.{IsAlone}
use Rattle.spec_safety.specs.SoundModules.{HoldsBytes, HoldsNumbers, IsSound}
use Rattle.spec_safety.specs.NeverStuck.{CheckedIsSound, ModuleOpensSound}
use Rattle.host_table.specs.Names.{host_name_of}
use Rattle.host_table.specs.declared.host.HostName.{HostName}
use Rattle.wasm_instance.specs.States.{InstanceState}
use Rattle.spec_safety.specs.spec_execution.Segments.{goes_on}
use Rattle.wasm_machine.specs.Stacks.{empty_stack}
use Rattle.wasm_machine.specs.declared.machine.Standing.TheVariants.{Moving}
use Rattle.wasm_single.specs.declared.bare_run.Core.{Core}
use Rattle.wasm_single.specs.declared.bare_run.Phase.TheVariants.{Opened}
use Rattle.wasm_single.specs.Starts.{Meets, opened}
use Rattle.wasm_single.specs.Cores.{IsCore}
use Rattle.wasm_single.proofs.Entries.{entry_is, start_is}
use Rattle.wasm_single.proofs.Imports.{hosts_counted, functions_alone}

-- ---- imports

pub met_of : (m now : Module) (names : HostNames) (imports : List Import) (hosts : Vec HostName Global) → m ≡ now → imports ≡ m.imports → Meets m names imports (Ok hosts) → Meets now names now.imports (Ok hosts)
met_of m now names imports hosts same all met =
    subst (λ (x : Module). Meets x names x.imports (Ok hosts)) same (subst (λ (is : List Import). Meets m names is (Ok hosts)) all met)

pub hosts_are_counted : (m : Module) (names : HostNames) (hosts : Vec HostName Global) → Meets m names m.imports (Ok hosts) → length hosts.items ≡ imported_count m
hosts_are_counted m names hosts met = sym (length-map hosts.items host_name_of) ∙ ap length met.1 ∙ hosts_counted m names m.imports met.0

-- ---- the opening state

-- the core over an instance, before its first step
abbrev core_of : Bor Module → ℕ → InstanceState → Core
core_of checked entry i = record { checked = checked; instance = i; machine = record { stack = empty_stack; standing = Moving }; start = checked.now.start; entry = entry; phase = Opened }

-- the instance is that of the module in its opening state
abbrev IsOpened : Module → InstanceState → Type 0
IsOpened m i = (i.wasm ≡ m) × (segments_performed m ≡ Some (goes_on i.parts i.memory))

module _ (m : Module) (entry : ℕ) (i : InstanceState) (found : module_entry m ≡ Some entry) (is : IsOpened m i) where
  pub opening : ModuleState
  opening = opened_state m entry i.parts i.memory

  opens : opened m ≡ Ok opening
  unfolding opening
  opens = ap (λ e. opened_with m e (segments_performed m)) found ∙ ap (opened_with m (Some entry)) is.1

  pub origin_is : (o : ModuleState) × (opened m ≡ Ok o)
  origin_is = (opening, opens)

-- what was found of the module says that the run is kept as it should
module _ (checked : Bor Module) (entry : ℕ) (i : InstanceState) (found : module_entry checked.now ≡ Some entry) (is : IsOpened checked.now i)
    (names : HostNames) (met : imports_met checked.now names checked.now.imports ≡ Ok tt) (formed : IsWellFormed checked.now) (valid : fault checked.now ≡ None)
    (numbers : HoldsNumbers checked.now) (bytes : HoldsBytes checked.now) (views : CheckedIsSound) (opens_sound : ModuleOpensSound) where
  alone : IsAlone checked.now
  alone = record { formed = formed; valid = valid; imports = functions_alone checked.now names checked.now.imports met }

  sound : IsSound checked.now (opening checked.now entry i found is)
  sound =
      let m = checked.now in
      opens_sound m names (opening m entry i found is) alone numbers bytes (ap (opened_after m) met ∙ opens m entry i found is)

  pub core_is : IsCore (core_of checked entry i)
  unfolding opening
  core_is =
      let m = checked.now in
      let e = entry_is m entry found in
      record {
        fixed = ap module_view is.0;
        over = record {
          view = views m alone numbers;
          units = sound.units;
          memory = sound.memory;
          stack = refl;
          locals = tt;
          rooms = refl;
          asked = tt;
        };
        live = refl;
        start = start_is m valid;
        entry = e.startable;
        own = e.own;
      }
