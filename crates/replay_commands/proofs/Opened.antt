-- A program that is opened, and what begins so.
use Rattle.std.proofs.Common.{◌≡◌, ℕ, List, sym, subst}
use Rattle.std.specs.Borrow.{Bor}
use Rattle.wasm_form.specs.declared.module.Module.{Module}
use Rattle.spec_hosts.specs.dyl_outside.Files.{FilesState}
use Rattle.spec_hosts.specs.declared.ran.Ran as ran
use Rattle.spec_hosts.specs.spec_runtime.Names.{HostNames}
use Rattle.run_loaded.specs.Courses.{Origin, OfModule, OfSet}
use Rattle.replay_check.specs.declared.program.Program.TheVariants as program
use Rattle.replay_check.specs.Checks.{IsOpened}
use Rattle.dyl_front.specs.declared.outcome.Outcome.{Outcome}
use Rattle.dyl_commands.specs.Served.{BeginsAsModule}
use Rattle.replay_commands.specs.Tracing.{WasMade, StoresTrace}
use Rattle.replay_commands.proofs.Tracing.{stores_for}

pub opened_module : (wasm : Bor Module) (names : Bor HostNames) (x : Origin) → IsOpened (program.One wasm names) x → BeginsAsModule wasm.now names.now x
opened_module wasm names (OfSet L) is = absurd is
opened_module wasm names (OfModule m opening) is = is

pub module_opened : (wasm : Bor Module) (names : Bor HostNames) (x : Origin) → BeginsAsModule wasm.now names.now x → IsOpened (program.One wasm names) x
module_opened wasm names (OfSet L) is = absurd is
module_opened wasm names (OfModule m opening) is = is

-- a run that was made of all that begins so was made of the same that begins otherwise
made_of : (Is Also : Origin → Type 0) (r : ran.Ran) → ((x : Origin) → Is x → Also x) → ((x : Origin) → Also x → Is x) → WasMade Is r → WasMade Also r
made_of Is Also r there back h = record { some = (h.some.0, there h.some.0 h.some.1); runs = λ x also. h.runs x (back x also); steps = h.steps }

-- of a module over the same host functions
module _ (wasm : Bor Module) (names : Bor HostNames) (host : HostNames) (same : names.now ≡ host) (r : ran.Ran) where
  pub made_opened : WasMade (BeginsAsModule wasm.now host) r → WasMade (IsOpened (program.One wasm names)) r
  made_opened h =
      made_of (BeginsAsModule wasm.now names.now) (IsOpened (program.One wasm names)) r (module_opened wasm names) (opened_module wasm names) (subst (λ n. WasMade (BeginsAsModule wasm.now n) r) (sym same) h)

  pub stored_begins : (out : List ℕ) (answer : Outcome) (old new : FilesState) → StoresTrace (IsOpened (program.One wasm names)) r out answer old new → StoresTrace (BeginsAsModule wasm.now host) r out answer old new
  stored_begins out answer old new h =
      subst (λ n. StoresTrace (BeginsAsModule wasm.now n) r out answer old new) same
      (stores_for (IsOpened (program.One wasm names)) (BeginsAsModule wasm.now names.now) r out answer old new (module_opened wasm names) h)
