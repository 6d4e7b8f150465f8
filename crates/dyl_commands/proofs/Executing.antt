-- What comes of a module that was read and is run.
use Rattle.std.proofs.Common.{◌≡◌, ℕ, List, false, None, Result, Ok, Err, refl, ap, ◌∙◌, subst, inl, inr, sym}
use Rattle.wasm_form.specs.declared.module.Module.{Module}
use Rattle.spec_hosts.specs.dyl_outside.Files.{FilesState}
use Rattle.spec_loading.specs.spec_validation.Faults as validation
use Rattle.spec_loading.specs.spec_execution.declared.fault.SingleFault.{SingleFault}
use Rattle.spec_loading.specs.spec_execution.declared.fault.SingleFault.TheVariants as single
use Rattle.spec_loading.specs.spec_execution.OneModule.{ModuleState, module_opening}
use Rattle.spec_hosts.specs.declared.ran.Ran as ran
use Rattle.spec_hosts.specs.spec_runtime.Names.{HostNames}
use Rattle.spec_hosts.specs.Devices.{Devices}
use Rattle.spec_hosts.specs.Hosted.{Embedder}
use Rattle.wasm_exec.specs.Executed as run
use Rattle.run_loaded.specs.Courses.{Origin, OfModule, OfSet, course_of, TakesAll}
use Rattle.dyl_front.specs.declared.outcome.Outcome.{Outcome}
use Rattle.dyl_front.specs.declared.outcome.Outcome.TheVariants.{Ran, Single, Memory}
use Rattle.dyl_front.specs.declared.order.Order.TheVariants as order
use Rattle.dyl_commands.specs.Due.{is_done}
use Rattle.dyl_commands.specs.Fetched.{ReadsFile}
use Rattle.dyl_commands.specs.Runs.{guest_arguments, ExecWorks}
use Rattle.spec_loading.specs.spec_linking.declared.fault.SetFault.{SetFault}
use Rattle.spec_loading.specs.spec_linking.declared.fault.SetFault.TheVariants as set
use Rattle.dyl_commands.specs.Served.{Serves, ExecutesModule, set_outcome, BeginsAsModule}

module _ (embedder : List (List ℕ) → Embedder) (path : List ℕ) (steps : ℕ) (args : List (List ℕ)) (wasm : Module) (old mid : FilesState) (read : ReadsFile path (Ok wasm) old mid) (begun now : Devices) where
  -- the arguments that the guest sees make no difference to the names
  module _ (E : Embedder) (is : E ≡ embedder (guest_arguments args)) where
    exec_serves : (answer : Outcome) → ExecutesModule wasm E steps answer begun now → (before after : ℕ) → Serves E.names (Ok (order.Exec path steps args)) answer old mid before after
    exec_serves (Ran r) h before after = record {
      tells = λ files told. record { wasm = wasm; file = read.tells files told; opening = h.0; opens = h.1 };
      leaves = λ files told. read.files ∙ told;
      caused = tt;
      inner = refl;
    }
    exec_serves (Single single.Memory) h before after = absurd h
    exec_serves (Single fault) h before after = record {
      tells = λ files told. record { wasm = wasm; file = read.tells files told; refused = h.0 };
      leaves = λ files told. read.files ∙ told;
      caused = tt;
      inner = refl;
    }
    exec_serves Memory h before after = record { tells = λ files told. tt; leaves = λ files told. read.files ∙ told; caused = tt; inner = refl }
    exec_serves _ h before after = absurd h

  pub executed_serves : (answer : Outcome) → ExecutesModule wasm (embedder (guest_arguments args)) steps answer begun now → (before after : ℕ)
      → Serves (embedder (guest_arguments args)).names (Ok (order.Exec path steps args)) answer old mid before after
  executed_serves answer h before after = exec_serves (embedder (guest_arguments args)) refl answer h before after

  -- it is valid
  pub is_valid : validation.fault wasm ≡ None
  is_valid = ap validation.fault read.spelled.said.2.0 ∙ read.spelled.said.2.1

  unfoldable pub executed_works : (answer : Outcome) → ExecutesModule wasm (embedder (guest_arguments args)) steps answer begun now → ExecWorks old.told path steps (embedder (guest_arguments args)) answer begun now
  executed_works (Ran r) h = record { wasm = wasm; opening = h.0; begun = record { file = read.tells; valid = is_valid; opens = h.1 }; run = h.2 }
  executed_works (Single single.Memory) h = absurd h
  executed_works (Single fault) h = h.1
  executed_works Memory (inl same) = inl same
  executed_works Memory (inr cut) = inr (record { wasm = wasm; opening = cut.0; begun = record { file = read.tells; valid = is_valid; opens = cut.1 }; cut = cut.2 })
  executed_works _ h = absurd h

-- the arguments are those that the guest sees
pub with_arguments : (wasm : Module) (embedder : List (List ℕ) → Embedder) (texts wanted : List (List ℕ)) → texts ≡ wanted → (steps : ℕ) (r : Result ran.Ran SingleFault) (old new : Devices)
    → run.Executes wasm (embedder texts) steps r old new → run.Executes wasm (embedder wanted) steps r old new
with_arguments wasm embedder texts wanted same steps r old new h = subst (λ t. run.Executes wasm (embedder t) steps r old new) same h

-- a run never answers Done
pub never_done : (wasm : Module) (embedder : Embedder) (steps : ℕ) (answer : Outcome) (old new : Devices) → ExecutesModule wasm embedder steps answer old new → is_done answer ≡ false
never_done wasm embedder steps (Ran r) old new h = refl
never_done wasm embedder steps (Single fault) old new h = refl
never_done wasm embedder steps Memory old new h = refl
never_done wasm embedder steps _ old new h = absurd h

pub set_not_done : (fault : SetFault) → is_done (set_outcome fault) ≡ false
set_not_done set.Memory = refl
set_not_done fault = refl

pub memory_is : (wasm : Module) (embedder : Embedder) (steps : ℕ) (fault : SingleFault) (old new : Devices) → fault ≡ single.Memory → run.Executes wasm embedder steps (Err fault) old new → ExecutesModule wasm embedder steps Memory old new
memory_is wasm embedder steps fault old new is h = subst (λ f. run.IsRefused wasm embedder steps f old new) is h

-- a run took all its answers
pub module_takes : (wasm : Module) (names : HostNames) (r : ran.Ran) → ((opening : ModuleState) → module_opening wasm names ≡ Ok opening → TakesAll (course_of (OfModule wasm opening)) r) → (x : Origin) → BeginsAsModule wasm names x
    → TakesAll (course_of x) r
module_takes wasm names r taken (OfSet L) is = absurd is
module_takes wasm names r taken (OfModule m opening) is = subst (λ w. TakesAll (course_of (OfModule w opening)) r) (sym is.0) (taken opening is.1)
