-- What is served where no set is linked, or no module is read.
use Rattle.std.proofs.Common.{◌≡◌, ℕ, List, false, Ok, Err, refl, ◌∙◌, inl}
use Rattle.spec_hosts.specs.dyl_outside.Files.{FilesState}
use Rattle.spec_hosts.specs.dyl_outside.FileMap.{FileMap}
use Rattle.spec_hosts.specs.dyl_outside.Sink.{SinkState}
use Rattle.spec_hosts.specs.spec_runtime.Names.{HostNames}
use Rattle.spec_hosts.specs.Devices.{Devices}
use Rattle.spec_hosts.specs.Hosted.{Embedder}
use Rattle.spec_loading.specs.spec_linking.Sets as sets
use Rattle.spec_loading.specs.spec_linking.Plans as plans
use Rattle.spec_loading.specs.spec_linking.declared.fault.SetFault.{SetFault}
use Rattle.spec_loading.specs.spec_linking.declared.fault.SetFault.TheVariants as set
use Rattle.dyl_link.specs.dyl_search.declared.set.SetOptions.{SetOptions}
use Rattle.dyl_link.specs.dyl_search.Gathers.{options_of}
use Rattle.dyl_link.specs.declared.options.LinkOptions.{LinkOptions}
use Rattle.dyl_link.specs.Sets as links
use Rattle.dyl_front.specs.declared.order.Order.TheVariants as order
use Rattle.dyl_front.specs.declared.outcome.Outcome.{Outcome}
use Rattle.dyl_front.specs.declared.outcome.Outcome.TheVariants.{Set, Link, Memory}
use Rattle.std.specs.Prelude.{Option}
use Rattle.dyl_commands.specs.Due.{is_done}
use Rattle.dyl_commands.specs.Fetched.{ReadsFile}
use Rattle.dyl_commands.specs.Runs.{no_picks, PlanWorks, RunWorks, Works}
use Rattle.dyl_commands.specs.Served.{Serves, IsNotGot, set_outcome}

module _ (names : HostNames) (o : SetOptions) (l : LinkOptions) (old new : FilesState) (before now : ℕ) (same : new.told ≡ old.told) where
  pub merge_refused : (out : List ℕ) (answer : Outcome) → IsNotGot names (options_of o) (links.options_of l) answer old new → Serves names (Ok (order.Merge o l out)) answer old new before now
  merge_refused out Memory h = record { tells = λ files told. tt; leaves = λ files told. inl (same ∙ told); caused = tt; inner = refl }
  merge_refused out (Set fault) h = of_set fault h
    where
      of_set : (f : SetFault) → IsNotGot names (options_of o) (links.options_of l) (Set f) old new → Serves names (Ok (order.Merge o l out)) (Set f) old new before now
      of_set (set.ReadFault at) h = record { tells = h.tells; leaves = λ files told. same ∙ told; caused = h.caused; inner = refl }
      of_set f h = record { tells = h.tells; leaves = λ files told. same ∙ told; caused = h.caused; inner = h.inner }
  merge_refused out (Link fault) h = record { tells = h.tells; leaves = λ files told. same ∙ told; caused = tt; inner = h.inner }
  merge_refused out _ h = absurd h.caused

  pub snap_refused : (steps : ℕ) (out : List ℕ) (answer : Outcome) → IsNotGot names (options_of o) (links.options_of l) answer old new → Serves names (Ok (order.Snap o l steps out)) answer old new before now
  snap_refused steps out Memory h = record { tells = λ files told. tt; leaves = λ files told. inl (same ∙ told); caused = tt; inner = refl }
  snap_refused steps out (Set fault) h = of_set fault h
    where
      of_set : (f : SetFault) → IsNotGot names (options_of o) (links.options_of l) (Set f) old new → Serves names (Ok (order.Snap o l steps out)) (Set f) old new before now
      of_set (set.ReadFault at) h = record { tells = h.tells; leaves = λ files told. same ∙ told; caused = h.caused; inner = refl }
      of_set f h = record { tells = h.tells; leaves = λ files told. same ∙ told; caused = h.caused; inner = h.inner }
  snap_refused steps out (Link fault) h = record { tells = h.tells; leaves = λ files told. same ∙ told; caused = tt; inner = h.inner }
  snap_refused steps out _ h = absurd h.caused

  pub run_refused : (steps : ℕ) (args : List (List ℕ)) (answer : Outcome) → IsNotGot names (options_of o) (links.options_of l) answer old new
      → Serves names (Ok (order.Run o l steps args)) answer old new before now
  run_refused steps args Memory h = record { tells = λ files told. tt; leaves = λ files told. same ∙ told; caused = tt; inner = refl }
  run_refused steps args (Set fault) h = of_set fault h
    where
      of_set : (f : SetFault) → IsNotGot names (options_of o) (links.options_of l) (Set f) old new → Serves names (Ok (order.Run o l steps args)) (Set f) old new before now
      of_set (set.ReadFault at) h = record { tells = h.tells; leaves = λ files told. same ∙ told; caused = h.caused; inner = refl }
      of_set f h = record { tells = h.tells; leaves = λ files told. same ∙ told; caused = h.caused; inner = h.inner }
  run_refused steps args (Link fault) h = record { tells = h.tells; leaves = λ files told. same ∙ told; caused = tt; inner = h.inner }
  run_refused steps args _ h = absurd h.caused

  pub plan_refused : (answer : Outcome) → IsNotGot names (options_of o) (links.options_of l) answer old new → Serves names (Ok (order.Plan o l)) answer old new before now
  plan_refused Memory h = record { tells = λ files told. tt; leaves = λ files told. same ∙ told; caused = tt; inner = refl }
  plan_refused (Set fault) h = of_set fault h
    where
      of_set : (f : SetFault) → IsNotGot names (options_of o) (links.options_of l) (Set f) old new → Serves names (Ok (order.Plan o l)) (Set f) old new before now
      of_set (set.ReadFault at) h = record { tells = h.tells; leaves = λ files told. same ∙ told; caused = h.caused; inner = refl }
      of_set f h = record { tells = h.tells; leaves = λ files told. same ∙ told; caused = h.caused; inner = h.inner }
  plan_refused (Link fault) h = record { tells = h.tells; leaves = λ files told. same ∙ told; caused = tt; inner = h.inner }
  plan_refused _ h = absurd h.caused

  -- and nothing is done
  pub plan_idle : (told : Option FileMap) (answer : Outcome) (sink : SinkState) → IsNotGot names (options_of o) (links.options_of l) answer old new
      → PlanWorks told names (options_of o) (links.options_of l) answer sink sink
  plan_idle told Memory sink h = inl refl
  plan_idle told (Set fault) sink h = refl
  plan_idle told (Link fault) sink h = refl
  plan_idle told _ sink h = absurd h.caused

  pub run_idle : (told : Option FileMap) (steps : ℕ) (embedder : Embedder) (answer : Outcome) (begun : Devices) → IsNotGot names (options_of o) (links.options_of l) answer old new
      → RunWorks told (options_of o) (links.options_of l) steps embedder answer begun begun
  run_idle told steps embedder Memory begun h = inl refl
  run_idle told steps embedder (Set fault) begun h = refl
  run_idle told steps embedder (Link fault) begun h = refl
  run_idle told steps embedder _ begun h = absurd h.caused

-- the one file that is run
pub exec_refused : (names : HostNames) (path : List ℕ) (steps : ℕ) (args : List (List ℕ)) (fault : SetFault) (old new : FilesState) (before now : ℕ) → ReadsFile path (Err fault) old new
    → Serves names (Ok (order.Exec path steps args)) (set_outcome fault) old new before now
exec_refused names path steps args set.Memory old new before now h = record { tells = λ files told. tt; leaves = λ files told. h.files ∙ told; caused = tt; inner = refl }
exec_refused names path steps args (set.ReadFault at) old new before now h = record { tells = λ files told. h.caused.0; leaves = λ files told. h.files ∙ told; caused = h.caused; inner = refl }
exec_refused names path steps args fault old new before now h = record { tells = h.tells; leaves = λ files told. h.files ∙ told; caused = h.caused; inner = h.inner }

pub refused_works : (told : Option FileMap) (embedder : List (List ℕ) → Embedder) (file : List ℕ) (steps : ℕ) (args : List (List ℕ)) (fault : SetFault) (old : Devices)
    → Works told embedder no_picks (Ok (order.Exec file steps args)) (set_outcome fault) old old
refused_works told embedder file steps args set.Memory old = inl refl
refused_works told embedder file steps args fault old = refl

-- where no set is linked, a run isn't Done
pub refused_not_done : (names : HostNames) (o : sets.SetOptions) (l : plans.LinkOptions) (old new : FilesState) (answer : Outcome) → IsNotGot names o l answer old new → is_done answer ≡ false
refused_not_done names o l old new (Set fault) h = refl
refused_not_done names o l old new (Link fault) h = refl
refused_not_done names o l old new Memory h = refl
refused_not_done names o l old new _ h = absurd h.caused
