-- What comes of running a set that links.
use Rattle.std.proofs.Common.{◌≡◌, ℕ, List, false, Some, Ok, refl, ◌∙◌, subst, inl, inr}
use Rattle.std.specs.FinMap.{get}
use Rattle.spec_hosts.specs.dyl_outside.FileMap.{FileMap}
use Rattle.spec_hosts.specs.dyl_outside.Files.{FilesState}
use Rattle.spec_hosts.specs.declared.ran.Ran as ran
use Rattle.spec_hosts.specs.Devices.{Devices}
use Rattle.spec_hosts.specs.Hosted.{Embedder}
use Rattle.spec_loading.specs.spec_linking.LinkedSets.{LinkedSet}
use Rattle.dyl_link.specs.dyl_search.declared.set.SetOptions.{SetOptions}
use Rattle.dyl_link.specs.dyl_search.Gathers.{options_of}
use Rattle.dyl_link.specs.declared.options.LinkOptions.{LinkOptions}
use Rattle.dyl_link.specs.Sets as links
use Rattle.wasm_exec.specs.Executed.{IsSetRun, IsSetCut}
use Rattle.run_loaded.specs.Courses.{Origin, OfModule, OfSet, course_of, TakesAll}
use Rattle.dyl_front.specs.declared.order.Order.TheVariants as order
use Rattle.dyl_front.specs.declared.outcome.Outcome.{Outcome}
use Rattle.dyl_front.specs.declared.outcome.Outcome.TheVariants.{Ran, Memory}
use Rattle.dyl_commands.specs.Linking.{LinksAt}
use Rattle.dyl_commands.specs.Due.{is_done}
use Rattle.dyl_commands.specs.Runs.{IsThere, RunWorks}
use Rattle.dyl_commands.specs.Served.{Serves, Gets, ExecutesSet, BeginsAsSet}

module _ (embedder : Embedder) (o : SetOptions) (l : LinkOptions) (steps : ℕ) (L : LinkedSet) (old new : FilesState) (gets : Gets embedder.names (options_of o) (links.options_of l) (Ok L) old new) (begun now : Devices) where
  links_at : (files : FileMap) → old.told ≡ Some files → LinksAt embedder.names (get files) (options_of o) (links.options_of l)
  links_at files told = record { set = gets.got.set; gathered = gets.got.gathered files told; links = gets.got.links }

  abbrev pub there : IsThere old.told embedder.names (options_of o) (links.options_of l) gets.got.set
  there = record { gathered = gets.got.gathered; shape = gets.got.shape; links = gets.got.links }

  pub run_serves : (args : List (List ℕ)) (answer : Outcome) → ExecutesSet L embedder steps answer begun now → (before after : ℕ) → Serves embedder.names (Ok (order.Run o l steps args)) answer old new before after
  run_serves args (Ran r) h before after = record { tells = links_at; leaves = λ files told. gets.files ∙ told; caused = tt; inner = refl }
  run_serves args Memory h before after = record { tells = λ files told. tt; leaves = λ files told. gets.files ∙ told; caused = tt; inner = refl }
  run_serves args _ h before after = absurd h

  unfoldable pub run_works : (answer : Outcome) → ExecutesSet L embedder steps answer begun now → RunWorks old.told (options_of o) (links.options_of l) steps embedder answer begun now
  run_works (Ran r) h = record { set = gets.got.set; there = there; run = subst (λ (M : LinkedSet). IsSetRun M embedder steps r begun now) gets.got.is h }
  run_works Memory (inl same) = inl same
  run_works Memory (inr cut) = inr (record { set = gets.got.set; there = there; cut = subst (λ (M : LinkedSet). IsSetCut M embedder steps begun now) gets.got.is cut })
  run_works _ h = absurd h

-- a run never answers Done
pub runs_not_done : (L : LinkedSet) (embedder : Embedder) (steps : ℕ) (answer : Outcome) (old new : Devices) → ExecutesSet L embedder steps answer old new → is_done answer ≡ false
runs_not_done L embedder steps (Ran r) old new h = refl
runs_not_done L embedder steps Memory old new h = refl
runs_not_done L embedder steps _ old new h = absurd h

-- it took all its answers
pub set_takes : (L : LinkedSet) (r : ran.Ran) → TakesAll (course_of (OfSet L)) r → (x : Origin) → BeginsAsSet L x → TakesAll (course_of x) r
set_takes L r taken (OfSet M) is = subst (λ (N : LinkedSet). TakesAll (course_of (OfSet N)) r) is taken
set_takes L r taken (OfModule m opening) is = absurd is
