-- What a merged module must have for the functions of the loader.
-- Part of the statement of laws: docs/LAWS.md, "Laws of the parts".
use Rattle.std.specs.Prelude.{◌≡◌, ℕ, ◌+◌, ◌<◌, ◌^◌, length}
use Rattle.wasm_form.specs.declared.module.Module.{Module}
use Rattle.wasm_form.specs.declared.runtime.LoaderCall.{LoaderCall}
use Rattle.wasm_form.specs.declared.runtime.Ref.TheVariants.{Loader}
use Rattle.spec_loading.specs.spec_execution.Views.{loader_type}
use Rattle.spec_loading.specs.spec_linking.Plans.{texts_size}
use Rattle.spec_loading.specs.spec_linking.LinkedSets.{LinkedSet}
use Rattle.spec_loading.specs.spec_linking.Slots.{linked_plan}
use Rattle.merge_match.specs.Renumbering.{Numbers}
use Rattle.merge_start.specs.Words.{Starts}
use Rattle.merge_start.specs.Started.{OpenReady}
use Rattle.merge_dl.specs.Words.{Finders, call_body}
pub use Rattle.merge_dl.specs.Called.{HasFunction}
use Rattle.merge_dl.specs.Called.{GivesLengths, SearchesMember}

-- The texts of errors have addresses; the functions of the loader stand at their numbers, and what stands at those of the length of a string
-- and of the searches does what these do; the global of the error comes behind the guards, and those of promoted members behind that.
pub record LoaderReady (L : LinkedSet) (n : Numbers) (x : Starts) (d : Finders) (merged : Module) : Type 0 where
  pub texts : (linked_plan L).stack_top + texts_size < 2 ^ 32
  pub error : d.error ≡ x.guards + length L.set.members
  pub promoted : x.promoted ≡ x.guards + length L.set.members + 1
  pub lengths : GivesLengths merged d.length
  pub finds : (m : ℕ) → m < length L.set.members → SearchesMember 8 L m merged (d.find m)
  pub calls : (which : LoaderCall) → HasFunction merged (n.function (Loader which)) (loader_type which) (call_body L x d which)
  pub opens : (m : ℕ) → m < length L.set.members → OpenReady L n x merged m
