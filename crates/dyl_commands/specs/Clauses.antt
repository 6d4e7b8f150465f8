-- What is said of the devices where a host table answers, in short words.
-- Cited by the clause `does` of `serve`.
-- This profile: docs/FORMATS.md, "The commands".
use Rattle.std.specs.Prelude.{ℕ, List, [], Bool, Result, Ok}
use Rattle.wasm_form.specs.declared.module.Module.{Module}
use Rattle.spec_loading.specs.spec_linking.LinkedSets.{LinkedSet}
use Rattle.spec_hosts.specs.dyl_outside.Files.{FilesState}
use Rattle.spec_hosts.specs.dyl_outside.Source.{SourceState}
use Rattle.spec_hosts.specs.dyl_outside.Sink.{SinkState}
use Rattle.spec_hosts.specs.dyl_outside.Ambient.{AmbientState}
use Rattle.spec_hosts.specs.Devices.{devices}
use Rattle.dyl_link.specs.host_table.declared.entry.HostTable.{HostTable}
use Rattle.host_calls.specs.Embedders.{embedder_of}
use Rattle.dyl_link.specs.dyl_search.declared.set.SetOptions.{SetOptions}
use Rattle.dyl_link.specs.declared.options.LinkOptions.{LinkOptions}
use Rattle.dyl_front.specs.declared.order.Order.{Order}
use Rattle.dyl_front.specs.declared.order.Order.TheVariants.{Run, Exec, Trace, Board}
use Rattle.dyl_front.specs.declared.outcome.UsageKind.{UsageKind}
use Rattle.dyl_front.specs.declared.outcome.Outcome.{Outcome}
use Rattle.dyl_commands.specs.Runs.{guest_arguments, Picks, no_picks, Works, Does}
use Rattle.dyl_commands.specs.Served.{ExecutesSet, RunsInTurns, ExecutesModule}

-- what is said of devices before and after, of their parts
abbrev pub OfParts : Type 1
OfParts = SourceState → SinkState → SinkState → AmbientState → SourceState → SinkState → SinkState → AmbientState → Type 0

module _ {X : Type 0} {F : X → Type 0} {g : _} where
  -- what an answer to what is asked does, where this may be picked
  abbrev pub DoesBy : HostTable X F g → Picks → FilesState → Result Order UsageKind → Outcome → OfParts
  DoesBy host pick files asked answer i o e a input output errors ambient =
      Does files.told (λ texts. embedder_of texts host) pick asked answer (devices i o e a) (devices input output errors ambient)

  -- the same before the answer is told
  abbrev pub WorksBy : HostTable X F g → Picks → FilesState → Order → Outcome → OfParts
  WorksBy host pick files order answer i o e a input output errors ambient =
      Works files.told (λ texts. embedder_of texts host) pick (Ok order) answer (devices i o e a) (devices input output errors ambient)

  -- for running a set, or the module at a path
  abbrev pub RunDoes : HostTable X F g → FilesState → SetOptions → LinkOptions → ℕ → List (List ℕ) → Outcome → OfParts
  RunDoes host files set link steps args = DoesBy host no_picks files (Ok (Run set link steps args))

  abbrev pub RunWorksBy : HostTable X F g → FilesState → SetOptions → LinkOptions → ℕ → List (List ℕ) → Outcome → OfParts
  RunWorksBy host files set link steps args = WorksBy host no_picks files (Run set link steps args)

  abbrev pub ExecDoes : HostTable X F g → FilesState → List ℕ → ℕ → List (List ℕ) → Outcome → OfParts
  ExecDoes host files file steps args = DoesBy host no_picks files (Ok (Exec file steps args))

  abbrev pub ExecWorksBy : HostTable X F g → FilesState → List ℕ → ℕ → List (List ℕ) → Outcome → OfParts
  ExecWorksBy host files file steps args = WorksBy host no_picks files (Exec file steps args)

  -- for running a set or a module, and writing the trace
  abbrev pub TraceDoes : HostTable X F g → FilesState → Bool → SetOptions → LinkOptions → ℕ → List ℕ → List (List ℕ) → Outcome → OfParts
  TraceDoes host files one set link steps out args = DoesBy host no_picks files (Ok (Trace one set link steps out args))

  abbrev pub TraceWorksBy : HostTable X F g → FilesState → Bool → SetOptions → LinkOptions → ℕ → List ℕ → List (List ℕ) → Outcome → OfParts
  TraceWorksBy host files one set link steps out args = WorksBy host no_picks files (Trace one set link steps out args)

  -- for running several sets in turns
  abbrev pub BoardDoes : HostTable X F g → Picks → FilesState → List (List ℕ) → LinkOptions → ℕ → ℕ → ℕ → Outcome → OfParts
  BoardDoes host pick files mains link steps slice turns = DoesBy host pick files (Ok (Board mains link steps slice turns))

  abbrev pub BoardWorksBy : HostTable X F g → Picks → FilesState → List (List ℕ) → LinkOptions → ℕ → ℕ → ℕ → Outcome → OfParts
  BoardWorksBy host pick files mains link steps slice turns = WorksBy host pick files (Board mains link steps slice turns)

  -- what running a linked set does
  abbrev pub SetRuns : HostTable X F g → LinkedSet → List (List ℕ) → ℕ → Outcome → OfParts
  SetRuns host L args steps answer i o e a input output errors ambient =
      ExecutesSet L (embedder_of (guest_arguments args) host) steps answer (devices i o e a) (devices input output errors ambient)

  -- what running linked sets in turns does
  abbrev pub SetsRun : HostTable X F g → Picks → List LinkedSet → ℕ → ℕ → ℕ → Outcome → OfParts
  SetsRun host pick Ls steps slice turns answer i o e a input output errors ambient =
      RunsInTurns Ls (embedder_of (guest_arguments []) host) steps slice turns pick answer (devices i o e a) (devices input output errors ambient)

  -- what running a module that was read does
  abbrev pub ModuleDoes : HostTable X F g → Module → List (List ℕ) → ℕ → Outcome → OfParts
  ModuleDoes host wasm args steps answer i o e a input output errors ambient =
      ExecutesModule wasm (embedder_of (guest_arguments args) host) steps answer (devices i o e a) (devices input output errors ambient)
