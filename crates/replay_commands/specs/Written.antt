-- What `trace` writes: the trace of the run that was made.
-- Cited by the clause `writes` of `serve`.
-- This profile: docs/FORMATS.md, "The trace".
use Rattle.std.specs.Prelude.{◌≡◌, ◌⊎◌, ℕ, List, length, Bool, Some, IsSomeAnd, Result, Ok}
use Rattle.std.specs.Option.{ForSome}
use Rattle.std.specs.FinMap.{get, insert}
use Rattle.spec_hosts.specs.dyl_outside.Faults.{Rose}
use Rattle.spec_hosts.specs.dyl_outside.FileMap.{FileMap, SameBut}
use Rattle.spec_hosts.specs.dyl_outside.Files.{FilesState}
use Rattle.spec_hosts.specs.dyl_outside.Sink.{SinkState}
use Rattle.spec_hosts.specs.declared.ran.Ran as ran
use Rattle.spec_hosts.specs.spec_runtime.Names.{HostNames}
use Rattle.spec_hosts.specs.Devices.{Devices, devices}
use Rattle.spec_hosts.specs.Hosted.{Embedder}
use Rattle.spec_hosts.specs.Ends.{RunsTo, AreHosted}
use Rattle.spec_loading.specs.spec_linking.Sets.{SetOptions}
use Rattle.spec_loading.specs.spec_linking.Plans.{LinkOptions}
use Rattle.spec_traces.specs.declared.trace.Trace.{Trace}
use Rattle.spec_traces.specs.Texts.{IsTextOf}
use Rattle.spec_traces.specs.Traces.{IsTraceOf}
use Rattle.spec_traces.specs.Lawful.{IsLawful}
use Rattle.run_loaded.specs.Courses.{Origin, course_of}
use Rattle.dyl_link.specs.host_table.declared.entry.HostTable.{HostTable}
use Rattle.dyl_link.specs.dyl_search.declared.set.SetOptions as code
use Rattle.dyl_link.specs.dyl_search.Gathers.{options_of}
use Rattle.dyl_link.specs.declared.options.LinkOptions as code_links
use Rattle.dyl_link.specs.Sets as links
use Rattle.host_calls.specs.Embedders.{embedder_of}
use Rattle.dyl_front.specs.declared.order.Order.{Order}
use Rattle.dyl_front.specs.declared.order.Order.TheVariants as order
use Rattle.dyl_front.specs.declared.outcome.UsageKind.{UsageKind}
use Rattle.dyl_front.specs.declared.outcome.Outcome.{Outcome}
use Rattle.dyl_front.specs.declared.outcome.Outcome.TheVariants.{Ran, Memory}
use Rattle.dyl_commands.specs.Traced.{IsProgram, IsShort}
use Rattle.dyl_commands.specs.Runs.{guest_arguments}
use Rattle.dyl_commands.specs.Told.{TellsErrors}
use Rattle.dyl_commands.specs.Clauses.{OfParts}

-- The program that the files give was run, as is told, and the path of the output holds the text of the trace of that run, which isn't too long.
-- Every other path is as it was.
pub record IsWritten (names : HostNames) (one : Bool) (o : SetOptions) (link : LinkOptions) (steps : ℕ) (out : List ℕ) (r : ran.Ran) (files after : FileMap) : Type 0 where
  pub program : Origin
  pub gives : IsProgram names (get files) one o link program
  pub runs : RunsTo (course_of program).system (course_of program).deep (course_of program).opening steps r
  pub trace : Trace
  pub of_run : IsTraceOf (course_of program) r trace
  pub text : List ℕ
  pub of_trace : IsTextOf text trace
  pub short : IsShort (length text)
  pub written : after ≡ insert files out text

-- So it is of the run that did this to the devices; and each answer of WASI in its trace is one that the table of calls allows.
pub record IsWrittenOf (embedder : Embedder) (one : Bool) (o : SetOptions) (link : LinkOptions) (steps : ℕ) (out : List ℕ) (r : ran.Ran) (files after : FileMap) (old new : Devices) : Type 0 where
  pub is : IsWritten embedder.names one o link steps out r files after
  pub hosted : AreHosted (course_of is.program).system embedder (course_of is.program).opening r.steps r.answers old new
  pub lawful : IsLawful embedder.arguments (course_of is.program) is.trace

-- What is written where a run is told; and where memory was wanting, the trace of the run that was made, or nothing, or a write failed.
abbrev pub WritesTrace : Embedder → Bool → SetOptions → LinkOptions → ℕ → List ℕ → FileMap → Outcome → FilesState → FilesState → Devices → Devices → Type 0
WritesTrace embedder one o link steps out files (Ran r) old new begun now = IsSomeAnd new.told (λ after. IsWrittenOf embedder one o link steps out r files after begun now)
WritesTrace embedder one o link steps out files Memory old new begun now =
    (new.told ≡ Some files)
    ⊎ (((r : ran.Ran) × IsSomeAnd new.told (λ after. IsWrittenOf embedder one o link steps out r files after begun now))
    ⊎ (Rose old.write_faults new.write_faults × IsSomeAnd new.told (SameBut out files)))
WritesTrace embedder one o link steps out files answer old new begun now = Unit {0}

-- the same before what is told of the answer is put to the errors
abbrev pub WritesFor : (List (List ℕ) → Embedder) → Result Order UsageKind → FileMap → Outcome → FilesState → FilesState → Devices → Devices → Type 0
WritesFor embedder (Ok (order.Trace one o link steps out args)) files answer old new begun now =
    (errors : SinkState)
    × WritesTrace (embedder (guest_arguments args)) one (options_of o) (links.options_of link) steps out files answer old new begun (record now { errors = errors })
    × TellsErrors answer errors now.errors
WritesFor embedder asked files answer old new begun now = Unit {0}

module _ {X : Type 0} {F : X → Type 0} {g : _} where
  -- where a host table answers, and the files are told
  abbrev pub WritesBy : HostTable X F g → FilesState → Result Order UsageKind → Outcome → FilesState → OfParts
  WritesBy host old asked answer new i o e a input output errors ambient =
      ForSome old.told (λ files. WritesFor (λ texts. embedder_of texts host) asked files answer old new (devices i o e a) (devices input output errors ambient))

  -- for running a set or a module and writing the trace, before the answer is told
  abbrev pub TraceWrites : HostTable X F g → FilesState → Bool → code.SetOptions → code_links.LinkOptions → ℕ → List ℕ → List (List ℕ) → Outcome → FilesState → OfParts
  TraceWrites host old one set link steps out args answer new i o e a input output errors ambient =
      ForSome old.told (λ files.
      WritesTrace (embedder_of (guest_arguments args) host) one (options_of set) (links.options_of link) steps out files answer old new (devices i o e a) (devices input output errors ambient))
