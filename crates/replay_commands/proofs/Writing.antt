-- What is written is the trace of the run that was made.
use Rattle.std.proofs.Common.{◌≡◌, ℕ, List, length, Bool, true, false, Option, Some, Result, Ok, Err, refl, sym, ap, ◌∙◌, subst, inl, inr}
use Rattle.std.specs.Prelude.{IsSomeAnd}
use Rattle.std.specs.Option.{ForSome}
use Rattle.std.specs.FinMap.{get, insert}
use Rattle.wasm_form.specs.declared.module.Module.{Module}
use Rattle.spec_hosts.specs.dyl_outside.Faults.{Rose}
use Rattle.spec_hosts.specs.dyl_outside.FileMap.{FileMap}
use Rattle.spec_hosts.specs.dyl_outside.Files.{FilesState}
use Rattle.spec_hosts.specs.dyl_outside.Sink.{SinkState}
use Rattle.spec_hosts.specs.declared.ran.Ran as ran
use Rattle.spec_hosts.specs.spec_runtime.Names.{HostNames}
use Rattle.spec_hosts.specs.Devices.{Devices}
use Rattle.spec_hosts.specs.Hosted.{Embedder}
use Rattle.spec_hosts.specs.Ends.{IsRunOf}
use Rattle.spec_loading.specs.spec_execution.OneModule.{module_opening}
use Rattle.spec_loading.specs.spec_execution.declared.fault.SingleFault.TheVariants as single
use Rattle.spec_loading.specs.spec_linking.Sets as sets
use Rattle.spec_loading.specs.spec_linking.Plans as plans
use Rattle.spec_loading.specs.spec_linking.declared.fault.SetFault.{SetFault}
use Rattle.spec_loading.specs.spec_linking.declared.fault.SetFault.TheVariants as set
use Rattle.spec_loading.specs.spec_linking.LinkedSets.{LinkedSet}
use Rattle.run_loaded.specs.Courses.{Origin, OfModule, OfSet, course_of}
use Rattle.dyl_link.specs.dyl_search.declared.set.SetOptions.{SetOptions}
use Rattle.dyl_link.specs.dyl_search.Gathers.{options_of}
use Rattle.dyl_link.specs.declared.options.LinkOptions.{LinkOptions}
use Rattle.dyl_link.specs.Sets as links
use Rattle.dyl_front.specs.declared.order.Order.{Order}
use Rattle.dyl_front.specs.declared.order.Order.TheVariants as order
use Rattle.dyl_front.specs.declared.outcome.UsageKind.{UsageKind}
use Rattle.dyl_front.specs.declared.outcome.Outcome.{Outcome}
use Rattle.dyl_front.specs.declared.outcome.Outcome.TheVariants.{Ran, Single, TooLong, WriteFault, Memory}
use Rattle.dyl_commands.specs.Linking.{linked}
use Rattle.dyl_commands.specs.Traced.{IsProgram, IsShort}
use Rattle.dyl_commands.specs.Files.{TraceLeaves}
use Rattle.dyl_commands.specs.Fetched.{ReadsFile}
use Rattle.dyl_commands.specs.Causes.{Caused}
use Rattle.dyl_commands.specs.Runs.{guest_arguments}
use Rattle.dyl_commands.specs.Told.{IsTold, TellsErrors}
use Rattle.dyl_commands.specs.Served.{Serves, Gets, IsNotGot, ExecutesSet, ExecutesModule, set_outcome, BeginsAsSet, BeginsAsModule}
use Rattle.dyl_commands.proofs.Telling.{told_keeps}
use Rattle.replay_commands.specs.Tracing.{IsTextFor, StoresText, StoresTrace, TracesRun}
use Rattle.replay_commands.specs.Written.{IsWrittenOf, WritesTrace, WritesFor}
use Rattle.replay_commands.proofs.Lawful.{lawful}

-- ---- an answer that is told

writes_memory : (E : Embedder) (one : Bool) (o : sets.SetOptions) (l : plans.LinkOptions) (steps : ℕ) (out : List ℕ) (files : FileMap) (outcome : Outcome) (old new : FilesState) (begun now : Devices)
    → (outcome ≡ WriteFault → Rose old.write_faults new.write_faults) → TraceLeaves E.names one o l out files outcome old new
    → WritesTrace E one o l steps out files outcome old new begun now → WritesTrace E one o l steps out files Memory old new begun now
writes_memory E one o l steps out files (Ran r) old new begun now rose leaves writes = inr (inl (r, writes))
writes_memory E one o l steps out files WriteFault old new begun now rose leaves writes = inr (inr (rose refl, leaves))
writes_memory E one o l steps out files Memory old new begun now rose leaves writes = writes
writes_memory E one o l steps out files _ old new begun now rose leaves writes = inl leaves

module _ (E : Embedder) (one : Bool) (o : SetOptions) (l : LinkOptions) (steps : ℕ) (out : List ℕ) (args : List (List ℕ)) (outcome answer : Outcome) (old new : FilesState) (before after : ℕ) (begun now : Devices) where
  abbrev Writes : Outcome → Type 0
  Writes a = ForSome old.told (λ files. WritesTrace E one (options_of o) (links.options_of l) steps out files a old new begun now)

  pub told_writes : IsTold outcome answer → Serves E.names (Ok (order.Trace one o l steps out args)) outcome old new before after → Writes outcome → Writes answer
  told_writes told serves writes =
      told_keeps Writes outcome answer told
      (λ line files is.
      writes_memory E one (options_of o) (links.options_of l) steps out files outcome old new begun now
      (λ failed. (subst (λ a. Caused E.names (Ok (order.Trace one o l steps out args)) a old new before after) failed serves.caused).rose)
      (serves.leaves files is) (writes files is))
      writes

-- ---- a run that was made, of a program that the files give

module _ (E : Embedder) (one : Bool) (o : sets.SetOptions) (l : plans.LinkOptions) (steps : ℕ) (out : List ℕ) (Is : Origin → Type 0) (x : Origin) (is : Is x) (r : ran.Ran) (begun now : Devices)
    (run : IsRunOf (course_of x).system (course_of x).deep E (course_of x).opening steps r begun now)
    (old mid new : FilesState) (gives : ForSome old.told (λ told. IsProgram E.names (get told) one o l x)) (same : mid.told ≡ old.told) where
  abbrev Wrote : Outcome → Type 0
  Wrote a = ForSome old.told (λ files. WritesTrace E one o l steps out files a old new begun now)

  written : (text : List ℕ) → IsTextFor Is r text → IsShort (length text) → (files : FileMap) → old.told ≡ Some files → (after : Option FileMap) → after ≡ Some (insert files out text)
      → IsSomeAnd after (λ a. IsWrittenOf E one o l steps out r files a begun now)
  written text of_text short files told after stored =
      subst (λ found. IsSomeAnd found (λ a. IsWrittenOf E one o l steps out r files a begun now)) (sym stored)
      (record {
        is = record {
          program = x;
          gives = gives files told;
          runs = run.runs;
          trace = (of_text x is).0;
          of_run = (of_text x is).1;
          text = text;
          of_trace = (of_text x is).2;
          short = short;
          written = refl;
        };
        hosted = run.hosted;
        lawful = lawful (course_of x) E r (of_text x is).0 begun now (of_text x is).1 run.hosted;
      })

  wrote_text : (text : List ℕ) (answer : Outcome) → IsTextFor Is r text → StoresText r out text answer mid new → Wrote answer
  wrote_text text (Ran ended) of_text h = λ files told.
      subst (λ s. IsSomeAnd new.told (λ a. IsWrittenOf E one o l steps out s files a begun now)) (sym h.0) (written text of_text h.1 files told new.told (h.2 files (same ∙ told)))
  wrote_text text (TooLong ended) of_text h = λ files told. tt
  wrote_text text WriteFault of_text h = λ files told. tt
  wrote_text text Memory of_text h = λ files told. inl (h files (same ∙ told))
  wrote_text text _ of_text h = absurd h

  stored_writes : (answer : Outcome) → StoresTrace Is r out answer mid new → Wrote answer
  stored_writes answer (inl none) = subst Wrote (sym none.0) (λ files told. inl (ap (λ s. s.told) none.1 ∙ same ∙ told))
  stored_writes answer (inr stored) = wrote_text stored.0 answer stored.1 stored.2

-- of a set
module _ (E : Embedder) (o : SetOptions) (l : LinkOptions) (steps : ℕ) (out : List ℕ) (k : LinkedSet) (old mid new : FilesState) (gets : Gets E.names (options_of o) (links.options_of l) (Ok k) old mid) (begun now : Devices) where
  abbrev L : LinkedSet
  L = linked E.names (links.options_of l) gets.got.set

  pub set_writes : (answer : Outcome) → TracesRun (ExecutesSet k E steps) (BeginsAsSet k) out answer mid new begun now
      → ForSome old.told (λ files. WritesTrace E false (options_of o) (links.options_of l) steps out files answer old new begun now)
  set_writes answer (inl h) =
      stored_writes E false (options_of o) (links.options_of l) steps out (BeginsAsSet k) (OfSet L) gets.got.is h.0 begun now
      (subst (λ (M : LinkedSet). ExecutesSet M E steps (Ran h.0) begun now) gets.got.is h.1)
      old mid new (λ files told. (refl, refl, gets.got.gathered files told, gets.got.links)) gets.files answer h.2
  set_writes Memory (inr h) = λ files told. inl (ap (λ s. s.told) h.2 ∙ gets.files ∙ told)
  set_writes (Ran r) (inr h) = absurd (let ran = h.1 in cc)
  set_writes _ (inr h) = absurd h.0

-- where none is linked
module _ (E : Embedder) (o : SetOptions) (l : LinkOptions) (steps : ℕ) (out : List ℕ) (old new : FilesState) (same : new.told ≡ old.told) (begun : Devices) where
  pub set_unwritten : (answer : Outcome) → IsNotGot E.names (options_of o) (links.options_of l) answer old new
      → ForSome old.told (λ files. WritesTrace E false (options_of o) (links.options_of l) steps out files answer old new begun begun)
  set_unwritten Memory h = λ files told. inl (same ∙ told)
  set_unwritten (Ran r) h = absurd h.caused
  set_unwritten _ h = λ files told. tt

-- of a module
module _ (E : Embedder) (o : SetOptions) (l : LinkOptions) (steps : ℕ) (out : List ℕ) (wasm : Module) (old mid new : FilesState) (read : ReadsFile o.main (Ok wasm) old mid) (begun now : Devices) where
  pub module_writes : (answer : Outcome) → TracesRun (ExecutesModule wasm E steps) (BeginsAsModule wasm E.names) out answer mid new begun now
      → ForSome old.told (λ files. WritesTrace E true (options_of o) (links.options_of l) steps out files answer old new begun now)
  module_writes answer (inl h) =
      stored_writes E true (options_of o) (links.options_of l) steps out (BeginsAsModule wasm E.names) (OfModule wasm h.1.0) (refl, h.1.1) h.0 begun now h.1.2
      old mid new (λ files told. (read.tells files told, h.1.1)) read.files answer h.2
  module_writes Memory (inr h) = λ files told. inl (ap (λ s. s.told) h.2 ∙ read.files ∙ told)
  module_writes (Ran r) (inr h) = absurd (let ran = h.1 in cc)
  module_writes (Single single.Memory) (inr h) = absurd h.0
  module_writes (Single fault) (inr h) = λ files told. tt
  module_writes _ (inr h) = absurd h.0

-- where none is read
module _ (E : Embedder) (o : SetOptions) (l : LinkOptions) (steps : ℕ) (out : List ℕ) (old new : FilesState) (begun : Devices) where
  pub file_unwritten : (fault : SetFault) → ReadsFile o.main (Err fault) old new
      → ForSome old.told (λ files. WritesTrace E true (options_of o) (links.options_of l) steps out files (set_outcome fault) old new begun begun)
  file_unwritten set.Memory h = λ files told. inl (h.files ∙ told)
  file_unwritten fault h = λ files told. tt

-- ---- where nothing was done

module _ (embedder : List (List ℕ) → Embedder) (asked : Result Order UsageKind) (files : FileMap) (answer : Outcome) (state : FilesState) (begun : Devices) (errors : SinkState) where
  -- where the words are no order
  pub usage_writes : (kind : UsageKind) → asked ≡ Err kind → WritesFor embedder asked files answer state state begun (record begun { errors = errors })
  usage_writes kind is = subst (λ a. WritesFor embedder a files answer state state begun (record begun { errors = errors })) (sym is) tt

-- where memory was wanting to read them
pub lost_writes : (embedder : List (List ℕ) → Embedder) (asked : Result Order UsageKind) (files : FileMap) (answer : Outcome) (state : FilesState) (begun : Devices) (errors : SinkState)
    → state.told ≡ Some files → IsTold Memory answer → TellsErrors answer begun.errors errors → WritesFor embedder asked files answer state state begun (record begun { errors = errors })
lost_writes embedder (Ok (order.Trace one o l steps out args)) files answer state begun errors told is line =
    let memory : answer ≡ Memory = elim is [ inl same ↦ same | inr none ↦ none.0 ] in (
      begun.errors,
      subst (λ a. WritesTrace (embedder (guest_arguments args)) one (options_of o) (links.options_of l) steps out files a state state begun begun) (sym memory) (inl told),
      line,
    )
lost_writes embedder asked files answer state begun errors told is line = tt
