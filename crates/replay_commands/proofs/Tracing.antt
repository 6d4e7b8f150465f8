-- What comes of running a set or a module whose trace is stored.
use Rattle.std.proofs.Common.{◌≡◌, ◌<◌, ◌≤◌, ◌^◌, ℕ, List, length, Bool, true, false, Option, Some, Result, Ok, Err, refl, sym, ap, ◌∙◌, subst, inl, inr, arith, lit<, Bor}
use Rattle.std.specs.Prelude.{IsSomeAnd, IfOk, Vec}
use Rattle.std.specs.declared.alloc.Global.{Global}
use Rattle.std.specs.Option.{ForSome}
use Rattle.std.specs.FinMap.{get, insert}
use Rattle.wasm_form.specs.declared.memory.Memory as wanting
use Rattle.wasm_form.specs.declared.module.Module.{Module}
use Rattle.spec_hosts.specs.dyl_outside.Faults.{Rises}
use Rattle.spec_hosts.specs.dyl_outside.FileMap.{FileMap}
use Rattle.spec_hosts.specs.dyl_outside.Files.{FilesState}
use Rattle.spec_hosts.specs.declared.ran.Ran as ran
use Rattle.spec_hosts.specs.spec_runtime.Names.{HostNames}
use Rattle.spec_hosts.specs.spec_runtime.Courses.{Course}
use Rattle.spec_hosts.specs.Devices.{Devices}
use Rattle.spec_hosts.specs.Hosted.{Embedder}
use Rattle.spec_loading.specs.spec_execution.OneModule.{ModuleState, module_opening}
use Rattle.spec_loading.specs.spec_execution.declared.fault.SingleFault.TheVariants as single
use Rattle.spec_loading.specs.spec_linking.declared.fault.SetFault.{SetFault}
use Rattle.spec_loading.specs.spec_linking.declared.fault.SetFault.TheVariants as set
use Rattle.spec_loading.specs.spec_linking.LinkedSets.{LinkedSet}
use Rattle.spec_traces.specs.declared.trace.Trace.{Trace}
use Rattle.spec_traces.specs.Texts.{trace_text, IsTextOf, IsInRange}
use Rattle.spec_traces.specs.Traces.{IsTraceOf}
use Rattle.run_loaded.specs.Courses.{Origin, OfModule, OfSet, course_of}
use Rattle.replay_check.specs.declared.program.Program.TheVariants as program
use Rattle.replay_check.specs.Checks.{IsOpened, HasRun}
use Rattle.dyl_link.specs.dyl_search.declared.set.SetOptions.{SetOptions}
use Rattle.dyl_link.specs.dyl_search.Gathers.{options_of}
use Rattle.dyl_link.specs.declared.options.LinkOptions.{LinkOptions}
use Rattle.dyl_link.specs.Sets as links
use Rattle.dyl_front.specs.declared.order.Order.TheVariants as order
use Rattle.dyl_front.specs.declared.outcome.Outcome.{Outcome}
use Rattle.dyl_front.specs.declared.outcome.Outcome.TheVariants.{Ran, Set, Link, Single, TooLong, WriteFault, Memory}
use Rattle.dyl_commands.specs.Linking.{linked}
use Rattle.dyl_commands.specs.Traced.{IsProgram, HasText, IsShort, IsLong}
use Rattle.dyl_commands.specs.Due.{is_run, is_done}
use Rattle.dyl_commands.specs.Files.{IsTraced}
use Rattle.dyl_commands.specs.Fetched.{ReadsFile}
use Rattle.dyl_commands.specs.Runs.{guest_arguments, IsFileRun, IsLoadedRun, ProgramWorks, IsTracedRun, TraceWorks}
use Rattle.dyl_commands.specs.Served.{Serves, Gets, IsNotGot, StoresOutput, ExecutesSet, ExecutesModule, set_outcome, BeginsAsSet, BeginsAsModule, TakesAnswers}
use Rattle.replay_commands.specs.Tracing.{WasMade, IsTextFor, StoresText, StoresTrace, TracesRun}
use Rattle.dyl_commands.proofs.Programs.{run_due}
use Rattle.dyl_commands.proofs.Executing.{is_valid, executed_works, never_done}
use Rattle.dyl_commands.proofs.Running.{run_works}
use Rattle.dyl_commands.proofs.Telling.{program_memory}

-- ---- what begins so

pub set_begins : (k : Bor LinkedSet) (x : Origin) → IsOpened (program.Set k) x → BeginsAsSet k.now x
set_begins k (OfSet L) is = is
set_begins k (OfModule m opening) is = absurd is

pub set_opened : (k : Bor LinkedSet) (x : Origin) → BeginsAsSet k.now x → IsOpened (program.Set k) x
set_opened k (OfSet L) is = is
set_opened k (OfModule m opening) is = absurd is

-- a trace that is stored for all that begins so is stored for some of it
pub stores_for : (Is Also : Origin → Type 0) (r : ran.Ran) (out : List ℕ) (answer : Outcome) (old new : FilesState) → ((x : Origin) → Also x → Is x) → StoresTrace Is r out answer old new → StoresTrace Also r out answer old new
stores_for Is Also r out answer old new only (inl none) = inl none
stores_for Is Also r out answer old new only (inr stored) = inr (stored.0, (λ x also. stored.1 x (only x also)), stored.2, stored.3)

-- an outcome that is none of a run
pub not_run : (answer : Outcome) → ((r : ran.Ran) → answer ≡ Ran r → ⊥) → is_run answer ≡ false
not_run (Ran r) none = absurd (none r refl)
not_run _ none = refl

-- ---- a run that was made

-- as many steps as an order may allow can be counted
countable : (n most : ℕ) → n ≤ most → most ≤ 9223372036854775807 → n < 2 ^ 63
countable n most few allowed = (let top : 9223372036854775807 < 2 ^ 63 = lit< tt in omega (arith, few, allowed, top))

module _ (Is : Origin → Type 0) (r : ran.Ran) (steps : ℕ) (allowed : steps ≤ 9223372036854775807) where
  -- of a linked set
  pub set_made : (L : LinkedSet) (E : Embedder) (begun now : Devices) → ((x : Origin) → Is x → BeginsAsSet L x) → Is (OfSet L) → ExecutesSet L E steps (Ran r) begun now
      → TakesAnswers (BeginsAsSet L) (Ran r) → WasMade Is r
  set_made L E begun now only some h taken = record {
    some = (OfSet L, some);
    runs = λ x begins. has_run x (only x begins);
    steps = countable r.steps steps h.runs.made.few allowed;
  }
    where
      has_run : (x : Origin) → BeginsAsSet L x → HasRun (course_of x) r
      has_run (OfSet M) same = subst (λ (N : LinkedSet). HasRun (course_of (OfSet N)) r) same (record { most = steps; runs = h.runs; taken = taken (OfSet L) refl })
      has_run (OfModule m opening) other = absurd other

  -- of a module
  pub module_made : (wasm : Module) (E : Embedder) (begun now : Devices) → ((x : Origin) → Is x → BeginsAsModule wasm E.names x)
      → ((opening : ModuleState) → module_opening wasm E.names ≡ Ok opening → Is (OfModule wasm opening))
      → ExecutesModule wasm E steps (Ran r) begun now → TakesAnswers (BeginsAsModule wasm E.names) (Ran r) → WasMade Is r
  module_made wasm E begun now only some h taken = record {
    some = (OfModule wasm h.0, some h.0 h.1);
    runs = λ x begins. has_run x (only x begins);
    steps = countable r.steps steps h.2.runs.made.few allowed;
  }
    where
      first : HasRun (course_of (OfModule wasm h.0)) r
      first = record { most = steps; runs = h.2.runs; taken = taken (OfModule wasm h.0) (refl, h.1) }

      has_run : (x : Origin) → BeginsAsModule wasm E.names x → HasRun (course_of x) r
      has_run (OfSet L) other = absurd other
      has_run (OfModule m opening) other =
          let openings : Ok h.0 ≡ Ok opening = sym h.1 ∙ other.1 in
          let same : h.0 ≡ opening = cc in
          subst (λ w. HasRun (course_of (OfModule w opening)) r) (sym other.0) (subst (λ s. HasRun (course_of (OfModule wasm s)) r) same first)

-- ---- the trace that is stored

pub text_for : (Is : Origin → Type 0) (r : ran.Ran) (t : Trace) (result : Result (Vec ℕ Global) wanting.Memory) → WasMade Is r → ((x : Origin) → Is x → HasRun (course_of x) r → IsTraceOf (course_of x) r t) → (r.steps < 2 ^ 63 → IsInRange t)
    → IfOk result (λ bytes. bytes.items ≡ trace_text t) → IfOk result (λ text. IsTextFor Is r text.items)
text_for Is r t (Ok bytes) made traces range printed = λ x is. (t, traces x is (made.runs x is), (printed, range made.steps))
text_for Is r t (Err memory) made traces range printed = tt

pub not_stored : (r : ran.Ran) (out text : List ℕ) (answer : Outcome) (old new : FilesState) → IsShort (length text) → StoresOutput out text (Err answer) old new → StoresText r out text answer old new
not_stored r out text WriteFault old new short h = (short, h.0, h.1)
not_stored r out text Memory old new short h = h
not_stored r out text _ old new short h = absurd h

-- the text has so many bytes
has_text : (Size : ℕ → Type 0) (C : Course) (r : ran.Ran) (text : List ℕ) → (t : Trace) × IsTraceOf C r t × IsTextOf text t → Size (length text) → HasText Size C r
has_text Size C r text h size = (h.0, h.1, subst (λ bytes. Size (length bytes)) h.2.0 size)

pub stored_not_done : (Is : Origin → Type 0) (r : ran.Ran) (out : List ℕ) (answer : Outcome) (old new : FilesState) → StoresTrace Is r out answer old new → is_done answer ≡ false
stored_not_done Is r out answer old new (inl none) = ap is_done none.0
stored_not_done Is r out answer old new (inr stored) = go answer stored.2
  where
    go : (a : Outcome) → StoresText r out stored.0 a old new → is_done a ≡ false
    go (Ran same) h = refl
    go (TooLong same) h = refl
    go WriteFault h = refl
    go Memory h = refl
    go _ h = absurd h

module _ (names : HostNames) (one : Bool) (o : SetOptions) (l : LinkOptions) (steps : ℕ) (out : List ℕ) (args : List (List ℕ)) (Is : Origin → Type 0) (x : Origin) (is : Is x) (r : ran.Ran) where
  -- where these files give what was run
  module _ (old mid new : FilesState) (gives : ForSome old.told (λ told. IsProgram names (get told) one (options_of o) (links.options_of l) x)) (same : mid.told ≡ old.told) (writes : mid.write_faults ≡ old.write_faults) where
    abbrev Asked : Outcome → ℕ → ℕ → Type 0
    Asked answer before now = Serves names (Ok (order.Trace one o l steps out args)) answer old new before now

    no_memory : new.told ≡ mid.told → (before now : ℕ) → Asked Memory before now
    no_memory kept before now = record { tells = λ files told. tt; leaves = λ files told. inl (kept ∙ same ∙ told); caused = tt; inner = refl }

    traced : (text : List ℕ) (ended : ran.Ran) → IsTextFor Is r text → ended ≡ r → (files : FileMap) → old.told ≡ Some files → (after : Option FileMap) → after ≡ Some (insert files out text)
        → IsSomeAnd after (IsTraced names one (options_of o) (links.options_of l) out (λ C t. IsTraceOf C ended t) files)
    traced text ended of_text ended_is files told after stored =
        subst (λ a. IsSomeAnd a (IsTraced names one (options_of o) (links.options_of l) out (λ C t. IsTraceOf C ended t) files)) (sym stored)
        (record {
          program = x;
          gives = gives files told;
          trace = (of_text x is).0;
          is = subst (λ s. IsTraceOf (course_of x) s (of_text x is).0) (sym ended_is) (of_text x is).1;
          text = text;
          of_trace = (of_text x is).2;
          written = refl;
        })

    stored_text : (text : List ℕ) (answer : Outcome) → IsTextFor Is r text → StoresText r out text answer mid new → (before now : ℕ) → Asked answer before now
    stored_text text (Ran ended) of_text h before now = record {
      tells = λ files told. run_due names (get files) (options_of o) (links.options_of l) one x (gives files told) ended;
      leaves = λ files told. traced text ended of_text h.0 files told new.told (h.2 files (same ∙ told));
      caused = tt;
      inner = refl;
    }
    stored_text text (TooLong ended) of_text h before now = record {
      tells = λ files told. run_due names (get files) (options_of o) (links.options_of l) one x (gives files told) ended;
      leaves = λ files told. ap (λ s. s.told) h.2 ∙ same ∙ told;
      caused = tt;
      inner = refl;
    }
    stored_text text WriteFault of_text h before now = record {
      tells = λ files told. (r, run_due names (get files) (options_of o) (links.options_of l) one x (gives files told) r);
      leaves = λ files told. h.1 files (same ∙ told);
      caused = subst (λ n. Rises n new.write_faults) writes h.2;
      inner = refl;
    }
    stored_text text Memory of_text h before now = record {
      tells = λ files told. tt;
      leaves = λ files told. inl (h files (same ∙ told));
      caused = tt;
      inner = refl;
    }
    stored_text text _ of_text h before now = absurd h

    pub stored_serves : (answer : Outcome) → StoresTrace Is r out answer mid new → (before now : ℕ) → Asked answer before now
    stored_serves answer (inl none) before now = subst (λ a. Asked a before now) (sym none.0) (no_memory (ap (λ s. s.told) none.1) before now)
    stored_serves answer (inr stored) before now = stored_text stored.0 answer stored.1 stored.2 before now

  -- and what was run did so to the devices
  module _ (told : Option FileMap) (E : Embedder) (begun now : Devices) (run : ProgramWorks told one (options_of o) (links.options_of l) steps E (Ran r) begun now)
      (sized : (Size : ℕ → Type 0) → HasText Size (course_of x) r → IsTracedRun Size told one (options_of o) (links.options_of l) steps E r begun now) where
    abbrev Did : Outcome → Type 0
    Did answer = TraceWorks told one (options_of o) (links.options_of l) steps E answer begun now

    did_text : (text : List ℕ) (answer : Outcome) (old new : FilesState) → IsTextFor Is r text → StoresText r out text answer old new → Did answer
    did_text text (Ran ended) old new of_text h = subst (λ s. Did (Ran s)) (sym h.0) (sized IsShort (has_text IsShort (course_of x) r text (of_text x is) h.1))
    did_text text (TooLong ended) old new of_text h = subst (λ s. Did (TooLong s)) (sym h.0) (sized IsLong (has_text IsLong (course_of x) r text (of_text x is) h.1))
    did_text text WriteFault old new of_text h = (r, sized IsShort (has_text IsShort (course_of x) r text (of_text x is) h.0))
    did_text text Memory old new of_text h = program_memory told one (options_of o) (links.options_of l) steps E (Ran r) begun now run
    did_text text _ old new of_text h = absurd h

    pub stored_works : (answer : Outcome) (old new : FilesState) → StoresTrace Is r out answer old new → Did answer
    stored_works answer old new (inl none) = subst Did (sym none.0) (program_memory told one (options_of o) (links.options_of l) steps E (Ran r) begun now run)
    stored_works answer old new (inr stored) = did_text stored.0 answer old new stored.1 stored.2

-- ---- a set

module _ (E : Embedder) (o : SetOptions) (l : LinkOptions) (steps : ℕ) (out : List ℕ) (args : List (List ℕ)) (k : LinkedSet) (old mid new : FilesState) (gets : Gets E.names (options_of o) (links.options_of l) (Ok k) old mid) (begun now : Devices) where
  abbrev L : LinkedSet
  L = linked E.names (links.options_of l) gets.got.set

  gives : ForSome old.told (λ told. IsProgram E.names (get told) false (options_of o) (links.options_of l) (OfSet L))
  gives = λ files told. (refl, refl, gets.got.gathered files told, gets.got.links)

  abbrev Came : Outcome → Type 0
  Came answer = TracesRun (ExecutesSet k E steps) (BeginsAsSet k) out answer mid new begun now

  pub set_trace_serves : (answer : Outcome) → Came answer → (before after : ℕ) → Serves E.names (Ok (order.Trace false o l steps out args)) answer old new before after
  set_trace_serves answer (inl h) before after =
      stored_serves E.names false o l steps out args (BeginsAsSet k) (OfSet L) gets.got.is h.0 old mid new gives gets.files gets.writes answer h.2 before after
  set_trace_serves Memory (inr h) before after = record { tells = λ files told. tt; leaves = λ files told. inl (ap (λ s. s.told) h.2 ∙ gets.files ∙ told); caused = tt; inner = refl }
  set_trace_serves (Ran r) (inr h) before after = absurd (let ran = h.1 in cc)
  set_trace_serves _ (inr h) before after = absurd h.0

  pub set_trace_works : (answer : Outcome) → Came answer → TraceWorks old.told false (options_of o) (links.options_of l) steps E answer begun now
  set_trace_works answer (inl h) =
      let run : IsLoadedRun old.told (options_of o) (links.options_of l) steps E h.0 begun now = record {
        set = gets.got.set;
        there = record { gathered = gets.got.gathered; shape = gets.got.shape; links = gets.got.links };
        run = subst (λ (M : LinkedSet). ExecutesSet M E steps (Ran h.0) begun now) gets.got.is h.1;
      } in
      stored_works E.names false o l steps out args (BeginsAsSet k) (OfSet L) gets.got.is h.0 old.told E begun now run (λ Size text. (run, text)) answer mid new h.2
  set_trace_works Memory (inr h) = run_works E o l steps k old mid gets begun now Memory h.0
  set_trace_works (Ran r) (inr h) = absurd (let ran = h.1 in cc)
  set_trace_works _ (inr h) = absurd h.0

  pub set_trace_not_done : (answer : Outcome) → Came answer → is_done answer ≡ false
  set_trace_not_done answer (inl h) = stored_not_done (BeginsAsSet k) h.0 out answer mid new h.2
  set_trace_not_done Memory (inr h) = refl
  set_trace_not_done (Ran r) (inr h) = refl
  set_trace_not_done _ (inr h) = absurd h.0

-- where none is linked
module _ (names : HostNames) (o : SetOptions) (l : LinkOptions) (steps : ℕ) (out : List ℕ) (args : List (List ℕ)) (old new : FilesState) (same : new.told ≡ old.told) where
  pub set_trace_refused : (answer : Outcome) → IsNotGot names (options_of o) (links.options_of l) answer old new → (before now : ℕ) → Serves names (Ok (order.Trace false o l steps out args)) answer old new before now
  set_trace_refused Memory h before now = record { tells = λ files told. tt; leaves = λ files told. inl (same ∙ told); caused = tt; inner = refl }
  set_trace_refused (Set fault) h before now = of_set fault h
    where
      of_set : (f : SetFault) → IsNotGot names (options_of o) (links.options_of l) (Set f) old new → Serves names (Ok (order.Trace false o l steps out args)) (Set f) old new before now
      of_set (set.ReadFault at) h = record { tells = h.tells; leaves = λ files told. same ∙ told; caused = h.caused; inner = refl }
      of_set f h = record { tells = h.tells; leaves = λ files told. same ∙ told; caused = h.caused; inner = h.inner }
  set_trace_refused (Link fault) h before now = record { tells = h.tells; leaves = λ files told. same ∙ told; caused = tt; inner = h.inner }
  set_trace_refused _ h before now = absurd h.caused

  pub set_trace_idle : (told : Option FileMap) (E : Embedder) (answer : Outcome) (begun : Devices) → IsNotGot names (options_of o) (links.options_of l) answer old new
      → TraceWorks told false (options_of o) (links.options_of l) steps E answer begun begun
  set_trace_idle told E Memory begun h = inl refl
  set_trace_idle told E (Set fault) begun h = refl
  set_trace_idle told E (Link fault) begun h = refl
  set_trace_idle told E _ begun h = absurd h.caused

-- ---- a module

module _ (embedder : List (List ℕ) → Embedder) (o : SetOptions) (l : LinkOptions) (steps : ℕ) (out : List ℕ) (args : List (List ℕ)) (wasm : Module) (old mid new : FilesState) (read : ReadsFile o.main (Ok wasm) old mid) (begun now : Devices) where
  abbrev E : Embedder
  E = embedder (guest_arguments args)

  module_gives : (opening : ModuleState) → module_opening wasm E.names ≡ Ok opening → ForSome old.told (λ told. IsProgram E.names (get told) true (options_of o) (links.options_of l) (OfModule wasm opening))
  module_gives opening opens = λ files told. (read.tells files told, opens)

  abbrev ModuleCame : Outcome → Type 0
  ModuleCame answer = TracesRun (ExecutesModule wasm E steps) (BeginsAsModule wasm E.names) out answer mid new begun now

  pub module_trace_serves : (answer : Outcome) → ModuleCame answer → (before after : ℕ) → Serves E.names (Ok (order.Trace true o l steps out args)) answer old new before after
  module_trace_serves answer (inl h) before after =
      stored_serves E.names true o l steps out args (BeginsAsModule wasm E.names) (OfModule wasm h.1.0) (refl, h.1.1) h.0 old mid new (module_gives h.1.0 h.1.1) read.files read.writes answer h.2 before after
  module_trace_serves Memory (inr h) before after = record { tells = λ files told. tt; leaves = λ files told. inl (ap (λ s. s.told) h.2 ∙ read.files ∙ told); caused = tt; inner = refl }
  module_trace_serves (Ran r) (inr h) before after = absurd (let ran = h.1 in cc)
  module_trace_serves (Single single.Memory) (inr h) before after = absurd h.0
  module_trace_serves (Single fault) (inr h) before after = record {
    tells = λ files told. record { wasm = wasm; file = read.tells files told; refused = h.0.0 };
    leaves = λ files told. ap (λ s. s.told) h.2 ∙ read.files ∙ told;
    caused = tt;
    inner = refl;
  }
  module_trace_serves _ (inr h) before after = absurd h.0

  pub module_trace_works : (answer : Outcome) → ModuleCame answer → TraceWorks old.told true (options_of o) (links.options_of l) steps E answer begun now
  module_trace_works answer (inl h) =
      let run : IsFileRun old.told o.main steps E h.0 begun now = record {
        wasm = wasm;
        opening = h.1.0;
        begun = record { file = read.tells; valid = is_valid embedder o.main steps args wasm old mid read begun now; opens = h.1.1 };
        run = h.1.2;
      } in
      stored_works E.names true o l steps out args (BeginsAsModule wasm E.names) (OfModule wasm h.1.0) (refl, h.1.1) h.0 old.told E begun now run (λ Size text. (run, text)) answer mid new h.2
  module_trace_works Memory (inr h) = executed_works embedder o.main steps args wasm old mid read begun now Memory h.0
  module_trace_works (Ran r) (inr h) = absurd (let ran = h.1 in cc)
  module_trace_works (Single single.Memory) (inr h) = absurd h.0
  module_trace_works (Single fault) (inr h) = h.0.1
  module_trace_works _ (inr h) = absurd h.0

  pub module_trace_not_done : (answer : Outcome) → ModuleCame answer → is_done answer ≡ false
  module_trace_not_done answer (inl h) = stored_not_done (BeginsAsModule wasm E.names) h.0 out answer mid new h.2
  module_trace_not_done answer (inr h) = never_done wasm E steps answer begun now h.0

-- where none is read
module _ (names : HostNames) (o : SetOptions) (l : LinkOptions) (steps : ℕ) (out : List ℕ) (args : List (List ℕ)) (fault : SetFault) (old new : FilesState) (h : ReadsFile o.main (Err fault) old new) where
  pub file_trace_refused : (before now : ℕ) → Serves names (Ok (order.Trace true o l steps out args)) (set_outcome fault) old new before now
  file_trace_refused before now = go fault h
    where
      go : (f : SetFault) → ReadsFile o.main (Err f) old new → Serves names (Ok (order.Trace true o l steps out args)) (set_outcome f) old new before now
      go set.Memory h = record { tells = λ files told. tt; leaves = λ files told. inl (h.files ∙ told); caused = tt; inner = refl }
      go (set.ReadFault at) h = record { tells = λ files told. h.caused.0; leaves = λ files told. h.files ∙ told; caused = h.caused; inner = refl }
      go f h = record { tells = h.tells; leaves = λ files told. h.files ∙ told; caused = h.caused; inner = h.inner }

  pub file_trace_idle : (told : Option FileMap) (E : Embedder) (begun : Devices) → TraceWorks told true (options_of o) (links.options_of l) steps E (set_outcome fault) begun begun
  file_trace_idle told E begun = go fault
    where
      go : (f : SetFault) → TraceWorks told true (options_of o) (links.options_of l) steps E (set_outcome f) begun begun
      go set.Memory = inl refl
      go f = refl
