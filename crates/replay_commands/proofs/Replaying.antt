-- What comes of replaying a trace.
use Rattle.std.proofs.lemmas.List.Concat.{flat_map-cons}
use Rattle.std.proofs.Common.{◌+◌, flat_map, length-append, ◌≡◌, ◌<◌, ◌≤◌, ℕ, List, [], ◌∷◌, ◌++◌, length, Bool, true, false, Result, Ok, Err, refl, sym, ◌∙◌, subst, inl, inr, arith}
use Rattle.std.specs.Prelude.{IsSomeAnd, Vec}
use Rattle.std.specs.declared.alloc.Global.{Global}
use Rattle.std.specs.Borrow.{Bor}
use Rattle.std.specs.Option.{ForSome}
use Rattle.std.specs.FinMap.{get}
use Rattle.wasm_form.specs.declared.module.Module.{Module}
use Rattle.spec_hosts.specs.dyl_outside.Files.{FilesState}
use Rattle.spec_hosts.specs.spec_runtime.Names.{HostNames}
use Rattle.spec_loading.specs.spec_execution.declared.fault.SingleFault.{SingleFault}
use Rattle.spec_loading.specs.spec_execution.declared.fault.SingleFault.TheVariants as single
use Rattle.spec_loading.specs.spec_execution.OneModule.{module_opening}
use Rattle.spec_loading.specs.spec_linking.LinkedSets.{LinkedSet}
use Rattle.spec_loading.specs.spec_linking.declared.fault.SetFault.{SetFault}
use Rattle.spec_loading.specs.spec_linking.declared.fault.SetFault.TheVariants as set
use Rattle.spec_traces.specs.declared.trace.Trace.{Trace}
use Rattle.spec_traces.specs.declared.trace.TraceFault.TheVariants as fault
use Rattle.spec_traces.specs.Texts.{answer_lines, call_line, call_lines, end_line, trace_lines, line_feed, trace_text, IsTextOf, BreaksAt}
use Rattle.run_loaded.specs.Courses.{Origin, OfModule, OfSet}
use Rattle.replay_check.specs.declared.program.Program.TheVariants as program
use Rattle.replay_check.specs.Checks.{IsOpened, IsRefused}
use Rattle.dyl_link.specs.dyl_search.declared.set.SetOptions.{SetOptions}
use Rattle.dyl_link.specs.dyl_search.Gathers.{options_of}
use Rattle.dyl_link.specs.declared.options.LinkOptions.{LinkOptions}
use Rattle.dyl_link.specs.Sets as links
use Rattle.dyl_front.specs.declared.order.Order.TheVariants as order
use Rattle.dyl_front.specs.declared.outcome.Outcome.{Outcome}
use Rattle.dyl_front.specs.declared.outcome.Outcome.TheVariants.{Done, Set, Link, Single, Memory}
use Rattle.dyl_front.specs.declared.outcome.Outcome.TheVariants as outcome
use Rattle.dyl_commands.specs.OneFile.{most_run}
use Rattle.dyl_commands.specs.Traced.{IsProgram, IsLoaded, OpenFault, OfTrace}
use Rattle.dyl_commands.specs.Causes.{IsOneOrder}
use Rattle.dyl_commands.specs.Fetched.{FetchesFile, ReadsFile}
use Rattle.dyl_commands.specs.Served.{Serves, Gets, IsNotGot, set_outcome, BeginsAsModule}
use Rattle.replay_commands.proofs.Opened.{opened_module}
use Rattle.replay_commands.specs.Tracing.{ReadsTrace, FindsTrace, ChecksTo, Replays}
use Rattle.dyl_commands.proofs.Counting.{at_least}

-- ---- the trace

-- a text has at least as many bytes as lines, and a trace as many lines as calls
longer : {A : Type 0} (f : A → List (List ℕ)) → ((a : A) → (x : List ℕ) × (xs : List (List ℕ)) × (f a ≡ x ∷ xs)) → (items : List A) → length items ≤ length (flat_map f items)
longer f some [] = omega arith
longer f some (a ∷ items) =
    let h = some a in
    let ih : length items ≤ length (flat_map f items) = longer f some items in
    rw (flat_map-cons f a items, length-append (f a) (flat_map f items), h.2) (omega (arith, ih))

lines_longer : (lines : List (List ℕ)) → length lines ≤ length (flat_map (λ line. line ++ line_feed ∷ []) lines)
lines_longer [] = omega arith
lines_longer (line ∷ lines) =
    let ih : length lines ≤ length (flat_map (λ line. line ++ line_feed ∷ []) lines) = lines_longer lines in
    rw (flat_map-cons (λ line. line ++ line_feed ∷ []) line lines, length-append (line ++ line_feed ∷ []) (flat_map (λ line. line ++ line_feed ∷ []) lines), length-append line (line_feed ∷ [])) (omega (arith, ih))

pub few_calls : (t : Trace) (bytes : List ℕ) → length bytes ≤ most_run → IsTextOf bytes t → length t.calls < 4294967296
few_calls t bytes few text =
    let lines : length (trace_lines t) ≤ length (trace_text t) = lines_longer (trace_lines t) in
    let calls : length t.calls ≤ length (flat_map call_lines t.calls) = longer call_lines (λ c. (call_line c, answer_lines c.answer, refl)) t.calls in
    let both : length (flat_map call_lines t.calls ++ end_line t ∷ []) ≡ length (flat_map call_lines t.calls) + 1 = length-append (flat_map call_lines t.calls) (end_line t ∷ []) in
    let short : length (trace_text t) ≤ most_run = rw text.0 at few in
    omega (arith, lines, calls, both, short)

module _ (path : List ℕ) (bytes : Vec ℕ Global) (old new : FilesState) (h : FetchesFile path (Ok bytes) old new) where
  there : (P : List ℕ → Type 0) → P bytes.items → ForSome old.told (λ told. IsSomeAnd (get told path) (λ b. (length b ≤ most_run) × P b))
  there P of_bytes = λ files told. subst (λ found. IsSomeAnd found (λ b. (length b ≤ most_run) × P b)) (sym (h.tells files told)) (h.few, of_bytes)

  pub read_found : (result : Result Trace Outcome) → ReadsTrace bytes.items result → FindsTrace path result old new
  read_found (Ok t) r = record {
    tells = there (λ b. IsTextOf b t) r;
    text = record { bytes = bytes.items; few = h.few; text = r };
    caused = tt;
    files = h.files;
    same = h.same;
    counts = tt;
  }
  read_found (Err (outcome.Trace (fault.Line line))) r = record { tells = there (λ b. BreaksAt b line) r; text = tt; caused = tt; files = h.files; same = tt; counts = record { reads = h.reads; stores = h.writes; absents = h.absents } }
  read_found (Err Memory) r = record { tells = λ files told. tt; text = tt; caused = tt; files = h.files; same = tt; counts = record { reads = at_least old.read_faults new.read_faults h.reads; stores = h.writes; absents = at_least old.absents new.absents h.absents } }
  read_found (Err _) r = absurd r

pub none_found : (path : List ℕ) (f : SetFault) (old new : FilesState) → FetchesFile path (Err f) old new → FindsTrace path (Err (set_outcome f)) old new
none_found path set.Memory old new h = record { tells = λ files told. tt; text = tt; caused = tt; files = h.files; same = tt; counts = record { reads = h.reads; stores = h.writes; absents = h.absents } }
none_found path (set.ReadFault at) old new h = record { tells = h.tells; text = tt; caused = h.caused; files = h.files; same = tt; counts = record { reads = h.reads; stores = h.writes; absents = h.absents } }
none_found path (set.Missing name) old new h = record { tells = h.tells; text = tt; caused = h.caused; files = h.files; same = tt; counts = record { reads = h.reads; stores = h.writes; absents = h.absents } }
none_found path set.SetSize old new h = record { tells = h.tells; text = tt; caused = h.caused; files = h.files; same = tt; counts = record { reads = h.reads; stores = h.writes; absents = h.absents } }
none_found path _ old new h = absurd h.caused

-- where there is none
pub unfound_serves : (names : HostNames) (one : Bool) (path : List ℕ) (o : SetOptions) (l : LinkOptions) (steps : ℕ) (answer : Outcome) (old new : FilesState) → FindsTrace path (Err answer) old new → (before now : ℕ)
    → Serves names (Ok (order.Replay one path o l steps)) answer old new before now
unfound_serves names one path o l steps Memory old new h before now = record { tells = λ files told. tt; leaves = λ files told. h.files ∙ told; caused = tt; inner = refl }
unfound_serves names one path o l steps (outcome.Trace (fault.Line line)) old new h before now =
    record { tells = λ files told. inl (h.tells files told); leaves = λ files told. h.files ∙ told; caused = tt; inner = refl }
unfound_serves names one path o l steps (Set f) old new h before now = of_set f h
  where
    of_set : (f : SetFault) → FindsTrace path (Err (Set f)) old new → Serves names (Ok (order.Replay one path o l steps)) (Set f) old new before now
    of_set (set.ReadFault at) h = record { tells = λ files told. inl (h.tells files told); leaves = λ files told. h.files ∙ told; caused = inl h.caused; inner = refl }
    of_set (set.Missing name) h = record { tells = λ files told. inl (h.tells files told); leaves = λ files told. h.files ∙ told; caused = inl h.caused; inner = refl }
    of_set set.SetSize h = record { tells = λ files told. inl (h.tells files told); leaves = λ files told. h.files ∙ told; caused = inl h.caused; inner = refl }
    of_set _ h = absurd h.caused
unfound_serves names one path o l steps _ old new h before now = absurd h.caused

-- where there is one
pub found_serves : (names : HostNames) (one : Bool) (path : List ℕ) (o : SetOptions) (l : LinkOptions) (steps : ℕ) (t : Trace) (answer : Outcome) (old mid new : FilesState) → FindsTrace path (Ok t) old mid
    → Replays names one o l steps t answer mid new → (before now : ℕ) → Serves names (Ok (order.Replay one path o l steps)) answer old new before now
found_serves names one path o l steps t answer old mid new h replays before now =
    subst (λ s. Serves names (Ok (order.Replay one path o l steps)) answer s new before now) h.same
    (replays path before now (subst (λ told. ForSome told (λ m. OfTrace (get m) path (Ok t))) (sym h.files) h.tells))

-- ---- what it is checked against

module _ (names : HostNames) (one : Bool) (o : SetOptions) (l : LinkOptions) (steps : ℕ) (t : Trace) (old new : FilesState) (same : new.told ≡ old.told) where
  -- It is loaded. What begins so is what the files give, and so is why it isn't opened.
  module _ (Is : Origin → Type 0) (Refused : SingleFault → Type 0) (loaded : ForSome old.told (λ told. IsLoaded names (get told) one (options_of o) (links.options_of l)))
      (given : (x : Origin) → Is x → ForSome old.told (λ told. IsProgram names (get told) one (options_of o) (links.options_of l) x))
      (refusal : (why : SingleFault) → Refused why → ForSome old.told (λ told. OpenFault names (get told) one (options_of o) why)) (alone : (path : List ℕ) (why : SingleFault) → Refused why → IsOneOrder (order.Replay one path o l steps)) where
    checked_replays : (answer : Outcome) → ChecksTo Is Refused t steps answer → Replays names one o l steps t answer old new
    checked_replays (Done []) h = λ path before now read.
        record { tells = λ files told. inr (t, read files told, (h.0, (h.1, given h.1 h.2 files told, h.3))); leaves = λ files told. same ∙ told; caused = refl; inner = refl }
    checked_replays (outcome.Trace fault.Steps) h = λ path before now read.
        record { tells = λ files told. inr (t, read files told, (loaded files told, h)); leaves = λ files told. same ∙ told; caused = tt; inner = refl }
    checked_replays (outcome.Trace (fault.Differs call)) h = λ path before now read.
        record { tells = λ files told. inr (t, read files told, (h.0, (h.1, given h.1 h.2 files told, h.3, h.4))); leaves = λ files told. same ∙ told; caused = tt; inner = refl }
    checked_replays (Single single.Memory) h = absurd h
    checked_replays (Single why) h = λ path before now read.
        record { tells = λ files told. inr (t, read files told, (h.0, refusal why h.1 files told)); leaves = λ files told. same ∙ told; caused = alone path why h.1; inner = refl }
    checked_replays Memory h = λ path before now read. record { tells = λ files told. tt; leaves = λ files told. same ∙ told; caused = tt; inner = refl }
    checked_replays _ h = absurd h

-- ---- a set

module _ (names : HostNames) (o : SetOptions) (l : LinkOptions) (steps : ℕ) (t : Trace) (old new : FilesState) where
  pub set_replays : (k : Bor LinkedSet) (gets : Gets names (options_of o) (links.options_of l) (Ok k.now) old new) (answer : Outcome) → ChecksTo (IsOpened (program.Set k)) (λ why. ⊥) t steps answer
      → Replays names false o l steps t answer old new
  set_replays k gets answer h =
      checked_replays names false o l steps t old new gets.files (IsOpened (program.Set k)) (λ why. ⊥) (λ files told. record { set = gets.got.set; gathered = gets.got.gathered files told; links = gets.got.links })
      given (λ why none. absurd none) (λ path why none. absurd none) answer h
    where
      given : (x : Origin) → IsOpened (program.Set k) x → ForSome old.told (λ told. IsProgram names (get told) false (options_of o) (links.options_of l) x)
      given (OfModule m opening) is = absurd is
      given (OfSet L) is =
          subst (λ (M : LinkedSet). ForSome old.told (λ told. IsProgram names (get told) false (options_of o) (links.options_of l) (OfSet M))) (sym gets.got.is ∙ is) (λ files told. (refl, refl, gets.got.gathered files told, gets.got.links))

  pub set_replay_refused : (answer : Outcome) → new.told ≡ old.told → IsNotGot names (options_of o) (links.options_of l) answer old new → Replays names false o l steps t answer old new
  set_replay_refused Memory same h = λ path before now read. record { tells = λ files told. tt; leaves = λ files told. same ∙ told; caused = tt; inner = refl }
  set_replay_refused (Set f) same h = λ path before now read. of_set path before now f h read
    where
      of_set : (path : List ℕ) (before now : ℕ) (f : SetFault) → IsNotGot names (options_of o) (links.options_of l) (Set f) old new → ForSome old.told (λ told. OfTrace (get told) path (Ok t))
          → Serves names (Ok (order.Replay false path o l steps)) (Set f) old new before now
      of_set path before now (set.ReadFault at) h read = record { tells = λ files told. inr (h.tells files told); leaves = λ files told. same ∙ told; caused = inr h.caused; inner = refl }
      of_set path before now f h read = record { tells = λ files told. inr (t, read files told, h.tells files told); leaves = λ files told. same ∙ told; caused = inr h.caused; inner = h.inner }
  set_replay_refused (Link f) same h = λ path before now read. record { tells = λ files told. inr (t, read files told, h.tells files told); leaves = λ files told. same ∙ told; caused = tt; inner = h.inner }
  set_replay_refused _ same h = absurd h.caused

-- ---- a module

module _ (names : HostNames) (o : SetOptions) (l : LinkOptions) (steps : ℕ) (t : Trace) (old new : FilesState) where
  pub module_replays : (wasm : Module) → ReadsFile o.main (Ok wasm) old new → (answer : Outcome) → ChecksTo (BeginsAsModule wasm names) (λ why. module_opening wasm names ≡ Err why) t steps answer
      → Replays names true o l steps t answer old new
  module_replays wasm read answer h =
      checked_replays names true o l steps t old new read.files (BeginsAsModule wasm names) (λ why. module_opening wasm names ≡ Err why) (λ files told. (wasm, read.tells files told)) given
      (λ why refused files told. record { wasm = wasm; file = read.tells files told; refused = refused }) (λ path why refused. tt) answer h
    where
      given : (x : Origin) → BeginsAsModule wasm names x → ForSome old.told (λ told. IsProgram names (get told) true (options_of o) (links.options_of l) x)
      given (OfSet L) is = absurd is
      given (OfModule m opening) is =
          subst (λ w. ForSome old.told (λ told. IsProgram names (get told) true (options_of o) (links.options_of l) (OfModule w opening))) (sym is.0) (λ files told. (read.tells files told, is.1))

  pub file_replay_refused : (f : SetFault) → ReadsFile o.main (Err f) old new → Replays names true o l steps t (set_outcome f) old new
  file_replay_refused set.Memory h = λ path before now read. record { tells = λ files told. tt; leaves = λ files told. h.files ∙ told; caused = tt; inner = refl }
  file_replay_refused (set.ReadFault at) h = λ path before now read. record { tells = λ files told. inr h.caused.0; leaves = λ files told. h.files ∙ told; caused = inr h.caused; inner = refl }
  file_replay_refused f h = λ path before now read. record { tells = λ files told. inr (t, read files told, h.tells files told); leaves = λ files told. h.files ∙ told; caused = inr h.caused; inner = h.inner }

-- what is checked of a module is checked of it over the same host functions
pub module_checks : (wasm : Bor Module) (names : Bor HostNames) (host : HostNames) → names.now ≡ host → (t : Trace) (steps : ℕ) (answer : Outcome)
    → ChecksTo (IsOpened (program.One wasm names)) (IsRefused (program.One wasm names)) t steps answer → ChecksTo (BeginsAsModule wasm.now host) (λ why. module_opening wasm.now host ≡ Err why) t steps answer
module_checks wasm names host same t steps answer h = subst (λ n. ChecksTo (BeginsAsModule wasm.now n) (λ why. module_opening wasm.now n ≡ Err why) t steps answer) same (go answer h)
  where
    refused : (why : SingleFault) → IsRefused (program.One wasm names) why → module_opening wasm.now names.now ≡ Err why
    refused single.Memory h = absurd h
    refused why h = h

    go : (a : Outcome) → ChecksTo (IsOpened (program.One wasm names)) (IsRefused (program.One wasm names)) t steps a
        → ChecksTo (BeginsAsModule wasm.now names.now) (λ why. module_opening wasm.now names.now ≡ Err why) t steps a
    go (Done []) h = (h.0, h.1, opened_module wasm names h.1 h.2, h.3)
    go (outcome.Trace fault.Steps) h = h
    go (outcome.Trace (fault.Differs call)) h = (h.0, h.1, opened_module wasm names h.1 h.2, h.3, h.4)
    go (Single single.Memory) h = absurd h
    go (Single why) h = (h.0, refused why h.1)
    go Memory h = tt
    go _ h = absurd h
