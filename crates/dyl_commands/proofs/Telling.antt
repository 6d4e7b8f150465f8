-- What telling of an outcome leaves of what is known of it.
use Rattle.std.proofs.Common.{◌≡◌, ℕ, List, [], ◌∷◌, map, Bool, true, false, Option, Some, None, Result, Ok, Err, refl, sym, ap, ◌∙◌, subst, inl, inr}
use Rattle.std.specs.Prelude.{IsSome, IsSomeAnd}
use Rattle.std.proofs.lemmas.List.{length-map}
use Rattle.spec_hosts.specs.dyl_outside.Faults.{Rose}
use Rattle.spec_hosts.specs.dyl_outside.FileMap.{FileMap}
use Rattle.spec_hosts.specs.dyl_outside.Files.{FilesState}
use Rattle.spec_hosts.specs.spec_runtime.Names.{HostNames}
use Rattle.spec_hosts.specs.spec_runtime.Hosts.{HostCall}
use Rattle.spec_hosts.specs.spec_runtime.Memories.{MemoryInstance}
use Rattle.spec_hosts.specs.declared.ran.Ran as ran
use Rattle.spec_hosts.specs.Devices.{Devices}
use Rattle.spec_hosts.specs.Hosted.{Embedder, OneOf, is_wasi, MayBegin, wants, BreaksOff}
use Rattle.spec_loading.specs.spec_execution.OneModule.{module_system, module_run}
use Rattle.spec_hosts.specs.spec_runs.Systems.{event, run}
use Rattle.spec_loading.specs.spec_linking.Sets as sets
use Rattle.spec_loading.specs.spec_linking.Plans as plans
use Rattle.spec_loading.specs.LoadedSet.{set_system, set_opening}
use Rattle.spec_hosts.specs.dyl_outside.declared.fault.IoFault.TheVariants as io
use Rattle.spec_hosts.specs.dyl_outside.Sink.{SinkState}
use Rattle.dyl_link.specs.dyl_search.Gathers.{options_of}
use Rattle.dyl_link.specs.Sets as links
use Rattle.dyl_front.specs.declared.outcome.UsageKind.{UsageKind}
use Rattle.dyl_front.specs.declared.outcome.Outcome.{Outcome}
use Rattle.dyl_front.specs.declared.outcome.Outcome.TheVariants.{Done, Ran, Board, Usage, Set, Link, Merge, Single, Gen, Trace, TooLong, Snap, WriteFault, Memory}
use Rattle.dyl_front.specs.declared.order.Order.{Order}
use Rattle.dyl_front.specs.declared.order.Order.TheVariants as order
use Rattle.dyl_front.specs.Lines.{line_of}
use Rattle.spec_traces.specs.Traces.{Traces, IsTraceOf}
use Rattle.dyl_commands.specs.Traced.{IsShort, IsLong}
use Rattle.dyl_commands.specs.Files.{OutputLeaves, IsMerged, IsSnapped, IsTraced, TraceLeaves, LeavesFor}
use Rattle.dyl_commands.specs.Causes.{Caused}
use Rattle.dyl_commands.specs.Due.{is_done}
use Rattle.dyl_commands.specs.Told.{IsTold}
use Rattle.dyl_commands.specs.Linking.{linked}
use Rattle.dyl_commands.specs.Runs.{guest_arguments, IsFileRun, IsFileCut, ExecWorks, IsLoadedRun, IsLoadedCut, RunWorks, ProgramWorks, IsTracedRun, TraceWorks, BoardWorks, PlanWorks, GenWorks, Picks, Works}
use Rattle.dyl_commands.specs.Served.{Serves}

-- what is so of the outcome, and of want of memory, is so of the answer
pub told_keeps : (P : Outcome → Type 0) (outcome answer : Outcome) → IsTold outcome answer → (IsSome (line_of outcome) → P Memory) → P outcome → P answer
told_keeps P outcome answer told memory h = elim told [ inl same ↦ subst P (sym same) h | inr none ↦ subst P (sym none.0) (memory none.1) ]

pub not_told_done : (outcome answer : Outcome) → IsTold outcome answer → is_done outcome ≡ false → is_done answer ≡ false
not_told_done outcome answer (inl same) other = ap is_done same ∙ other
not_told_done outcome answer (inr none) other = ap is_done none.0

-- nothing is told where the command is done
pub done_silent : (answer : Outcome) → is_done answer ≡ true → line_of answer ≡ None
done_silent (Done runs) is = refl
done_silent (Ran ran) is = absurd cc
done_silent (Board ran) is = absurd cc
done_silent (Usage kind) is = absurd cc
done_silent (Set fault) is = absurd cc
done_silent (Link fault) is = absurd cc
done_silent (Merge fault) is = absurd cc
done_silent (Single fault) is = absurd cc
done_silent (Gen fault) is = absurd cc
done_silent (Trace fault) is = absurd cc
done_silent (TooLong run) is = absurd cc
done_silent (Snap why) is = absurd cc
done_silent WriteFault is = absurd cc
done_silent Memory is = absurd cc

-- ---- files

output_memory : (IsWritten : FileMap → FileMap → Type 0) (out : List ℕ) (files : FileMap) (outcome : Outcome) (old new : FilesState) → IsSome (line_of outcome)
    → (outcome ≡ WriteFault → Rose old.write_faults new.write_faults) → OutputLeaves IsWritten out files outcome old new → OutputLeaves IsWritten out files Memory old new
output_memory IsWritten out files (Done runs) old new line rose leaves = absurd cc
output_memory IsWritten out files WriteFault old new line rose leaves = inr (rose refl, leaves)
output_memory IsWritten out files Memory old new line rose leaves = leaves
output_memory IsWritten out files _ old new line rose leaves = inl leaves

-- a trace of this run is one of a run
traced_memory : (names : HostNames) (one : Bool) (o : sets.SetOptions) (l : plans.LinkOptions) (out : List ℕ) (r : ran.Ran) (files : FileMap) (told : Option FileMap)
    → IsSomeAnd told (IsTraced names one o l out (λ C t. IsTraceOf C r t) files) → IsSomeAnd told (IsTraced names one o l out Traces files)
traced_memory names one o l out r files None h = h
traced_memory names one o l out r files (Some after) h =
    record { program = h.program; gives = h.gives; trace = h.trace; is = h.is.traces; text = h.text; of_trace = h.of_trace; written = h.written }

trace_memory : (names : HostNames) (one : Bool) (o : sets.SetOptions) (l : plans.LinkOptions) (out : List ℕ) (files : FileMap) (outcome : Outcome) (old new : FilesState)
    → (outcome ≡ WriteFault → Rose old.write_faults new.write_faults) → TraceLeaves names one o l out files outcome old new → TraceLeaves names one o l out files Memory old new
trace_memory names one o l out files (Ran r) old new rose leaves = inr (inl (traced_memory names one o l out r files new.told leaves))
trace_memory names one o l out files WriteFault old new rose leaves = inr (inr (rose refl, leaves))
trace_memory names one o l out files Memory old new rose leaves = leaves
trace_memory names one o l out files _ old new rose leaves = inl leaves

leaves_memory : (names : HostNames) (asked : Result Order UsageKind) (files : FileMap) (outcome : Outcome) (old new : FilesState) (before now : ℕ) → IsSome (line_of outcome)
    → Caused names asked outcome old new before now → LeavesFor names asked files outcome old new → LeavesFor names asked files Memory old new
leaves_memory names (Err kind) files outcome old new before now line caused leaves = leaves
leaves_memory names (Ok (order.Merge o l out)) files outcome old new before now line caused leaves =
    output_memory (IsMerged names (options_of o) (links.options_of l) out) out files outcome old new line
    (λ is. (subst (λ a. Caused names (Ok (order.Merge o l out)) a old new before now) is caused).rose) leaves
leaves_memory names (Ok (order.Run o l steps args)) files outcome old new before now line caused leaves = leaves
leaves_memory names (Ok (order.Exec file steps args)) files outcome old new before now line caused leaves = leaves
leaves_memory names (Ok (order.Plan o l)) files outcome old new before now line caused leaves = leaves
leaves_memory names (Ok (order.Gen n pages steps)) files outcome old new before now line caused leaves = leaves
leaves_memory names (Ok (order.Trace one o l steps out args)) files outcome old new before now line caused leaves =
    trace_memory names one (options_of o) (links.options_of l) out files outcome old new
    (λ is. (subst (λ a. Caused names (Ok (order.Trace one o l steps out args)) a old new before now) is caused).rose) leaves
leaves_memory names (Ok (order.Replay one path o l steps)) files outcome old new before now line caused leaves = leaves
leaves_memory names (Ok (order.Snap o l steps out)) files outcome old new before now line caused leaves =
    output_memory (IsSnapped names (options_of o) (links.options_of l) steps out) out files outcome old new line
    (λ is. (subst (λ a. Caused names (Ok (order.Snap o l steps out)) a old new before now) is caused).rose) leaves
leaves_memory names (Ok (order.Board mains l steps slice turns)) files outcome old new before now line caused leaves = leaves

memory_caused : (names : HostNames) (asked : Result Order UsageKind) (old new : FilesState) (before now : ℕ) → Caused names asked Memory old new before now
memory_caused names (Err kind) old new before now = inr refl
memory_caused names (Ok order) old new before now = tt

pub told_serves : (names : HostNames) (asked : Result Order UsageKind) (outcome answer : Outcome) (old new : FilesState) (before now : ℕ) → IsTold outcome answer
    → Serves names asked outcome old new before now → Serves names asked answer old new before now
told_serves names asked outcome answer old new before now told h =
    told_keeps (λ o. Serves names asked o old new before now) outcome answer told
    (λ line. record {
      tells = λ files is. tt;
      leaves = λ files is. leaves_memory names asked files outcome old new before now line h.caused (h.leaves files is);
      caused = memory_caused names asked old new before now;
      inner = refl;
    }) h

-- where nothing was done with the files
pub memory_serves : (names : HostNames) (asked : Result Order UsageKind) (old : FilesState) (before now : ℕ) → Serves names asked Memory old old before now
memory_serves names asked old before now = record { tells = λ files is. tt; leaves = λ files is. same asked files is; caused = memory_caused names asked old old before now; inner = refl }
  where
    same : (a : Result Order UsageKind) (files : FileMap) → old.told ≡ Some files → LeavesFor names a files Memory old old
    same (Err kind) files is = is
    same (Ok (order.Merge o l out)) files is = inl is
    same (Ok (order.Run o l steps args)) files is = is
    same (Ok (order.Exec file steps args)) files is = is
    same (Ok (order.Plan o l)) files is = is
    same (Ok (order.Gen n pages steps)) files is = is
    same (Ok (order.Trace one o l steps out args)) files is = inl is
    same (Ok (order.Replay one path o l steps)) files is = is
    same (Ok (order.Snap o l steps out)) files is = inl is
    same (Ok (order.Board mains l steps slice turns)) files is = is

pub usage_serves : (names : HostNames) (asked : Result Order UsageKind) (kind : UsageKind) → asked ≡ Err kind → (old : FilesState) (before now : ℕ) → Serves names asked (Usage kind) old old before now
usage_serves names asked kind is old before now =
    subst (λ a. Serves names a (Usage kind) old old before now) (sym is) (record { tells = λ files told. refl; leaves = λ files told. told; caused = inl refl; inner = refl })

-- ---- devices

-- nothing was begun
not_broken : (embedder : Embedder) (calls : List (HostCall × MemoryInstance)) (devices : Devices) → BreaksOff embedder calls devices devices
not_broken embedder [] devices = refl
not_broken embedder (e ∷ es) devices = go (is_wasi e.0)
  where
    go : (b : Bool) → OneOf b (MayBegin (wants embedder e.0 e.1) devices devices) (devices ≡ devices)
    go true = inl refl
    go false = refl

-- a whole run is one that may be cut short
cut_of : (told : Option FileMap) (path : List ℕ) (steps : ℕ) (embedder : Embedder) (r : ran.Ran) (old new : Devices) → IsFileRun told path steps embedder r old new → IsFileCut told path steps embedder old new
cut_of told path steps embedder r old new h = record {
  wasm = h.wasm;
  opening = h.opening;
  begun = h.begun;
  cut = record {
    steps = r.steps;
    given = r.answers;
    middle = new;
    made = h.run.runs.made;
    hosted = h.run.hosted;
    broken = not_broken embedder (event (module_system h.wasm) (module_run h.wasm h.opening r.answers r.steps).state) new;
  };
}

-- of a set too
set_cut_of : (told : Option FileMap) (o : sets.SetOptions) (l : plans.LinkOptions) (steps : ℕ) (embedder : Embedder) (r : ran.Ran) (old new : Devices) → IsLoadedRun told o l steps embedder r old new
    → IsLoadedCut told o l steps embedder old new
set_cut_of told o l steps embedder r old new h = record {
  set = h.set;
  there = h.there;
  cut = record {
    steps = r.steps;
    given = r.answers;
    middle = new;
    made = h.run.runs.made;
    hosted = h.run.hosted;
    broken = not_broken embedder (event (set_system (linked embedder.names l h.set)) (run (set_system (linked embedder.names l h.set)) r.steps (set_opening (linked embedder.names l h.set)) r.answers).state) new;
  };
}

run_memory : (told : Option FileMap) (o : sets.SetOptions) (l : plans.LinkOptions) (steps : ℕ) (embedder : Embedder) (outcome : Outcome) (old new : Devices) → RunWorks told o l steps embedder outcome old new
    → RunWorks told o l steps embedder Memory old new
run_memory told o l steps embedder (Ran r) old new h = inr (set_cut_of told o l steps embedder r old new h)
run_memory told o l steps embedder Memory old new h = h
run_memory told o l steps embedder _ old new h = inl h

exec_memory : (told : Option FileMap) (file : List ℕ) (steps : ℕ) (embedder : Embedder) (outcome : Outcome) (old new : Devices) → ExecWorks told file steps embedder outcome old new
    → ExecWorks told file steps embedder Memory old new
exec_memory told file steps embedder (Ran r) old new h = inr (cut_of told file steps embedder r old new h)
exec_memory told file steps embedder Memory old new h = h
exec_memory told file steps embedder _ old new h = inl h

-- of a run with its trace

pub program_memory : (told : Option FileMap) (one : Bool) (o : sets.SetOptions) (l : plans.LinkOptions) (steps : ℕ) (embedder : Embedder) (outcome : Outcome) (old new : Devices)
    → ProgramWorks told one o l steps embedder outcome old new → ProgramWorks told one o l steps embedder Memory old new
program_memory told false o l steps embedder outcome old new h = run_memory told o l steps embedder outcome old new h
program_memory told true o l steps embedder outcome old new h = exec_memory told o.main steps embedder outcome old new h

-- its run was made
traced_run : (Size : ℕ → Type 0) (told : Option FileMap) (one : Bool) (o : sets.SetOptions) (l : plans.LinkOptions) (steps : ℕ) (embedder : Embedder) (r : ran.Ran) (old new : Devices)
    → IsTracedRun Size told one o l steps embedder r old new → ProgramWorks told one o l steps embedder (Ran r) old new
traced_run Size told false o l steps embedder r old new h = h.0
traced_run Size told true o l steps embedder r old new h = h.0

cut_trace : (told : Option FileMap) (one : Bool) (o : sets.SetOptions) (l : plans.LinkOptions) (steps : ℕ) (embedder : Embedder) (outcome : Outcome) (old new : Devices)
    → TraceWorks told one o l steps embedder outcome old new → TraceWorks told one o l steps embedder Memory old new
cut_trace told one o l steps embedder (Ran r) old new h = program_memory told one o l steps embedder (Ran r) old new (traced_run IsShort told one o l steps embedder r old new h)
cut_trace told one o l steps embedder (TooLong r) old new h = program_memory told one o l steps embedder (Ran r) old new (traced_run IsLong told one o l steps embedder r old new h)
cut_trace told one o l steps embedder WriteFault old new h = program_memory told one o l steps embedder (Ran h.0) old new (traced_run IsShort told one o l steps embedder h.0 old new h.1)
cut_trace told one o l steps embedder outcome old new h = program_memory told one o l steps embedder outcome old new h

plan_memory : (told : Option FileMap) (names : HostNames) (o : sets.SetOptions) (l : plans.LinkOptions) (outcome : Outcome) (old new : SinkState) → IsSome (line_of outcome)
    → PlanWorks told names o l outcome old new → PlanWorks told names o l Memory old new
plan_memory told names o l (Done runs) old new line h = absurd cc
plan_memory told names o l WriteFault old new line h = inr (io.Failed, h)
plan_memory told names o l Memory old new line h = h
plan_memory told names o l _ old new line h = inl h

pub told_plans : (told : Option FileMap) (names : HostNames) (o : sets.SetOptions) (l : plans.LinkOptions) (outcome answer : Outcome) (old new : SinkState) → IsTold outcome answer
    → PlanWorks told names o l outcome old new → PlanWorks told names o l answer old new
told_plans told names o l outcome answer old new is h = told_keeps (λ a. PlanWorks told names o l a old new) outcome answer is (λ line. plan_memory told names o l outcome old new line h) h

gen_memory : (embedder : Embedder) (n pages steps : ℕ) (outcome : Outcome) (old new : SinkState) → IsSome (line_of outcome) → GenWorks embedder n pages steps outcome old new
    → GenWorks embedder n pages steps Memory old new
gen_memory embedder n pages steps (Done runs) old new line h = absurd cc
gen_memory embedder n pages steps WriteFault old new line h = inr (h.0, io.Failed, h.1)
gen_memory embedder n pages steps Memory old new line h = h
gen_memory embedder n pages steps _ old new line h = inl h

pub told_gens : (embedder : Embedder) (n pages steps : ℕ) (outcome answer : Outcome) (old new : SinkState) → IsTold outcome answer → GenWorks embedder n pages steps outcome old new
    → GenWorks embedder n pages steps answer old new
told_gens embedder n pages steps outcome answer old new is h =
    told_keeps (λ a. GenWorks embedder n pages steps a old new) outcome answer is (λ line. gen_memory embedder n pages steps outcome old new line h) h

-- a whole run of a board is one that may be cut short
board_memory : (told : Option FileMap) (mains : List (List ℕ)) (l : plans.LinkOptions) (steps slice turns : ℕ) (pick : Picks) (embedder : Embedder) (outcome : Outcome) (old new : Devices)
    → BoardWorks told mains l steps slice turns pick embedder outcome old new → BoardWorks told mains l steps slice turns pick embedder Memory old new
board_memory told mains l steps slice turns pick embedder (Board r) old new h = inr (record {
  sets = h.sets;
  there = h.there;
  cut = record {
    given = map (λ (x : ran.Ran). x.answers) r.runs;
    count = length-map r.runs (λ (x : ran.Ran). x.answers) ∙ h.run.count;
    picks = r.picks;
    middle = new;
    turns = h.run.turns;
    broken = inl refl;
  };
})
board_memory told mains l steps slice turns pick embedder Memory old new h = h
board_memory told mains l steps slice turns pick embedder _ old new h = inl h

works_memory : (told : Option FileMap) (embedder : List (List ℕ) → Embedder) (pick : Picks) (asked : Result Order UsageKind) (outcome : Outcome) (old new : Devices) → IsSome (line_of outcome)
    → Works told embedder pick asked outcome old new → Works told embedder pick asked Memory old new
works_memory told embedder pick (Err kind) outcome old new line h = h
works_memory told embedder pick (Ok (order.Merge o l out)) outcome old new line h = h
works_memory told embedder pick (Ok (order.Run o l steps args)) outcome old new line h = run_memory told (options_of o) (links.options_of l) steps (embedder (guest_arguments args)) outcome old new h
works_memory told embedder pick (Ok (order.Exec file steps args)) outcome old new line h = exec_memory told file steps (embedder (guest_arguments args)) outcome old new h
works_memory told embedder pick (Ok (order.Plan o l)) outcome old new line h =
    (plan_memory told (embedder []).names (options_of o) (links.options_of l) outcome old.output new.output line h.0, h.1)
works_memory told embedder pick (Ok (order.Gen n pages steps)) outcome old new line h =
    (gen_memory (embedder (guest_arguments [])) n pages steps outcome old.output new.output line h.0, h.1)
works_memory told embedder pick (Ok (order.Trace one o l steps out args)) outcome old new line h = cut_trace told one (options_of o) (links.options_of l) steps (embedder (guest_arguments args)) outcome old new h
works_memory told embedder pick (Ok (order.Replay one path o l steps)) outcome old new line h = h
works_memory told embedder pick (Ok (order.Snap o l steps out)) outcome old new line h = h
works_memory told embedder pick (Ok (order.Board mains l steps slice turns)) outcome old new line h =
    board_memory told mains (links.options_of l) steps slice turns pick (embedder (guest_arguments [])) outcome old new h

pub told_works : (told : Option FileMap) (embedder : List (List ℕ) → Embedder) (pick : Picks) (asked : Result Order UsageKind) (outcome answer : Outcome) (old new : Devices) → IsTold outcome answer → Works told embedder pick asked outcome old new
    → Works told embedder pick asked answer old new
told_works told embedder pick asked outcome answer old new is h =
    told_keeps (λ o. Works told embedder pick asked o old new) outcome answer is (λ line. works_memory told embedder pick asked outcome old new line h) h
