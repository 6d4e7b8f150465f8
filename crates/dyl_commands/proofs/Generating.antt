-- What comes of generating a set and of its runs.
use Rattle.std.proofs.Common.{◌≡◌, ◌⊎◌, ℕ, zero, suc, ◌^◌, ◌<◌, ◌≤◌, nat_le, Bool, true, false, cond, List, [], ◌∷◌, None, Some, Result, Ok, Err, refl, sym, ap, ◌∙◌, subst, arith, inl, inr}
use Rattle.std.specs.Prelude.{IfOk}
use Rattle.std.specs.FinMap.{get}
use Rattle.std.proofs.lemmas.Bool.Decides.{nat_tests}
use Rattle.wasm_form.specs.declared.module.Module.{Module}
use Rattle.spec_hosts.specs.dyl_outside.declared.fault.IoFault.{IoFault}
use Rattle.spec_hosts.specs.dyl_outside.declared.fault.IoFault.TheVariants as io
use Rattle.spec_hosts.specs.dyl_outside.Faults.{Rises}
use Rattle.spec_hosts.specs.dyl_outside.FileMap.{FileMap}
use Rattle.spec_hosts.specs.dyl_outside.Files.{FilesState}
use Rattle.spec_hosts.specs.dyl_outside.Sink.{SinkState, Puts}
use Rattle.spec_hosts.specs.dyl_outside.MemAmbient.{MemAmbientState}
use Rattle.spec_hosts.specs.spec_runtime.Names.{HostNames}
use Rattle.spec_loading.specs.spec_execution.declared.fault.SingleFault.{SingleFault}
use Rattle.spec_loading.specs.spec_execution.OneModule.{ModuleState, module_opening}
use Rattle.spec_loading.specs.spec_linking.declared.fault.SetFault.{SetFault}
use Rattle.spec_loading.specs.spec_linking.declared.fault.SetFault.TheVariants.{ReadFault}
use Rattle.spec_loading.specs.spec_linking.declared.fault.LinkFault.{LinkFault}
use Rattle.spec_loading.specs.spec_linking.declared.fault.LinkFault.TheVariants.{MemoryLimit}
use Rattle.spec_loading.specs.spec_linking.Gathering.{IsGathered}
use Rattle.spec_loading.specs.spec_linking.LinkedSets.{LinkedSet}
use Rattle.spec_hosts.specs.declared.ran.Ran.{Ran}
use Rattle.spec_hosts.specs.Devices.{Devices, devices}
use Rattle.spec_hosts.specs.Hosted.{Embedder}
use Rattle.wasm_exec.specs.Executed as executed
use Rattle.wasm_exec.specs.Executed.{IsModuleRun}
use Rattle.spec_reading.specs.spec_binary.DecodeAnswers.{DecodeAnswer}
use Rattle.wasm_form.specs.declared.memory.Memory as wanting
use Rattle.merge_whole.specs.Merges as whole
use Rattle.merge_whole.specs.Merges.{bulk}
use Rattle.dyl_gen.specs.declared.fault.GenFault.TheVariants.{Range}
use Rattle.dyl_gen.specs.Laws.{set_options, GathersNoFault, GathersLittle, CanWrite, NeedsThreePages}
use Rattle.dyl_front.specs.Summary.{summary_of}
use Rattle.dyl_front.specs.declared.order.Order.TheVariants as order
use Rattle.dyl_front.specs.declared.reports.Report.{Report}
use Rattle.dyl_front.specs.declared.outcome.Outcome.{Outcome}
use Rattle.dyl_front.specs.declared.outcome.Outcome.TheVariants.{Done, Set, Link, Gen, WriteFault, Memory}
use Rattle.dyl_commands.specs.Linking.{HasLinkFault}
use Rattle.dyl_commands.specs.Generated.{with_pages, AreMade, MadeLinks, GenDue}
use Rattle.dyl_commands.specs.Runs.{nothing, IsRunInside, AreBothRun, PutsSummary, GenWorks}
use Rattle.dyl_commands.specs.Served.{Serves, Gets, IsNotGot}
use Rattle.dyl_commands.specs.GeneratedRuns.{IsNotMade, IsMade, MakesSet, IsLittle, RunsLoaded, MergesTo, RunsModule, SumsUp, PutsBoth, RunsBoth}

-- ---- making a set

-- a number of which there is a set
positive : (n : ℕ) → (n ≡ 0 → ⊥) → 0 < n
positive zero other = absurd (other refl)
positive (suc n) other = omega arith

small_by : (n : ℕ) (b : Bool) → nat_le n 255 ≡ b → (255 < n → ⊥) → n ≤ 255
small_by n true e other = grind (arith, nat_tests, e)
small_by n false e other = absurd (other (grind (arith, nat_tests, e)))

pub in_range : (n : ℕ) → ((n ≡ 0) ⊎ (255 < n) → ⊥) → (0 < n) × (n ≤ 255)
in_range n other = (positive n (λ e. other (inl e)), small_by n (nat_le n 255) refl (λ l. other (inr l)))

module _ (names : HostNames) (can : CanWrite names) (n pages : ℕ) (files : FileMap) (made : AreMade n files) (gathers : GathersNoFault) (three : NeedsThreePages) where
  -- a fault of linking is that the pages are too few
  too_few : (b : Bool) (fault : LinkFault) → cond b None (Some (MemoryLimit 3 pages)) ≡ Some fault → fault ≡ MemoryLimit 3 pages
  too_few true fault e = absurd cc
  too_few false fault e = cc

  unlinked : (fault : LinkFault) → HasLinkFault names (get files) set_options (with_pages pages) fault → GenDue names n pages (Link fault)
  unlinked fault h =
      let whole = three n files h.set names (with_pages pages) made.some made.few made.generated h.gathered can refl refl in
      let is = too_few (nat_le 3 pages) fault (sym whole ∙ h.found) in
      subst (λ f. GenDue names n pages (Link f)) (sym is)
      (record { files = files; made = made; found = subst (HasLinkFault names (get files) set_options (with_pages pages)) is h })

  module _ (old new : FilesState) (told : old.told ≡ Some files) (before : old.read_faults ≡ 0) (now : new.read_faults ≡ 0) where
    no_read_fault : Rises old.read_faults new.read_faults → ⊥
    no_read_fault rises = (let rose = rises.rose in omega arith)

    no_set_fault : (fault : SetFault) → IsNotGot names set_options (with_pages pages) (Set fault) old new → ⊥
    no_set_fault (ReadFault at) h = no_read_fault h.caused
    no_set_fault fault h = gathers n files fault made.some made.few made.generated (h.tells files told)

    pub made_from : (r : Result LinkedSet Outcome) → Gets names set_options (with_pages pages) r old new → MakesSet names n pages r
    made_from (Ok L) h = record {
      files = files;
      made = made;
      set = h.got.set;
      gathered = h.got.gathered files told;
      shape = h.got.shape;
      links = h.got.links;
      is = h.got.is;
    }
    made_from (Err Memory) h = tt
    made_from (Err (Set fault)) h = absurd (no_set_fault fault h.fault)
    made_from (Err (Link fault)) h = unlinked fault (h.fault.tells files told)
    made_from (Err _) h = absurd h.fault.caused

-- there is little of it
pub little : (names : HostNames) (n pages : ℕ) (L : LinkedSet) → GathersLittle → IsMade names n pages L → IsLittle L
little names n pages L law h =
    let small = law n h.files h.set h.made.some h.made.few h.made.generated h.gathered in
    subst IsLittle (sym h.is) small.little

-- so no section of its merged module is too long
pub never_big : (L : LinkedSet) → IsLittle L → 2 ^ 32 ≤ bulk L → ⊥
never_big L few big = apart (bulk L) few big
  where
    apart : (n : ℕ) → n < 2 ^ 32 → 2 ^ 32 ≤ n → ⊥
    apart n low high = omega arith

-- ---- runs

-- over sinks that hold nothing, and a clock and random words without values
pub begins : (output errors : List ℕ) (ambient : MemAmbientState) → output ≡ [] → errors ≡ []
    → ambient ≡ record { times = []; words = []; failing = []; next_call = 0; faults = 0 }
    → devices (record { left = Some []; full = true; faults = 0 }) (record { held = Some output; faults = 0 }) (record { held = Some errors; faults = 0 })
    (record { times = Some ambient.times; words = Some ambient.words; faults = ambient.faults })
    ≡ nothing
begins output errors ambient out err is =
    ap (λ (bytes : List ℕ). devices (record { left = Some []; full = true; faults = 0 }) (record { held = Some bytes; faults = 0 }) (record { held = Some errors; faults = 0 })
    (record { times = Some ambient.times; words = Some ambient.words; faults = ambient.faults })) out
    ∙ ap (λ (bytes : List ℕ). devices (record { left = Some []; full = true; faults = 0 }) (record { held = Some []; faults = 0 }) (record { held = Some bytes; faults = 0 })
    (record { times = Some ambient.times; words = Some ambient.words; faults = ambient.faults })) err
    ∙ ap (λ (a : MemAmbientState). devices (record { left = Some []; full = true; faults = 0 }) (record { held = Some []; faults = 0 }) (record { held = Some []; faults = 0 })
    (record { times = Some a.times; words = Some a.words; faults = a.faults })) is

-- a run of a set, over these
pub set_inside : (L : LinkedSet) (embedder : List (List ℕ) → Embedder) (texts args : List (List ℕ)) → texts ≡ args → (steps : ℕ) (r : Report) (begun after : Devices) → begun ≡ nothing
    → executed.ExecutesSet L (embedder texts) steps (Ok r.ran) begun after → after.output.held ≡ Some r.output → after.input.faults ≡ 0 → after.output.faults ≡ 0 → after.errors.faults ≡ 0
    → RunsLoaded L (embedder args) steps r
set_inside L embedder texts args same steps r begun after is run put input out err = record {
  after = after;
  run = subst (λ t. executed.IsSetRun L (embedder t) steps r.ran nothing after) same (subst (λ d. executed.IsSetRun L (embedder texts) steps r.ran d after) is run);
  put = put;
  input = input;
  outputs = (out, err);
}

-- of a module
pub module_inside : (wasm : Module) (embedder : List (List ℕ) → Embedder) (texts args : List (List ℕ)) → texts ≡ args → (steps : ℕ) (r : Report) (begun after : Devices) → begun ≡ nothing
    → executed.Executes wasm (embedder texts) steps (Ok r.ran) begun after → after.output.held ≡ Some r.output → after.input.faults ≡ 0 → after.output.faults ≡ 0 → after.errors.faults ≡ 0
    → RunsModule wasm (embedder args) steps r
module_inside wasm embedder texts args same steps r begun after is run put input out err =
    let inside : executed.Executes wasm (embedder args) steps (Ok r.ran) nothing after =
    subst (λ t. executed.Executes wasm (embedder t) steps (Ok r.ran) nothing after) same (subst (λ d. executed.Executes wasm (embedder texts) steps (Ok r.ran) d after) is run)
    in
    record { opening = inside.0; opens = inside.1; run = record { after = after; run = inside.2; put = put; input = input; outputs = (out, err) } }

-- ---- the summary

-- what is decoded of the merged bytes is the merged module, and opens
pub merged_to : (L : LinkedSet) (wasm : Module) (r : Result Module wanting.Memory) → IfOk r (λ m. m ≡ wasm) → MergesTo L wasm → IfOk r (MergesTo L)
merged_to L wasm (Ok m) same merges = subst (MergesTo L) (sym same) merges
merged_to L wasm (Err why) same merges = tt

pub merges_to : (L : LinkedSet) (wasm : Module) (bytes : List ℕ) → whole.Merges L bytes → ((m : Module) → DecodeAnswer bytes (Ok m) → m ≡ wasm) → MergesTo L wasm
merges_to L wasm bytes merges told = record { bytes = bytes; merges = merges.merged; decoded = merges.decoded; is = told merges.merged.wasm merges.decoded }

pub opens_of : (names : HostNames) (L : LinkedSet) → L.names ≡ names → (wasm : Module) → MergesTo L wasm → (opening : ModuleState) × (module_opening wasm names ≡ Ok opening)
opens_of names L same wasm has =
    (has.merges.opening, ap (λ w. module_opening w names) (sym has.is) ∙ ap (module_opening has.merges.wasm) (sym same) ∙ has.merges.opens)

-- a run of the module that was merged
pub merged_runs : (L : LinkedSet) (embedder : Embedder) (steps : ℕ) (wasm : Module) (r : Result Report wanting.Memory) → MergesTo L wasm → IfOk r (RunsModule wasm embedder steps)
    → IfOk r (λ report. (wasm : Module) × MergesTo L wasm × RunsModule wasm embedder steps report)
merged_runs L embedder steps wasm (Ok report) merges runs = (wasm, merges, runs)
merged_runs L embedder steps wasm (Err why) merges runs = tt

one_opening : (r : Result ModuleState SingleFault) (a b : ModuleState) → r ≡ Ok a → r ≡ Ok b → a ≡ b
one_opening r a b is also = cc

module _ (L : LinkedSet) (embedder : Embedder) (names : L.names ≡ embedder.names) (steps : ℕ) (wasm : Module) (loaded merged : Report) (old new : SinkState) (runs : RunsLoaded L embedder steps loaded)
    (has : MergesTo L wasm) (executes : RunsModule wasm embedder steps merged) where
  -- the run of the module, as one of what merges the set
  same_opening : (m : Module) → m ≡ wasm → (opening : ModuleState) → module_opening m L.names ≡ Ok opening → executes.opening ≡ opening
  same_opening m same opening opens =
      let one : module_opening wasm embedder.names ≡ Ok opening = sym (ap (λ w. module_opening w embedder.names) same) ∙ sym (ap (module_opening m) names) ∙ opens in
      one_opening (module_opening wasm embedder.names) executes.opening opening executes.opens one

  run_of : (m : Module) → m ≡ wasm → (opening : ModuleState) → executes.opening ≡ opening → IsRunInside (IsModuleRun m embedder opening steps merged.ran) merged.output
  run_of m same opening also =
      subst (λ o. IsRunInside (IsModuleRun m embedder o steps merged.ran) merged.output) also
      (subst (λ w. IsRunInside (IsModuleRun w embedder executes.opening steps merged.ran) merged.output) (sym same) executes.run)

  puts : (rs : List Ran) → rs ≡ loaded.ran ∷ merged.ran ∷ [] → (result : Result (Unit {0}) IoFault) → Puts (summary_of L loaded merged) result old new → PutsBoth L embedder steps rs result old new
  puts rs two result put = record {
    summary = summary_of L loaded merged;
    both = record {
      loaded = loaded;
      loaded_run = runs;
      bytes = has.bytes;
      merges = has.merges;
      decoded = has.decoded;
      merged = merged;
      merged_run = run_of has.merges.wasm has.is has.merges.opening (same_opening has.merges.wasm has.is has.merges.opening has.merges.opens);
      two = two;
      sums = refl;
    };
    put = put;
  }

  -- both runs were made, of the set and of its merged module
  pub both_put : (answer : Outcome) → SumsUp L loaded merged answer old new → RunsBoth L embedder steps answer old new
  both_put (Done rs) h = puts rs h.0 (Ok tt) h.1
  both_put WriteFault h = (loaded.ran ∷ merged.ran ∷ [], puts (loaded.ran ∷ merged.ran ∷ []) refl (Err io.Failed) h)
  both_put Memory (inl same) = inl same
  both_put Memory (inr put) = inr (loaded.ran ∷ merged.ran ∷ [], puts (loaded.ran ∷ merged.ran ∷ []) refl (Err io.Memory) put)
  both_put _ h = absurd h

-- ---- what is asked

module _ (embedder : Embedder) (n pages steps : ℕ) where
  module _ (L : LinkedSet) (made : IsMade embedder.names n pages L) (old new : SinkState) where
    puts_summary : (rs : List Ran) (result : Result (Unit {0}) IoFault) → PutsBoth L embedder steps rs result old new → PutsSummary embedder n pages steps rs result old new
    puts_summary rs result h = record {
      files = made.files;
      made = made.made;
      set = made.set;
      there = record {
        gathered = λ files same. subst (λ (f : FileMap). IsGathered (get f) set_options (Ok made.set)) (only files same) made.gathered;
        shape = made.shape;
        links = made.links;
      };
      summary = h.summary;
      both = subst (λ (M : LinkedSet). AreBothRun M embedder steps rs h.summary) made.is h.both;
      put = h.put;
    }
      where
        only : (files : FileMap) → Some made.files ≡ Some files → made.files ≡ files
        only files same = cc

    pub gen_works : (answer : Outcome) → RunsBoth L embedder steps answer old new → GenWorks embedder n pages steps answer old new
    gen_works (Done rs) h = puts_summary rs (Ok tt) h
    gen_works WriteFault h = (h.0, puts_summary h.0 (Err io.Failed) h.1)
    gen_works Memory (inl same) = inl same
    gen_works Memory (inr put) = inr (put.0, io.Memory, puts_summary put.0 (Err io.Memory) put.1)
    gen_works _ h = absurd h

    made_links : MadeLinks embedder.names n pages
    made_links = record { files = made.files; made = made.made; links = record { set = made.set; gathered = made.gathered; links = made.links } }

    pub gen_serves : (answer : Outcome) (files : FilesState) → RunsBoth L embedder steps answer old new → Serves embedder.names (Ok (order.Gen n pages steps)) answer files files old.faults new.faults
    gen_serves (Done rs) files h = record { tells = λ f told. made_links; leaves = λ f told. told; caused = tt; inner = refl }
    gen_serves WriteFault files h = record { tells = λ f told. made_links; leaves = λ f told. told; caused = h.1.put.count; inner = refl }
    gen_serves Memory files h = record { tells = λ f told. tt; leaves = λ f told. told; caused = tt; inner = refl }
    gen_serves _ files h = absurd h

  -- where there is no set
  pub gen_refused : (answer : Outcome) (files : FilesState) (before now : ℕ) → IsNotMade embedder.names n pages answer
      → Serves embedder.names (Ok (order.Gen n pages steps)) answer files files before now
  gen_refused Memory files before now h = record { tells = λ f told. tt; leaves = λ f told. told; caused = tt; inner = refl }
  gen_refused (Link (MemoryLimit needed most)) files before now h = record { tells = λ f told. h; leaves = λ f told. told; caused = h; inner = refl }
  gen_refused (Gen Range) files before now h = record { tells = λ f told. h; leaves = λ f told. told; caused = h; inner = refl }
  gen_refused _ files before now h = absurd h

  -- and nothing is done
  pub gen_idle : (answer : Outcome) (sink : SinkState) → IsNotMade embedder.names n pages answer → GenWorks embedder n pages steps answer sink sink
  gen_idle Memory sink h = inl refl
  gen_idle (Link fault) sink h = refl
  gen_idle (Gen fault) sink h = refl
  gen_idle _ sink h = absurd h
