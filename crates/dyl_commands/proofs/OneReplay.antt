-- At most one outcome is due for a trace that is replayed.
use Rattle.std.proofs.Common.{◌≡◌, ◌⊎◌, ◌<◌, ◌≤◌, ℕ, List, [], Bool, true, false, Result, Ok, Err, refl, sym, ap, ◌∙◌, subst, inl, inr, arith, take}
use Rattle.std.proofs.lemmas.Bool.{cases_order}
use Rattle.std.proofs.lemmas.List.{take-take}
use Rattle.wasm_form.specs.declared.module.Module.{Module}
use Rattle.spec_hosts.specs.spec_runtime.Names.{HostNames}
use Rattle.spec_loading.specs.spec_execution.declared.fault.SingleFault.{SingleFault}
use Rattle.spec_loading.specs.spec_execution.OneModule.{module_opening}
use Rattle.spec_loading.specs.spec_linking.declared.fault.SetFault.TheVariants.{Missing, SetSize}
use Rattle.spec_loading.specs.spec_linking.Sets.{Files, SetOptions, main_name}
use Rattle.spec_loading.specs.spec_linking.Plans.{LinkOptions}
use Rattle.spec_traces.specs.declared.trace.Trace.{Trace}
use Rattle.spec_traces.specs.declared.trace.TraceFault.TheVariants.{Line, Steps, Differs}
use Rattle.spec_traces.specs.Texts.{trace_lines, lines_of, GoesOn, BreaksAt, IsTextOf}
use Rattle.spec_traces.specs.Traces.{Traces, IsAgreeing}
use Rattle.run_loaded.specs.Courses.{Origin, OfModule, OfSet, course_of}
use Rattle.dyl_front.specs.declared.outcome.Outcome.{Outcome}
use Rattle.dyl_front.specs.declared.outcome.Outcome.TheVariants as outcome
use Rattle.dyl_commands.specs.OneFile.{OfFile}
use Rattle.dyl_commands.specs.Linking.{linked, LinksAt, FaultDue}
use Rattle.dyl_commands.specs.Traced.{IsProgram, IsLoaded, LoadFault, OpenFault, OfTrace, CheckDue, ReplayDue}
use Rattle.dyl_commands.proofs.AtPaths.{There, one_there}
use Rattle.dyl_commands.proofs.OneFile.{one_of_file}
use Rattle.dyl_commands.proofs.Programs.{relinked, program_loaded}
use Rattle.dyl_commands.proofs.Alike.{Laws, canon, Alike, one_set_due, links_by, fault_by}

-- ---- the trace

-- where so many lines go on, so do fewer
fewer : (bytes : List ℕ) (m n : ℕ) → m ≤ n → GoesOn bytes n → GoesOn bytes m
fewer bytes m n few h =
    (h.0, h.1, omega (arith, few, h.2), omega (arith, few, h.3), sym (take-take m n (lines_of bytes) few) ∙ ap (take m) h.4 ∙ take-take m n (trace_lines h.0) few)

-- so there is one line at which they stop to
no_break : (bytes : List ℕ) (m n : ℕ) → m < n → BreaksAt bytes m → BreaksAt bytes n → ⊥
no_break bytes m n less h k = h.stops (fewer bytes m k.before (omega (arith, less, k.number)) k.goes)

one_break : (bytes : List ℕ) (m n : ℕ) → BreaksAt bytes m → BreaksAt bytes n → m ≡ n
one_break bytes m n h k =
    elim (cases_order m n) [ inl same ↦ same | inr (inl less) ↦ absurd (no_break bytes m n less h k) | inr (inr more) ↦ absurd (no_break bytes n m more k h) ]

module _ (laws : Laws) where
  -- what there is to say of bytes
  abbrev OfText : List ℕ → Result Trace Outcome → Type 0
  OfText bytes (Ok t) = IsTextOf bytes t
  OfText bytes (Err (outcome.Trace (Line line))) = BreaksAt bytes line
  OfText bytes (Err _) = ⊥

  one_of_text : (bytes : List ℕ) (a b : Result Trace Outcome) → OfText bytes a → OfText bytes b → a ≡ b
  one_of_text bytes (Ok t) (Ok u) h k = ap Ok (laws.one_trace t u h.1 k.1 (sym h.0 ∙ k.0))
  one_of_text bytes (Ok t) (Err (outcome.Trace (Line line))) h k = absurd (k.no_text t h)
  one_of_text bytes (Err (outcome.Trace (Line line))) (Ok t) h k = absurd (h.no_text t k)
  one_of_text bytes (Err (outcome.Trace (Line line))) (Err (outcome.Trace (Line other))) h k = ap (λ n. Err (outcome.Trace (Line n))) (one_break bytes line other h k)
  one_of_text bytes (Err (outcome.Trace (Line line))) _ h k = absurd k
  one_of_text bytes (Ok t) _ h k = absurd k
  one_of_text bytes _ b h k = absurd h

  abbrev missing : List ℕ → Result Trace Outcome
  missing path = Err (outcome.Set (Missing (main_name path)))

  trace_there : (files : Files) (path : List ℕ) (said : Result Trace Outcome) → OfTrace files path said → There (missing path) (Err (outcome.Set SetSize)) OfText (files path) said
  trace_there files path (Ok t) h = inr (inr h)
  trace_there files path (Err (outcome.Set (Missing name))) h = inl (h.0, ap (λ n. Err (outcome.Set (Missing n))) h.1)
  trace_there files path (Err (outcome.Set SetSize)) h = inr (inl (h, refl))
  trace_there files path (Err (outcome.Trace (Line line))) h = inr (inr h)
  trace_there files path (Err _) h = absurd h

  one_of_trace : (files : Files) (path : List ℕ) (a b : Result Trace Outcome) → OfTrace files path a → OfTrace files path b → a ≡ b
  one_of_trace files path a b h k = one_there (missing path) (Err (outcome.Set SetSize)) OfText one_of_text (files path) a b (trace_there files path a h) (trace_there files path b k)

  -- ---- the program

  module _ (names : HostNames) (files : Files) where
    one_module : (path : List ℕ) (m n : Module) → OfFile files path (Ok m) → OfFile files path (Ok n) → m ≡ n
    one_module path m n h k = (let same = one_of_file laws.one_answer path files (Ok m) (Ok n) h k in cc)

    one_program : (one : Bool) (o : SetOptions) (l : LinkOptions) (x y : Origin) → IsProgram names files one o l x → IsProgram names files one o l y → x ≡ y
    one_program false o l (OfSet L) (OfSet M) h k =
        let same = (laws.one_gathered laws.one_answer laws.one_record files o h.2.tried k.2.tried (Ok L.set) (Ok M.set) h.2.gathers k.2.gathers).1 in
        let sets : L.set ≡ M.set = cc in
        ap OfSet (relinked names files o l L h.0 h.1 ∙ ap (linked names l) sets ∙ sym (relinked names files o l M k.0 k.1))
    one_program false o l (OfSet L) (OfModule m opening) h k = absurd k
    one_program false o l (OfModule m opening) y h k = absurd h
    one_program true o l (OfModule m opening) (OfModule n other) h k =
        let modules = one_module o.main m n h.0 k.0 in
        let same : Ok opening ≡ Ok other = sym h.1 ∙ ap (λ w. module_opening w names) modules ∙ k.1 in
        let openings : opening ≡ other = cc in
        ap (λ w. OfModule w opening) modules ∙ ap (OfModule n) openings
    one_program true o l (OfModule m opening) (OfSet L) h k = absurd k
    one_program true o l (OfSet L) y h k = absurd h

    -- a module that doesn't open is loaded
    refused_loaded : (one : Bool) (o : SetOptions) (l : LinkOptions) (fault : SingleFault) → OpenFault names files one o fault → IsLoaded names files one o l
    refused_loaded false o l fault h = absurd h
    refused_loaded true o l fault h = (h.wasm, h.file)

    not_refused : (one : Bool) (o : SetOptions) (l : LinkOptions) (x : Origin) (fault : SingleFault) → IsProgram names files one o l x → OpenFault names files one o fault → ⊥
    not_refused false o l x fault h k = k
    not_refused true o l (OfModule m opening) fault h k =
        let same : Ok opening ≡ Err fault = sym h.1 ∙ ap (λ w. module_opening w names) (one_module o.main m k.wasm h.0 k.file) ∙ k.refused in
        absurd cc
    not_refused true o l (OfSet L) fault h k = h

    one_refusal : (one : Bool) (o : SetOptions) (f g : SingleFault) → OpenFault names files one o f → OpenFault names files one o g → f ≡ g
    one_refusal false o f g h k = absurd h
    one_refusal true o f g h k =
        let same : Err f ≡ Err g = sym h.refused ∙ ap (λ w. module_opening w names) (one_module o.main h.wasm k.wasm h.file k.file) ∙ k.refused in
        cc

    -- it is loaded, or there is one cause why it isn't
    no_set_fault : (o : SetOptions) (l : LinkOptions) (due : Outcome) → LinksAt names files o l → FaultDue names files o l due → ⊥
    no_set_fault o l due h k = go due k (one_set_due laws names files o l (outcome.Done []) (outcome.Done []) due (links_by laws names files o l (outcome.Done []) (outcome.Done []) h.set h.gathered h.links refl) (fault_by laws names files o l (outcome.Done []) due k))
      where
        go : (due : Outcome) → FaultDue names files o l due → Alike (outcome.Done []) due → ⊥
        go (outcome.Set fault) k alike = absurd cc
        go (outcome.Link fault) k alike = absurd cc
        go _ k alike = k

    loaded_or_not : (one : Bool) (o : SetOptions) (l : LinkOptions) (due : Outcome) → IsLoaded names files one o l → LoadFault names files one o l due → ⊥
    loaded_or_not false o l due h k = no_set_fault o l due h k
    loaded_or_not true o l (outcome.Set fault) h k = (let same = one_of_file laws.one_answer o.main files (Ok h.0) (Err fault) h.1 k in absurd cc)
    loaded_or_not true o l _ h k = k

    one_load_fault : (one : Bool) (o : SetOptions) (l : LinkOptions) (a b : Outcome) → LoadFault names files one o l a → LoadFault names files one o l b → Alike a b
    one_load_fault false o l a b h k = one_set_due laws names files o l (outcome.Done []) a b (fault_by laws names files o l (outcome.Done []) a h) (fault_by laws names files o l (outcome.Done []) b k)
    one_load_fault true o l (outcome.Set f) (outcome.Set g) h k =
        let same = one_of_file laws.one_answer o.main files (Err f) (Err g) h k in
        let faults : f ≡ g = cc in
        ap outcome.Set faults
    one_load_fault true o l (outcome.Set f) _ h k = absurd k
    one_load_fault true o l _ b h k = absurd h

    -- ---- checking the trace

    module _ (one : Bool) (o : SetOptions) (l : LinkOptions) (most : ℕ) (t : Trace) where
      abbrev ByTrace : Origin → Outcome → Type 0
      ByTrace x due =
          (Traces (course_of x) t × (due ≡ outcome.Done []))
          ⊎ ((call : ℕ) × IsAgreeing (course_of x) t call × (Traces (course_of x) t → ⊥) × (due ≡ outcome.Trace (Differs call)))

      abbrev ByRun : Outcome → Type 0
      ByRun due =
          ((fault : SingleFault) × OpenFault names files one o fault × (due ≡ outcome.Single fault)) ⊎ ((x : Origin) × IsProgram names files one o l x × ByTrace x due)

      abbrev Checked : Outcome → Type 0
      Checked due = (IsLoaded names files one o l × (most < t.steps) × (due ≡ outcome.Trace Steps)) ⊎ ((t.steps ≤ most) × ByRun due)

      by_check : (due : Outcome) → CheckDue names files one o l most t due → LoadFault names files one o l due ⊎ Checked due
      by_check (outcome.Trace Steps) h = inr (inl (h.0, h.1, refl))
      by_check (outcome.Single fault) h = inr (inr (h.0, inl (fault, h.1, refl)))
      by_check (outcome.Trace (Differs call)) h = inr (inr (h.0, inr (h.1.0, h.1.1, inr (call, h.1.2, h.1.3, refl))))
      by_check (outcome.Done []) h = inr (inr (h.0, inr (h.1.0, h.1.1, inl (h.1.2, refl))))
      by_check due h = inl h

      is_loaded : (due : Outcome) → Checked due → IsLoaded names files one o l
      is_loaded due (inl late) = late.0
      is_loaded due (inr (few, inl refused)) = refused_loaded one o l refused.0 refused.1
      is_loaded due (inr (few, inr run)) = program_loaded names files o l one run.0 run.1

      one_by_trace : (x : Origin) (a b : Outcome) → ByTrace x a → ByTrace x b → a ≡ b
      one_by_trace x a b (inl h) (inl k) = h.1 ∙ sym k.1
      one_by_trace x a b (inl h) (inr k) = absurd (k.2 h.0)
      one_by_trace x a b (inr h) (inl k) = absurd (h.2 k.0)
      one_by_trace x a b (inr h) (inr k) = h.3 ∙ ap (λ n. outcome.Trace (Differs n)) (laws.one_agreeing x t h.0 k.0 h.1 k.1) ∙ sym k.3

      one_by_run : (a b : Outcome) → ByRun a → ByRun b → a ≡ b
      one_by_run a b (inl h) (inl k) = h.2 ∙ ap outcome.Single (one_refusal one o h.0 k.0 h.1 k.1) ∙ sym k.2
      one_by_run a b (inl h) (inr k) = absurd (not_refused one o l k.0 h.0 k.1 h.1)
      one_by_run a b (inr h) (inl k) = absurd (not_refused one o l h.0 k.0 h.1 k.1)
      one_by_run a b (inr h) (inr k) = one_by_trace k.0 a b (subst (λ x. ByTrace x a) (one_program one o l h.0 k.0 h.1 k.1) h.2) k.2

      one_checked : (a b : Outcome) → Checked a → Checked b → a ≡ b
      one_checked a b (inl h) (inl k) = h.2 ∙ sym k.2
      one_checked a b (inl h) (inr k) = absurd (omega (arith, h.1, k.0))
      one_checked a b (inr h) (inl k) = absurd (omega (arith, h.0, k.1))
      one_checked a b (inr h) (inr k) = one_by_run a b h.1 k.1

      one_check : (a b : Outcome) → LoadFault names files one o l a ⊎ Checked a → LoadFault names files one o l b ⊎ Checked b → Alike a b
      one_check a b (inl h) (inl k) = one_load_fault one o l a b h k
      one_check a b (inl h) (inr k) = absurd (loaded_or_not one o l a (is_loaded b k) h)
      one_check a b (inr h) (inl k) = absurd (loaded_or_not one o l b (is_loaded a h) k)
      one_check a b (inr h) (inr k) = ap canon (one_checked a b h k)

    -- ---- the whole

    module _ (one : Bool) (path : List ℕ) (o : SetOptions) (l : LinkOptions) (most : ℕ) where
      abbrev BySaid : Result Trace Outcome → Outcome → Type 0
      BySaid (Ok t) due = CheckDue names files one o l most t due
      BySaid (Err fault) due = due ≡ fault

      replay_by : (due : Outcome) → ReplayDue names files one path o l most due → (said : Result Trace Outcome) × OfTrace files path said × BySaid said due
      replay_by due (inl h) = (Err due, h, refl)
      replay_by due (inr h) = (Ok h.0, h.1, h.2)

      one_by_said : (said : Result Trace Outcome) (a b : Outcome) → BySaid said a → BySaid said b → Alike a b
      one_by_said (Ok t) a b h k = one_check one o l most t a b (by_check one o l most t a h) (by_check one o l most t b k)
      one_by_said (Err fault) a b h k = ap canon (h ∙ sym k)

      pub one_replay_due : (a b : Outcome) → ReplayDue names files one path o l most a → ReplayDue names files one path o l most b → Alike a b
      one_replay_due a b h k =
          let x = replay_by a h in
          let y = replay_by b k in
          let same = one_of_trace files path x.0 y.0 x.1 y.1 in
          one_by_said y.0 a b (subst (λ said. BySaid said a) same x.2) y.2
