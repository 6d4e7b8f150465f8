-- Outcomes that are the same but for what came of runs. At most one is due of a set, and of the one file that is run.
use Rattle.std.proofs.Common.{◌≡◌, ◌⊎◌, ℕ, List, [], ◌∷◌, Option, Some, None, Result, Ok, Err, refl, sym, ap, ◌∙◌, subst, inl, inr}
use Rattle.wasm_form.specs.declared.module.Module.{Module}
use Rattle.spec_hosts.specs.spec_runtime.Names.{HostNames}
use Rattle.spec_loading.specs.spec_execution.declared.fault.SingleFault.{SingleFault}
use Rattle.spec_loading.specs.spec_execution.OneModule.{ModuleState, module_opening}
use Rattle.spec_hosts.specs.declared.ran.RunEnd.TheVariants as end
use Rattle.spec_loading.specs.spec_linking.declared.fault.LinkFault.{LinkFault}
use Rattle.spec_loading.specs.spec_linking.declared.fault.SetFault.{SetFault}
use Rattle.spec_loading.specs.spec_linking.Sets.{Files, ClosedSet, SetOptions, default_options}
use Rattle.spec_loading.specs.spec_linking.Gathering.{IsGathered}
use Rattle.spec_loading.specs.spec_linking.Plans.{LinkOptions}
use Rattle.spec_loading.specs.spec_linking.Links.{link_fault}
use Rattle.spec_loading.specs.spec_linking.Laws.{OneAnswer, OneRecord, OneGathered}
use Rattle.spec_snapshots.specs.declared.fault.SnapFault.{SnapFault}
use Rattle.spec_snapshots.specs.declared.fault.SnapFault.TheVariants as snap
use Rattle.spec_snapshots.specs.Causes.{SnapCause, Takes, TrapsSo, Calls, StepsEnd, IsDeep, IsFirst}
use Rattle.snap_set.specs.Laws.{OneFirst}
use Rattle.dyl_gen.specs.Laws.{NeedsThreePages}
use Rattle.spec_traces.specs.Laws.{OneTrace}
use Rattle.replay_check.specs.Laws.{OneAgreeing}
use Rattle.dyl_front.specs.declared.outcome.Outcome.{Outcome}
use Rattle.dyl_front.specs.declared.outcome.Outcome.TheVariants.{Done, Ran, Board, Set, Link, Single, Snap}
use Rattle.dyl_commands.specs.OneFile.{OfFile}
use Rattle.dyl_commands.specs.Linking.{linked, LinksAt, FaultDue}
use Rattle.dyl_commands.specs.StartUp.{SnapDue}
use Rattle.dyl_commands.specs.Sets.{AllLink, FirstFault}
use Rattle.dyl_commands.specs.Due.{MergeDue, RunDue, PlanDue, ExecDue, BoardDue}
use Rattle.dyl_commands.proofs.OneFile.{one_of_file}

-- what is so of definitions
pub record Laws : Type 0 where
  pub one_answer : OneAnswer
  pub one_record : OneRecord
  pub one_gathered : OneGathered
  pub three_pages : NeedsThreePages
  pub one_trace : OneTrace
  pub one_agreeing : OneAgreeing
  pub one_first : OneFirst

-- some run, which stands for each
abbrev pub any_run : Outcome
any_run = Ran (record { end = end.Return; steps = 0; answers = [] })

-- and some run of a board
abbrev pub any_board : Outcome
any_board = Board (record { runs = []; picks = [] })

abbrev pub canon : Outcome → Outcome
canon (Ran ran) = any_run
canon (Board ran) = any_board
canon (Done runs) = Done []
canon outcome = outcome

-- the same outcome, or one whose runs may be others
abbrev pub Alike : Outcome → Outcome → Type 0
Alike due answer = canon due ≡ canon answer

-- the outcome by the link fault of the set
abbrev pub verdict : Outcome → Option LinkFault → Outcome
verdict done None = done
verdict done (Some fault) = Link fault

-- ---- a set

module _ (laws : Laws) (names : HostNames) (files : Files) (o : SetOptions) (l : LinkOptions) (done : Outcome) where
  abbrev BySet : Result ClosedSet SetFault → Outcome → Type 0
  BySet (Ok S) due = canon due ≡ verdict done (link_fault (linked names l S))
  BySet (Err fault) due = canon due ≡ Set fault

  one_by_set : (answer : Result ClosedSet SetFault) (a b : Outcome) → BySet answer a → BySet answer b → Alike a b
  one_by_set (Ok S) a b h k = h ∙ sym k
  one_by_set (Err fault) a b h k = h ∙ sym k

  abbrev pub SetBy : Outcome → Type 0
  SetBy due = (answer : Result ClosedSet SetFault) × IsGathered files o answer × BySet answer due

  pub one_set_due : (a b : Outcome) → SetBy a → SetBy b → Alike a b
  one_set_due a b x y =
      let same = (laws.one_gathered laws.one_answer laws.one_record files o x.1.tried y.1.tried x.0 y.0 x.1.gathers y.1.gathers).1 in
      one_by_set y.0 a b (subst (λ answer. BySet answer a) same x.2) y.2

  -- a set that links
  pub links_by : (due : Outcome) (S : ClosedSet) → IsGathered files o (Ok S) → link_fault (linked names l S) ≡ None → canon due ≡ done → SetBy due
  links_by due S gathered links same = (Ok S, gathered, same ∙ ap (verdict done) (sym links))

  pub fault_by : (due : Outcome) → FaultDue names files o l due → SetBy due
  fault_by (Set fault) d = (Err fault, d, refl)
  fault_by (Link fault) d = (Ok d.set, d.gathered, ap (verdict done) (sym d.found))
  fault_by _ d = absurd d

module _ (laws : Laws) (names : HostNames) (files : Files) (o : SetOptions) (l : LinkOptions) where
  merge_by : (due : Outcome) → MergeDue names files o l due → SetBy laws names files o l (Done []) due
  merge_by (Done []) d = links_by laws names files o l (Done []) (Done []) d.set d.gathered d.links refl
  merge_by due d = fault_by laws names files o l (Done []) due d

  run_by : (due : Outcome) → RunDue names files o l due → SetBy laws names files o l any_run due
  run_by (Ran ran) d = links_by laws names files o l any_run (Ran ran) d.set d.gathered d.links refl
  run_by due d = fault_by laws names files o l any_run due d

  plan_by : (due : Outcome) → PlanDue names files o l due → SetBy laws names files o l (Done []) due
  plan_by (Done []) d = links_by laws names files o l (Done []) (Done []) d.set d.gathered d.links refl
  plan_by due d = fault_by laws names files o l (Done []) due d

  pub one_merge_due : (a b : Outcome) → MergeDue names files o l a → MergeDue names files o l b → Alike a b
  one_merge_due a b h k = one_set_due laws names files o l (Done []) a b (merge_by a h) (merge_by b k)

  pub one_run_due : (a b : Outcome) → RunDue names files o l a → RunDue names files o l b → Alike a b
  one_run_due a b h k = one_set_due laws names files o l any_run a b (run_by a h) (run_by b k)

  pub one_plan_due : (a b : Outcome) → PlanDue names files o l a → PlanDue names files o l b → Alike a b
  one_plan_due a b h k = one_set_due laws names files o l (Done []) a b (plan_by a h) (plan_by b k)

-- ---- several sets

module _ (laws : Laws) (names : HostNames) (files : Files) (l : LinkOptions) where
  -- the first of them that has a fault has this one, or there is none
  abbrev AllBy : List (List ℕ) → Outcome → Type 0
  AllBy [] due = canon due ≡ any_board
  AllBy (main ∷ mains) due = FaultDue names files (default_options main) l due ⊎ (LinksAt names files (default_options main) l × AllBy mains due)

  all_linked : (mains : List (List ℕ)) (due : Outcome) → canon due ≡ any_board → AllLink names files mains l → AllBy mains due
  all_linked [] due same d = same
  all_linked (main ∷ mains) due same d = inr (d.0, all_linked mains due same d.1)

  first_fault : (mains : List (List ℕ)) (due : Outcome) → FirstFault names files mains l due → AllBy mains due
  first_fault [] due d = absurd d
  first_fault (main ∷ mains) due (inl d) = inl d
  first_fault (main ∷ mains) due (inr d) = inr (d.0, first_fault mains due d.1)

  all_by : (mains : List (List ℕ)) (due : Outcome) → BoardDue names files mains l due → AllBy mains due
  all_by mains (Board ran) d = all_linked mains (Board ran) refl d
  all_by mains due d = first_fault mains due d

  -- a set that links has no fault
  pub no_fault : (o : SetOptions) (due : Outcome) → FaultDue names files o l due → LinksAt names files o l → ⊥
  no_fault o due d links =
      not_done due d (one_set_due laws names files o l (Done []) due (Done []) (fault_by laws names files o l (Done []) due d) (links_by laws names files o l (Done []) (Done []) links.set links.gathered links.links refl))
    where
      not_done : (due : Outcome) → FaultDue names files o l due → canon due ≡ Done [] → ⊥
      not_done (Set fault) d same = absurd cc
      not_done (Link fault) d same = absurd cc
      not_done _ d same = absurd d

  one_all : (mains : List (List ℕ)) (a b : Outcome) → AllBy mains a → AllBy mains b → Alike a b
  one_all [] a b h k = h ∙ sym k
  one_all (main ∷ mains) a b (inl h) (inl k) =
      one_set_due laws names files (default_options main) l (Done []) a b (fault_by laws names files (default_options main) l (Done []) a h) (fault_by laws names files (default_options main) l (Done []) b k)
  one_all (main ∷ mains) a b (inl h) (inr k) = absurd (no_fault (default_options main) a h k.0)
  one_all (main ∷ mains) a b (inr h) (inl k) = absurd (no_fault (default_options main) b k h.0)
  one_all (main ∷ mains) a b (inr h) (inr k) = one_all mains a b h.1 k.1

  pub one_board_due : (mains : List (List ℕ)) (a b : Outcome) → BoardDue names files mains l a → BoardDue names files mains l b → Alike a b
  one_board_due mains a b h k = one_all mains a b (all_by mains a h) (all_by mains b k)

-- ---- the start-up of a set

module _ (laws : Laws) (names : HostNames) (files : Files) (o : SetOptions) (l : LinkOptions) where
  -- the files give one set
  pub same_set : (one other : LinksAt names files o l) → one.set ≡ other.set
  same_set one other =
      let same = (laws.one_gathered laws.one_answer laws.one_record files o one.gathered.tried other.gathered.tried (Ok one.set) (Ok other.set) one.gathered.gathers other.gathered.gathers).1 in
      cc

  module _ (most : ℕ) where
    -- what is said first of its start-up, and after how many steps
    pub same_start : (S T : ClosedSet) → S ≡ T → (n m : ℕ) (c d : SnapCause) → IsFirst (linked names l S) most n c → IsFirst (linked names l T) most m d → (n ≡ m) × (c ≡ d)
    same_start S T same n m c d h k = laws.one_first (linked names l S) most n m c d h (subst (λ U. IsFirst (linked names l U) most m d) (sym same) k)

    -- the outcome by that
    abbrev cause_outcome : SnapCause → Outcome
    cause_outcome Takes = Done []
    cause_outcome Calls = Snap snap.HostCall
    cause_outcome (TrapsSo why) = Snap (snap.Trap why)
    cause_outcome StepsEnd = Snap snap.Steps
    cause_outcome IsDeep = Snap snap.Depth

    record StartsSo (due : Outcome) : Type 0 where
      links : LinksAt names files o l
      steps : ℕ
      cause : SnapCause
      first : IsFirst (linked names l links.set) most steps cause
      is : canon due ≡ cause_outcome cause

    one_start : (a b : Outcome) → StartsSo a → StartsSo b → Alike a b
    one_start a b h k =
        let same = same_start h.links.set k.links.set (same_set h.links k.links) h.steps k.steps h.cause k.cause h.first k.first in
        h.is ∙ ap cause_outcome same.1 ∙ sym k.is

    abbrev SnapBy : Outcome → Type 0
    SnapBy due = StartsSo due ⊎ FaultDue names files o l due

    refused_by : (why : SnapFault) → SnapDue names files o l most (Snap why) → StartsSo (Snap why)
    refused_by snap.HostCall d = record { links = d.links; steps = d.tells.0; cause = Calls; first = d.tells.1; is = refl }
    refused_by (snap.Trap why) d = record { links = d.links; steps = d.tells.0; cause = TrapsSo why; first = d.tells.1; is = refl }
    refused_by snap.Steps d = record { links = d.links; steps = d.tells.0; cause = StepsEnd; first = d.tells.1; is = refl }
    refused_by snap.Depth d = record { links = d.links; steps = d.tells.0; cause = IsDeep; first = d.tells.1; is = refl }
    refused_by _ d = absurd d

    snap_by : (due : Outcome) → SnapDue names files o l most due → SnapBy due
    snap_by (Done []) d = inl (record { links = d.links; steps = d.steps; cause = Takes; first = d.first; is = refl })
    snap_by (Snap why) d = inl (refused_by why d)
    snap_by due d = inr d

    by_fault : (a b : Outcome) → FaultDue names files o l a → FaultDue names files o l b → Alike a b
    by_fault a b h k = one_set_due laws names files o l (Done []) a b (fault_by laws names files o l (Done []) a h) (fault_by laws names files o l (Done []) b k)

    one_snap_by : (a b : Outcome) → SnapBy a → SnapBy b → Alike a b
    one_snap_by a b (inl h) (inl k) = one_start a b h k
    one_snap_by a b (inl h) (inr k) = absurd (no_fault laws names files l o b k h.links)
    one_snap_by a b (inr h) (inl k) = absurd (no_fault laws names files l o a h k.links)
    one_snap_by a b (inr h) (inr k) = by_fault a b h k

    pub one_snap_due : (a b : Outcome) → SnapDue names files o l most a → SnapDue names files o l most b → Alike a b
    one_snap_due a b h k = one_snap_by a b (snap_by a h) (snap_by b k)

-- ---- one module

module _ (laws : Laws) (names : HostNames) (files : Files) (path : List ℕ) where
  abbrev opened : Result ModuleState SingleFault → Outcome
  opened (Ok opening) = any_run
  opened (Err fault) = Single fault

  abbrev ByFile : Result Module SetFault → Outcome → Type 0
  ByFile (Ok wasm) due = canon due ≡ opened (module_opening wasm names)
  ByFile (Err fault) due = canon due ≡ Set fault

  one_by_file : (said : Result Module SetFault) (a b : Outcome) → ByFile said a → ByFile said b → Alike a b
  one_by_file (Ok wasm) a b h k = h ∙ sym k
  one_by_file (Err fault) a b h k = h ∙ sym k

  exec_by : (due : Outcome) → ExecDue names files path due → (said : Result Module SetFault) × OfFile files path said × ByFile said due
  exec_by (Ran ran) d = (Ok d.wasm, d.file, ap opened (sym d.opens))
  exec_by (Set fault) d = (Err fault, d, refl)
  exec_by (Single fault) d = (Ok d.wasm, d.file, ap opened (sym d.refused))
  exec_by _ d = absurd d

  pub one_exec_due : (a b : Outcome) → ExecDue names files path a → ExecDue names files path b → Alike a b
  one_exec_due a b h k =
      let x = exec_by a h in
      let y = exec_by b k in
      let same = one_of_file laws.one_answer path files x.0 y.0 x.1 y.1 in
      one_by_file y.0 a b (subst (λ said. ByFile said a) same x.2) y.2
