-- At most one outcome is due; so what an answer tells says what it is where one is due.
use Rattle.std.proofs.Common.{◌≡◌, ◌⊎◌, ◌<◌, ◌≤◌, ◌^◌, arith, ℕ, nat_le, List, [], ◌∷◌, Bool, true, false, cond, Some, None, Result, Ok, Err, refl, sym, ap, ◌∙◌, subst, inl, inr}
use Rattle.std.proofs.lemmas.Bool.Decides.{nat_tests}
use Rattle.std.specs.Option.{ForSome}
use Rattle.std.specs.FinMap.{get}
use Rattle.spec_hosts.specs.dyl_outside.Files.{FilesState}
use Rattle.spec_hosts.specs.dyl_outside.Faults.{Rose}
use Rattle.spec_hosts.specs.spec_runtime.Names.{HostNames}
use Rattle.spec_hosts.specs.declared.ran.Ran as ran
use Rattle.spec_boards.specs.declared.ran.BoardRan as boards
use Rattle.spec_loading.specs.spec_linking.declared.fault.LinkFault.{LinkFault}
use Rattle.spec_loading.specs.spec_linking.declared.fault.LinkFault.TheVariants.{MemoryLimit}
use Rattle.spec_loading.specs.spec_linking.declared.fault.SetFault.{SetFault}
use Rattle.spec_loading.specs.spec_linking.declared.fault.SetFault.TheVariants.{ReadFault}
use Rattle.spec_loading.specs.spec_linking.Sets.{Files, ClosedSet, SetOptions}
use Rattle.spec_loading.specs.spec_linking.Plans.{LinkOptions, limit}
use Rattle.spec_loading.specs.spec_linking.LinkedSets.{LinkedSet}
use Rattle.spec_loading.specs.spec_linking.Laws.{OneGathered}
use Rattle.spec_reading.specs.Laws.{ReadingAnswers}
use Rattle.spec_traces.specs.Laws.{OneTrace}
use Rattle.replay_check.specs.Laws.{OneAgreeing}
use Rattle.spec_snapshots.specs.declared.fault.SnapFault.{SnapFault}
use Rattle.spec_snapshots.specs.declared.fault.SnapFault.TheVariants as snap
use Rattle.spec_snapshots.specs.Causes.{state_after}
use Rattle.snap_set.specs.Laws.{OneFirst}
use Rattle.snap_merge.specs.Answers.{amount}
use Rattle.dyl_link.specs.dyl_section.Laws.{OneRecordAnswer}
use Rattle.dyl_gen.specs.declared.fault.GenFault.{GenFault}
use Rattle.dyl_gen.specs.declared.fault.GenFault.TheVariants.{Range}
use Rattle.dyl_gen.specs.Laws.{CanWrite, NeedsThreePages}
use Rattle.spec_merging.specs.declared.fault.MergeFault.{MergeFault}
use Rattle.spec_merging.specs.declared.fault.MergeFault.TheVariants as merge
use Rattle.merge_whole.specs.Merges.{bulk, IsTooLongFor}
use Rattle.dyl_link.specs.dyl_search.declared.set.SetOptions as search
use Rattle.dyl_link.specs.dyl_search.Gathers.{options_of}
use Rattle.dyl_link.specs.declared.options.LinkOptions as linking
use Rattle.dyl_link.specs.Sets as links
use Rattle.dyl_front.specs.declared.outcome.UsageKind.{UsageKind}
use Rattle.dyl_front.specs.declared.outcome.Outcome.{Outcome}
use Rattle.dyl_front.specs.declared.outcome.Outcome.TheVariants.{Done, Ran, Board, Usage, Set, Link, Merge, Single, Gen, Trace, TooLong, Snap, WriteFault, Memory}
use Rattle.dyl_front.specs.declared.order.Order.{Order}
use Rattle.dyl_front.specs.declared.order.Order.TheVariants as order
use Rattle.dyl_commands.specs.Linking.{linked, LinksAt}
use Rattle.dyl_commands.specs.Traced.{LoadFault, ReplayDue}
use Rattle.dyl_commands.specs.Generated.{GenDue}
use Rattle.dyl_commands.specs.StartUp.{StartsUp, SnapDue}
use Rattle.dyl_commands.specs.Sets.{FirstFault}
use Rattle.dyl_commands.specs.Due.{MergeDue, RunDue, PlanDue, ExecDue, TraceDue, BoardDue, DueFor, TellsFor, MergeFaultTells, TooLongTells, SnapFaultTells, WriteFaultTells, is_run, is_board, is_done, is_written, is_traced, Yields, MayBeWritten, IsComplete}
use Rattle.dyl_commands.specs.Causes.{ProgramCause, FaultCause, WriteCause, IsTraceOrder, Caused}
use Rattle.dyl_commands.specs.Served.{Serves}
use Rattle.dyl_commands.proofs.Alike.{Laws, any_run, any_board, canon, Alike, verdict, one_merge_due, one_run_due, one_plan_due, one_exec_due, same_set, same_start, one_snap_due, one_board_due}
use Rattle.dyl_commands.proofs.Programs.{run_due}
use Rattle.dyl_commands.proofs.OneReplay.{one_replay_due}

-- ---- a generated set

module _ (laws : Laws) (names : HostNames) (can : CanWrite names) (n pages : ℕ) where
  -- there is a set of n members, and its pages suffice or don't; or there is none
  abbrev GenBy : Outcome → Type 0
  GenBy due = ((0 < n) × (n ≤ 255) × (canon due ≡ verdict (Done []) (limit MemoryLimit 3 pages))) ⊎ (((n ≡ 0) ⊎ (255 < n)) × (canon due ≡ Gen Range))

  gen_by : (due : Outcome) → GenDue names n pages due → GenBy due
  gen_by (Done runs) d =
      let found = laws.three_pages n d.files d.links.set names _ d.made.some d.made.few d.made.generated d.links.gathered can refl refl in
      inl (d.made.some, d.made.few, ap (verdict (Done [])) (sym d.links.links ∙ found))
  gen_by (Link (MemoryLimit needed most)) d =
      let found = laws.three_pages n d.files d.found.set names _ d.made.some d.made.few d.made.generated d.found.gathered can refl refl in
      inl (d.made.some, d.made.few, ap (verdict (Done [])) (sym d.found.found ∙ found))
  gen_by (Gen Range) d = inr (d, refl)
  gen_by _ d = absurd d

  no_set : 0 < n → n ≤ 255 → (n ≡ 0) ⊎ (255 < n) → ⊥
  no_set some few (inl none) = omega arith
  no_set some few (inr many) = omega arith

  one_gen_by : (a b : Outcome) → GenBy a → GenBy b → Alike a b
  one_gen_by a b (inl h) (inl k) = h.2 ∙ sym k.2
  one_gen_by a b (inl h) (inr k) = absurd (no_set h.0 h.1 k.0)
  one_gen_by a b (inr h) (inl k) = absurd (no_set k.0 k.1 h.0)
  one_gen_by a b (inr h) (inr k) = h.1 ∙ sym k.1

  one_gen_due : (a b : Outcome) → GenDue names n pages a → GenDue names n pages b → Alike a b
  one_gen_due a b h k = one_gen_by a b (gen_by a h) (gen_by b k)

-- ---- causes

-- a path that can't be read, of what is run
read_rose : (old new : FilesState) (one : Bool) (path at : List ℕ) → ProgramCause one path (ReadFault at) old new → Rose old.read_faults new.read_faults
read_rose old new false path at h = h.rose
read_rose old new true path at h = h.1.rose

-- ---- runs

-- an outcome carries what came of runs
abbrev carries_runs : Outcome → Bool
carries_runs (Ran ran) = true
carries_runs (Board ran) = true
carries_runs (Done runs) = true
carries_runs _ = false

-- one that doesn't is itself
canon_is : (outcome : Outcome) → carries_runs outcome ≡ false → canon outcome ≡ outcome
canon_is (Ran ran) none = absurd cc
canon_is (Board ran) none = absurd cc
canon_is (Done runs) none = absurd cc
canon_is (Usage kind) none = refl
canon_is (Set fault) none = refl
canon_is (Link fault) none = refl
canon_is (Merge fault) none = refl
canon_is (Single fault) none = refl
canon_is (Gen fault) none = refl
canon_is (Trace fault) none = refl
canon_is (TooLong run) none = refl
canon_is (Snap why) none = refl
canon_is WriteFault none = refl
canon_is Memory none = refl

-- what is the same of an outcome, whatever its runs are
module _ (test : Outcome → Bool) (of_runs : (r : ran.Ran) → test any_run ≡ test (Ran r)) (of_boards : (r : boards.BoardRan) → test any_board ≡ test (Board r))
    (of_done : (rs : List ran.Ran) → test (Done []) ≡ test (Done rs)) where
  canon_tests : (outcome : Outcome) → test (canon outcome) ≡ test outcome
  canon_tests (Ran r) = of_runs r
  canon_tests (Board r) = of_boards r
  canon_tests (Done rs) = of_done rs
  canon_tests (Usage kind) = refl
  canon_tests (Set fault) = refl
  canon_tests (Link fault) = refl
  canon_tests (Merge fault) = refl
  canon_tests (Single fault) = refl
  canon_tests (Gen fault) = refl
  canon_tests (Trace fault) = refl
  canon_tests (TooLong run) = refl
  canon_tests (Snap why) = refl
  canon_tests WriteFault = refl
  canon_tests Memory = refl

  alike_tests : (due answer : Outcome) → Alike due answer → test due ≡ test answer
  alike_tests due answer alike = sym (canon_tests due) ∙ ap test alike ∙ canon_tests answer

a_run : (due answer : Outcome) → Alike due answer → is_run due ≡ is_run answer
a_run = alike_tests is_run (λ r. refl) (λ r. refl) (λ rs. refl)

a_done : (due answer : Outcome) → Alike due answer → is_done due ≡ is_done answer
a_done = alike_tests is_done (λ r. refl) (λ r. refl) (λ rs. refl)

a_board : (due answer : Outcome) → Alike due answer → is_board due ≡ is_board answer
a_board = alike_tests is_board (λ r. refl) (λ r. refl) (λ rs. refl)

no_runs : (due answer : Outcome) → carries_runs answer ≡ false → Alike due answer → due ≡ answer
no_runs due answer none alike = sym (canon_is due (alike_tests carries_runs (λ r. refl) (λ r. refl) (λ rs. refl) due answer alike ∙ none)) ∙ alike ∙ canon_is answer none

-- ---- what is asked

module _ (laws : Laws) (names : HostNames) (files : Files) (o : SetOptions) (l : LinkOptions) where
  one_trace_due : (one : Bool) (a b : Outcome) → TraceDue names files one o l a → TraceDue names files one o l b → Alike a b
  one_trace_due false a b h k = one_run_due laws names files o l a b h k
  one_trace_due true a b h k = one_exec_due laws names files o.main a b h k

  no_trace_usage : (one : Bool) (kind : UsageKind) → TraceDue names files one o l (Usage kind) → ⊥
  no_trace_usage false kind h = h
  no_trace_usage true kind h = h

  no_load_usage : (one : Bool) (kind : UsageKind) → LoadFault names files one o l (Usage kind) → ⊥
  no_load_usage false kind h = h
  no_load_usage true kind h = h

  no_replay_usage : (one : Bool) (path : List ℕ) (most : ℕ) (kind : UsageKind) → ReplayDue names files one path o l most (Usage kind) → ⊥
  no_replay_usage one path most kind (inl h) = h
  no_replay_usage one path most kind (inr h) = no_load_usage one kind h.2

-- no words are at fault where sets are
no_board_usage : (names : HostNames) (files : Files) (mains : List (List ℕ)) (l : LinkOptions) (kind : UsageKind) → FirstFault names files mains l (Usage kind) → ⊥
no_board_usage names files [] l kind h = h
no_board_usage names files (main ∷ mains) l kind (inl h) = h
no_board_usage names files (main ∷ mains) l kind (inr h) = no_board_usage names files mains l kind h.1

module _ (laws : Laws) (names : HostNames) (can : CanWrite names) (files : Files) where
  one_due : (asked : Result Order UsageKind) (a b : Outcome) → DueFor names files asked a → DueFor names files asked b → Alike a b
  one_due (Err kind) a b h k = ap canon (h ∙ sym k)
  one_due (Ok (order.Merge o l out)) a b h k = one_merge_due laws names files (options_of o) (links.options_of l) a b h k
  one_due (Ok (order.Run o l steps args)) a b h k = one_run_due laws names files (options_of o) (links.options_of l) a b h k
  one_due (Ok (order.Exec file steps args)) a b h k = one_exec_due laws names files file a b h k
  one_due (Ok (order.Plan o l)) a b h k = one_plan_due laws names files (options_of o) (links.options_of l) a b h k
  one_due (Ok (order.Gen n pages steps)) a b h k = one_gen_due laws names can n pages a b h k
  one_due (Ok (order.Trace one o l steps out args)) a b h k = one_trace_due laws names files (options_of o) (links.options_of l) one a b h k
  one_due (Ok (order.Replay one path o l steps)) a b h k = one_replay_due laws names files one path (options_of o) (links.options_of l) steps a b h k
  one_due (Ok (order.Snap o l steps out)) a b h k = one_snap_due laws names files (options_of o) (links.options_of l) steps a b h k
  one_due (Ok (order.Board mains l steps slice turns)) a b h k = one_board_due laws names files (links.options_of l) mains a b h k

  no_usage : (asked : Result Order UsageKind) (at : List ℕ) (due : Outcome) → TellsFor names files asked (Set (ReadFault at)) → DueFor names files asked due → (kind : UsageKind) → due ≡ Usage kind → ⊥
  no_usage (Err other) at due tells d kind is = tells
  no_usage (Ok (order.Merge o l out)) at due tells d kind is = subst (MergeDue names files (options_of o) (links.options_of l)) is d
  no_usage (Ok (order.Run o l steps args)) at due tells d kind is = subst (RunDue names files (options_of o) (links.options_of l)) is d
  no_usage (Ok (order.Exec file steps args)) at due tells d kind is = subst (ExecDue names files file) is d
  no_usage (Ok (order.Plan o l)) at due tells d kind is = subst (PlanDue names files (options_of o) (links.options_of l)) is d
  no_usage (Ok (order.Gen n pages steps)) at due tells d kind is = tells
  no_usage (Ok (order.Trace one o l steps out args)) at due tells d kind is =
      no_trace_usage laws names files (options_of o) (links.options_of l) one kind (subst (TraceDue names files one (options_of o) (links.options_of l)) is d)
  no_usage (Ok (order.Replay one path o l steps)) at due tells d kind is =
      no_replay_usage laws names files (options_of o) (links.options_of l) one path steps kind (subst (ReplayDue names files one path (options_of o) (links.options_of l) steps) is d)
  no_usage (Ok (order.Snap o l steps out)) at due tells d kind is = subst (SnapDue names files (options_of o) (links.options_of l) steps) is d
  no_usage (Ok (order.Board mains l steps slice turns)) at due tells d kind is = no_board_usage names files mains (links.options_of l) kind (subst (BoardDue names files mains (links.options_of l)) is d)

  -- where a section is too long, Done is due
  done_due : (asked : Result Order UsageKind) (fault : MergeFault) → MergeFaultTells names files asked fault → DueFor names files asked (Done [])
  done_due (Ok (order.Merge o l out)) (merge.SectionSize id) h = h.merges
  done_due _ _ h = absurd h

  -- where a trace is too long, a run is due
  long_due : (asked : Result Order UsageKind) (run : ran.Ran) → TooLongTells names files asked run → DueFor names files asked (Ran run)
  long_due (Ok (order.Trace one o l steps out args)) run h = h
  long_due _ run h = absurd h

  -- where a snapshot has too long a section, Done is due; any other reason is due itself
  snap_due : (asked : Result Order UsageKind) (why : SnapFault) → SnapFaultTells names files asked why → (due : Outcome) → DueFor names files asked due → Yields asked due (Snap why)
  snap_due asked snap.Memory h due d = absurd h
  snap_due (Ok (order.Snap o l steps out)) (snap.SectionSize id) h due d =
      a_done due (Done []) (one_due (Ok (order.Snap o l steps out)) due (Done []) d (record { links = h.links; steps = h.tells.0; first = h.tells.1 }))
  snap_due (Ok (order.Snap o l steps out)) snap.HostCall h due d = no_runs due (Snap snap.HostCall) refl (one_due (Ok (order.Snap o l steps out)) due (Snap snap.HostCall) d h)
  snap_due (Ok (order.Snap o l steps out)) (snap.Trap why) h due d = no_runs due (Snap (snap.Trap why)) refl (one_due (Ok (order.Snap o l steps out)) due (Snap (snap.Trap why)) d h)
  snap_due (Ok (order.Snap o l steps out)) snap.Steps h due d = no_runs due (Snap snap.Steps) refl (one_due (Ok (order.Snap o l steps out)) due (Snap snap.Steps) d h)
  snap_due (Ok (order.Snap o l steps out)) snap.Depth h due d = no_runs due (Snap snap.Depth) refl (one_due (Ok (order.Snap o l steps out)) due (Snap snap.Depth) d h)
  snap_due _ _ h due d = absurd h

  -- what is due is written where a write fault is told
  written_due : (asked : Result Order UsageKind) → WriteFaultTells names files asked → (due : Outcome) → DueFor names files asked due → is_written asked due ≡ true
  written_due (Ok (order.Trace one o l steps out args)) t due d = a_run due (Ran t.0) (one_due (Ok (order.Trace one o l steps out args)) due (Ran t.0) d t.1)
  written_due asked t due d = a_done due (Done []) (one_due asked due (Done []) d t)

  -- where an outcome is due, the answer is that one, or yields
  told_yields : (asked : Result Order UsageKind) (answer : Outcome) → TellsFor names files asked answer → (due : Outcome) → DueFor names files asked due → Yields asked due answer
  told_yields asked answer tells due d = go answer tells
    where
      go : (a : Outcome) → TellsFor names files asked a → Yields asked due a
      go Memory t = tt
      go WriteFault t = written_due asked t due d
      go (Merge fault) t = a_done due (Done []) (one_due asked due (Done []) d (done_due asked fault t))
      go (Snap why) t = snap_due asked why t due d
      go (Ran run) t = a_run due (Ran run) (one_due asked due (Ran run) d t)
      go (Board run) t = a_board due (Board run) (one_due asked due (Board run) d t)
      go (TooLong run) t = a_run due (Ran run) (one_due asked due (Ran run) d (long_due asked run t))
      go (Done runs) t = a_done due (Done runs) (one_due asked due (Done runs) d t)
      go (Usage kind) t = no_runs due (Usage kind) refl (one_due asked due (Usage kind) d t)
      go (Link fault) t = no_runs due (Link fault) refl (one_due asked due (Link fault) d t)
      go (Gen fault) t = no_runs due (Gen fault) refl (one_due asked due (Gen fault) d t)
      go (Trace fault) t = no_runs due (Trace fault) refl (one_due asked due (Trace fault) d t)
      go (Single fault) t = no_runs due (Single fault) refl (one_due asked due (Single fault) d t)
      go (Set fault) t = of_set fault t
        where
          of_set : (fault : SetFault) → TellsFor names files asked (Set fault) → Yields asked due (Set fault)
          of_set (ReadFault at) t = no_usage asked at due t d
          of_set other t = no_runs due (Set other) refl (one_due asked due (Set other) d t)

  -- ---- completeness

  too_big : (n : ℕ) → 2 ^ 32 ≤ n → n < 2 ^ 32 → ⊥
  too_big n big few = omega arith

  none_long : (L : LinkedSet) (id : ℕ) → IsTooLongFor L id → MayBeWritten L → ⊥
  none_long L id long (inl none) = none id long.first
  none_long L id long (inr few) = too_big (bulk L) long.big few

  within : (amount most : ℕ) → amount ≤ most → limit MemoryLimit amount most ≡ None
  within amount most few = (let so : nat_le amount most ≡ true = grind (arith, nat_tests, few) in ap (λ b. cond b None (Some (MemoryLimit amount most))) so)

  module _ (old new : FilesState) (before now : ℕ) where
    -- what is answered in place of Done, and of a run
    not_long : (o : search.SetOptions) (l : linking.LinkOptions) (out : List ℕ) (fault : MergeFault) (m : LinksAt names files (options_of o) (links.options_of l))
        → MergeFaultTells names files (Ok (order.Merge o l out)) fault → MayBeWritten (linked names (links.options_of l) m.set) → ⊥
    not_long o l out merge.Memory m tells may = tells
    not_long o l out (merge.SectionSize id) m tells may =
        none_long (linked names (links.options_of l) m.set) id
        (subst (λ S. IsTooLongFor (linked names (links.options_of l) S) id) (same_set laws names files (options_of o) (links.options_of l) tells.merges m) tells.long) may

    merged_whole : (o : search.SetOptions) (l : linking.LinkOptions) (out : List ℕ) (answer : Outcome) (m : LinksAt names files (options_of o) (links.options_of l))
        → TellsFor names files (Ok (order.Merge o l out)) answer → Yields (Ok (order.Merge o l out)) (Done []) answer → Caused names (Ok (order.Merge o l out)) answer old new before now
        → MayBeWritten (linked names (links.options_of l) m.set) → ¬ Rose old.read_faults new.read_faults → ¬ Rose old.write_faults new.write_faults → (answer ≡ Done []) ⊎ (answer ≡ Memory)
    merged_whole o l out (Done runs) m tells y caused may reads writes = inl (ap Done caused)
    merged_whole o l out Memory m tells y caused may reads writes = inr refl
    merged_whole o l out (Merge fault) m tells y caused may reads writes = absurd (not_long o l out fault m tells may)
    merged_whole o l out WriteFault m tells y caused may reads writes = absurd (writes caused.rose)
    merged_whole o l out (Ran run) m tells y caused may reads writes = absurd cc
    merged_whole o l out (Board run) m tells y caused may reads writes = absurd cc
    merged_whole o l out (TooLong run) m tells y caused may reads writes = absurd cc
    merged_whole o l out (Snap why) m tells y caused may reads writes = absurd caused
    merged_whole o l out (Trace fault) m tells y caused may reads writes = absurd cc
    merged_whole o l out (Usage kind) m tells y caused may reads writes = absurd cc
    merged_whole o l out (Link fault) m tells y caused may reads writes = absurd cc
    merged_whole o l out (Single fault) m tells y caused may reads writes = absurd cc
    merged_whole o l out (Gen fault) m tells y caused may reads writes = absurd cc
    merged_whole o l out (Set fault) m tells y caused may reads writes = of_set fault y caused
      where
        of_set : (fault : SetFault) → Yields (Ok (order.Merge o l out)) (Done []) (Set fault) → Caused names (Ok (order.Merge o l out)) (Set fault) old new before now → (Set fault ≡ Done []) ⊎ (Set fault ≡ Memory)
        of_set (ReadFault at) y caused = absurd (reads caused.rose)
        of_set other y caused = absurd cc

    -- how much there is to be written of a set after so many steps
    abbrev written_for : linking.LinkOptions → ClosedSet → ℕ → ℕ
    written_for l S n = amount (linked names (links.options_of l) S) (state_after (linked names (links.options_of l) S) n)

    -- what is answered in place of a snapshot
    not_refused : (o : search.SetOptions) (l : linking.LinkOptions) (steps : ℕ) (out : List ℕ) (why : SnapFault) (s : StartsUp names files (options_of o) (links.options_of l) steps)
        → SnapFaultTells names files (Ok (order.Snap o l steps out)) why → Yields (Ok (order.Snap o l steps out)) (Done []) (Snap why)
        → written_for l s.links.set s.steps < 2 ^ 32 → ⊥
    not_refused o l steps out (snap.SectionSize id) s tells y few =
        let sets = same_set laws names files (options_of o) (links.options_of l) tells.links s.links in
        let same = same_start laws names files (options_of o) (links.options_of l) steps tells.links.set s.links.set sets tells.tells.0 s.steps _ _ tells.tells.1 s.first in
        too_big (written_for l s.links.set s.steps)
        (subst (λ n. 2 ^ 32 ≤ written_for l s.links.set n) same.0 (subst (λ S. 2 ^ 32 ≤ written_for l S tells.tells.0) sets tells.tells.2.big)) few
    not_refused o l steps out why s tells y few = absurd cc

    snapped_whole : (o : search.SetOptions) (l : linking.LinkOptions) (steps : ℕ) (out : List ℕ) (answer : Outcome) (s : StartsUp names files (options_of o) (links.options_of l) steps)
        → TellsFor names files (Ok (order.Snap o l steps out)) answer → Yields (Ok (order.Snap o l steps out)) (Done []) answer → Caused names (Ok (order.Snap o l steps out)) answer old new before now
        → written_for l s.links.set s.steps < 2 ^ 32 → ¬ Rose old.read_faults new.read_faults → ¬ Rose old.write_faults new.write_faults → (answer ≡ Done []) ⊎ (answer ≡ Memory)
    snapped_whole o l steps out (Done runs) s tells y caused few reads writes = inl (ap Done caused)
    snapped_whole o l steps out Memory s tells y caused few reads writes = inr refl
    snapped_whole o l steps out (Snap why) s tells y caused few reads writes = absurd (not_refused o l steps out why s tells y few)
    snapped_whole o l steps out WriteFault s tells y caused few reads writes = absurd (writes caused.rose)
    snapped_whole o l steps out (Merge fault) s tells y caused few reads writes = absurd caused
    snapped_whole o l steps out (Ran run) s tells y caused few reads writes = absurd cc
    snapped_whole o l steps out (Board run) s tells y caused few reads writes = absurd cc
    snapped_whole o l steps out (TooLong run) s tells y caused few reads writes = absurd cc
    snapped_whole o l steps out (Trace fault) s tells y caused few reads writes = absurd cc
    snapped_whole o l steps out (Usage kind) s tells y caused few reads writes = absurd cc
    snapped_whole o l steps out (Link fault) s tells y caused few reads writes = absurd cc
    snapped_whole o l steps out (Single fault) s tells y caused few reads writes = absurd cc
    snapped_whole o l steps out (Gen fault) s tells y caused few reads writes = absurd cc
    snapped_whole o l steps out (Set fault) s tells y caused few reads writes = of_set fault y caused
      where
        of_set : (fault : SetFault) → Yields (Ok (order.Snap o l steps out)) (Done []) (Set fault) → Caused names (Ok (order.Snap o l steps out)) (Set fault) old new before now → (Set fault ≡ Done []) ⊎ (Set fault ≡ Memory)
        of_set (ReadFault at) y caused = absurd (reads caused.rose)
        of_set other y caused = absurd cc

    listed_whole : (o : search.SetOptions) (l : linking.LinkOptions) (answer : Outcome) → Yields (Ok (order.Plan o l)) (Done []) answer → Caused names (Ok (order.Plan o l)) answer old new before now
        → ¬ Rose old.read_faults new.read_faults → ¬ Rose before now → (answer ≡ Done []) ⊎ (answer ≡ Memory)
    listed_whole o l (Done runs) y caused reads puts = inl (ap Done caused)
    listed_whole o l Memory y caused reads puts = inr refl
    listed_whole o l (Merge fault) y caused reads puts = absurd caused
    listed_whole o l WriteFault y caused reads puts = absurd (puts caused.rose)
    listed_whole o l (Ran run) y caused reads puts = absurd cc
    listed_whole o l (Board run) y caused reads puts = absurd cc
    listed_whole o l (TooLong run) y caused reads puts = absurd cc
    listed_whole o l (Snap why) y caused reads puts = absurd caused
    listed_whole o l (Trace fault) y caused reads puts = absurd cc
    listed_whole o l (Usage kind) y caused reads puts = absurd cc
    listed_whole o l (Link fault) y caused reads puts = absurd cc
    listed_whole o l (Single fault) y caused reads puts = absurd cc
    listed_whole o l (Gen fault) y caused reads puts = absurd cc
    listed_whole o l (Set fault) y caused reads puts = of_set fault y caused
      where
        of_set : (fault : SetFault) → Yields (Ok (order.Plan o l)) (Done []) (Set fault) → Caused names (Ok (order.Plan o l)) (Set fault) old new before now → (Set fault ≡ Done []) ⊎ (Set fault ≡ Memory)
        of_set (ReadFault at) y caused = absurd (reads caused.rose)
        of_set other y caused = absurd cc

    replayed_whole : (one : Bool) (path : List ℕ) (o : search.SetOptions) (l : linking.LinkOptions) (steps : ℕ) (answer : Outcome) → Yields (Ok (order.Replay one path o l steps)) (Done []) answer
        → Caused names (Ok (order.Replay one path o l steps)) answer old new before now → ¬ Rose old.read_faults new.read_faults → (answer ≡ Done []) ⊎ (answer ≡ Memory)
    replayed_whole one path o l steps (Done runs) y caused reads = inl (ap Done caused)
    replayed_whole one path o l steps Memory y caused reads = inr refl
    replayed_whole one path o l steps (Merge fault) y caused reads = absurd caused
    replayed_whole one path o l steps WriteFault y caused reads = absurd caused
    replayed_whole one path o l steps (Ran run) y caused reads = absurd cc
    replayed_whole one path o l steps (Board run) y caused reads = absurd cc
    replayed_whole one path o l steps (TooLong run) y caused reads = absurd cc
    replayed_whole one path o l steps (Snap why) y caused reads = absurd caused
    replayed_whole one path o l steps (Trace fault) y caused reads = absurd cc
    replayed_whole one path o l steps (Usage kind) y caused reads = absurd cc
    replayed_whole one path o l steps (Link fault) y caused reads = absurd cc
    replayed_whole one path o l steps (Single fault) y caused reads = absurd cc
    replayed_whole one path o l steps (Gen fault) y caused reads = absurd cc
    replayed_whole one path o l steps (Set fault) y caused reads = of_set fault y caused
      where
        of_set : (fault : SetFault) → Yields (Ok (order.Replay one path o l steps)) (Done []) (Set fault) → FaultCause (order.Replay one path o l steps) fault old new → (Set fault ≡ Done []) ⊎ (Set fault ≡ Memory)
        of_set (ReadFault at) y (inl caused) = absurd (reads caused.1.rose)
        of_set (ReadFault at) y (inr caused) = absurd (reads (read_rose old new one o.main at caused))
        of_set other y caused = absurd cc

    -- a run, where no path can't be read, and whose trace, if there is to be one, can be written
    run_whole : (asked : Result Order UsageKind) (answer : Outcome) → Yields asked any_run answer → ((at : List ℕ) → answer ≡ Set (ReadFault at) → ⊥) → (answer ≡ WriteFault → ⊥)
        → (is_traced answer ≡ true) ⊎ (answer ≡ Memory)
    run_whole asked (Ran run) y read write = inl refl
    run_whole asked (TooLong run) y read write = inl refl
    run_whole asked Memory y read write = inr refl
    run_whole asked WriteFault y read write = absurd (write refl)
    run_whole asked (Merge fault) y read write = absurd cc
    run_whole asked (Snap why) y read write = of_snap why y
      where
        of_snap : (why : SnapFault) → Yields asked any_run (Snap why) → (is_traced (Snap why) ≡ true) ⊎ (Snap why ≡ Memory)
        of_snap (snap.SectionSize id) y = absurd cc
        of_snap other y = absurd cc
    run_whole asked (Board run) y read write = absurd cc
    run_whole asked (Done runs) y read write = absurd cc
    run_whole asked (Usage kind) y read write = absurd cc
    run_whole asked (Link fault) y read write = absurd cc
    run_whole asked (Single fault) y read write = absurd cc
    run_whole asked (Gen fault) y read write = absurd cc
    run_whole asked (Trace fault) y read write = absurd cc
    run_whole asked (Set fault) y read write = of_set fault y read
      where
        of_set : (fault : SetFault) → Yields asked any_run (Set fault) → ((at : List ℕ) → Set fault ≡ Set (ReadFault at) → ⊥) → (is_traced (Set fault) ≡ true) ⊎ (Set fault ≡ Memory)
        of_set (ReadFault at) y read = absurd (read at refl)
        of_set other y read = absurd cc

    -- it is told as such where there is to be no trace
    plain_run : (answer : Outcome) → ((run : ran.Ran) → answer ≡ TooLong run → ⊥) → (is_traced answer ≡ true) ⊎ (answer ≡ Memory) → (is_run answer ≡ true) ⊎ (answer ≡ Memory)
    plain_run (TooLong run) none h = absurd (none run refl)
    plain_run answer none h = h

    -- a run of a set or of a module, of which there is to be no trace
    run_alone : (what : Order) (answer : Outcome) → ((at : List ℕ) → FaultCause what (ReadFault at) old new → ⊥) → (WriteCause what old new before now → ⊥) → (IsTraceOrder what → ⊥)
        → Yields (Ok what) any_run answer → Caused names (Ok what) answer old new before now → (is_run answer ≡ true) ⊎ (answer ≡ Memory)
    run_alone what answer reads writes traces y caused =
        plain_run answer (λ run is. traces (subst (λ a. Caused names (Ok what) a old new before now) is caused))
        (run_whole (Ok what) answer y (λ at is. reads at (subst (λ a. Caused names (Ok what) a old new before now) is caused)) (λ is. writes (subst (λ a. Caused names (Ok what) a old new before now) is caused)))

    -- several sets, each of which links
    board_whole : (mains : List (List ℕ)) (l : linking.LinkOptions) (steps slice turns : ℕ) (answer : Outcome) → Yields (Ok (order.Board mains l steps slice turns)) any_board answer
        → Caused names (Ok (order.Board mains l steps slice turns)) answer old new before now → ¬ Rose old.read_faults new.read_faults → (is_board answer ≡ true) ⊎ (answer ≡ Memory)
    board_whole mains l steps slice turns (Board run) y caused reads = inl refl
    board_whole mains l steps slice turns Memory y caused reads = inr refl
    board_whole mains l steps slice turns (Merge fault) y caused reads = absurd caused
    board_whole mains l steps slice turns WriteFault y caused reads = absurd caused
    board_whole mains l steps slice turns (Done runs) y caused reads = absurd caused
    board_whole mains l steps slice turns (Ran run) y caused reads = absurd caused
    board_whole mains l steps slice turns (TooLong run) y caused reads = absurd caused
    board_whole mains l steps slice turns (Snap why) y caused reads = absurd caused
    board_whole mains l steps slice turns (Trace fault) y caused reads = absurd caused
    board_whole mains l steps slice turns (Usage kind) y caused reads = absurd caused
    board_whole mains l steps slice turns (Single fault) y caused reads = absurd caused
    board_whole mains l steps slice turns (Gen fault) y caused reads = absurd caused
    board_whole mains l steps slice turns (Link fault) y caused reads = absurd cc
    board_whole mains l steps slice turns (Set fault) y caused reads = of_set fault y caused
      where
        of_set : (fault : SetFault) → Yields (Ok (order.Board mains l steps slice turns)) any_board (Set fault) → FaultCause (order.Board mains l steps slice turns) fault old new
            → (is_board (Set fault) ≡ true) ⊎ (Set fault ≡ Memory)
        of_set (ReadFault at) y caused = absurd (reads caused.rose)
        of_set other y caused = absurd cc

    -- the runs of a generated set, which may have three pages
    module _ (n pages steps : ℕ) (some : 0 < n) (few : n ≤ 255) (enough : 3 ≤ pages) where
      linked_then : (fault : LinkFault) → GenDue names n pages (Link fault) → ⊥
      linked_then (MemoryLimit needed most) d =
          let found = laws.three_pages n d.files d.found.set names _ d.made.some d.made.few d.made.generated d.found.gathered can refl refl in
          let none : limit MemoryLimit 3 pages ≡ None = within 3 pages enough in
          let other : None ≡ Some (MemoryLimit needed most) = sym none ∙ sym found ∙ d.found.found in
          absurd cc
      linked_then _ d = d

      in_range : (fault : GenFault) → GenDue names n pages (Gen fault) → ⊥
      in_range Range d = no_set laws names can n pages some few d
      in_range _ d = d

      gen_whole : (answer : Outcome) → Caused names (Ok (order.Gen n pages steps)) answer old new before now → ¬ Rose before now → (is_done answer ≡ true) ⊎ (answer ≡ Memory)
      gen_whole (Done runs) caused puts = inl refl
      gen_whole Memory caused puts = inr refl
      gen_whole WriteFault caused puts = absurd (puts caused.rose)
      gen_whole (Link fault) caused puts = absurd (linked_then fault caused)
      gen_whole (Gen fault) caused puts = absurd (in_range fault caused)
      gen_whole (Merge fault) caused puts = absurd caused
      gen_whole (Ran run) caused puts = absurd caused
      gen_whole (Board run) caused puts = absurd caused
      gen_whole (TooLong run) caused puts = absurd caused
      gen_whole (Snap why) caused puts = absurd caused
      gen_whole (Trace fault) caused puts = absurd caused
      gen_whole (Usage kind) caused puts = absurd caused
      gen_whole (Single fault) caused puts = absurd caused
      gen_whole (Set fault) caused puts = absurd caused

    told_complete : (asked : Result Order UsageKind) (answer : Outcome) → TellsFor names files asked answer → Caused names asked answer old new before now → IsComplete names files asked answer old new before now
    told_complete (Err kind) answer tells caused = tt
    told_complete (Ok (order.Merge o l out)) answer tells caused = λ merges few reads writes.
        merged_whole o l out answer merges tells (told_yields (Ok (order.Merge o l out)) answer tells (Done []) merges) caused few reads writes
    told_complete (Ok (order.Run o l steps args)) answer tells caused = λ links reads.
        run_alone (order.Run o l steps args) answer (λ at rises. reads rises.rose) (λ none. none) (λ none. none) (told_yields (Ok (order.Run o l steps args)) answer tells any_run links) caused
    told_complete (Ok (order.Exec file steps args)) answer tells caused = λ opens reads.
        run_alone (order.Exec file steps args) answer (λ at rises. reads rises.1.rose) (λ none. none) (λ none. none) (told_yields (Ok (order.Exec file steps args)) answer tells any_run opens) caused
    told_complete (Ok (order.Plan o l)) answer tells caused = λ links reads puts.
        listed_whole o l answer (told_yields (Ok (order.Plan o l)) answer tells (Done []) links) caused reads puts
    told_complete (Ok (order.Gen n pages steps)) answer tells caused = λ some few enough puts. gen_whole n pages steps some few enough answer caused puts
    told_complete (Ok (order.Trace one o l steps out args)) answer tells caused = λ x gives reads writes.
        run_whole (Ok (order.Trace one o l steps out args)) answer
        (told_yields (Ok (order.Trace one o l steps out args)) answer tells any_run (run_due names files (options_of o) (links.options_of l) one x gives _))
        (λ at is. reads (read_rose old new one o.main at (subst (λ a. Caused names (Ok (order.Trace one o l steps out args)) a old new before now) is caused)))
        (λ is. writes (subst (λ a. Caused names (Ok (order.Trace one o l steps out args)) a old new before now) is caused).rose)
    told_complete (Ok (order.Replay one path o l steps)) answer tells caused = λ due reads.
        replayed_whole one path o l steps answer (told_yields (Ok (order.Replay one path o l steps)) answer tells (Done []) due) caused reads
    told_complete (Ok (order.Snap o l steps out)) answer tells caused = λ starts few reads writes.
        snapped_whole o l steps out answer starts tells (told_yields (Ok (order.Snap o l steps out)) answer tells (Done []) starts) caused few reads writes
    told_complete (Ok (order.Board mains l steps slice turns)) answer tells caused = λ links reads.
        board_whole mains l steps slice turns answer (told_yields (Ok (order.Board mains l steps slice turns)) answer tells any_board links) caused reads

-- of what serves: that the answer is due, and that it is complete
module _ (laws : Laws) (names : HostNames) (can : CanWrite names) (asked : Result Order UsageKind) (answer : Outcome) (old new : FilesState) (before now : ℕ) (serves : Serves names asked answer old new before now) where
  pub served_due : ForSome old.told (λ told. (due : Outcome) → DueFor names (get told) asked due → Yields asked due answer)
  served_due = λ told is. told_yields laws names can (get told) asked answer (serves.tells told is)

  pub served_complete : ForSome old.told (λ told. IsComplete names (get told) asked answer old new before now)
  served_complete = λ told is. told_complete laws names can (get told) old new before now asked answer (serves.tells told is) serves.caused

-- the laws, as they are told
pub laws_of : ReadingAnswers → OneRecordAnswer → OneGathered → NeedsThreePages → OneTrace → OneAgreeing → OneFirst → Laws
laws_of answers records gathers pages traces agreeing first = record {
  one_answer = λ bytes one other h k. (answers bytes).1 one h ∙ sym ((answers bytes).1 other k);
  one_record = records;
  one_gathered = gathers;
  three_pages = pages;
  one_trace = traces;
  one_agreeing = agreeing;
  one_first = first;
}
