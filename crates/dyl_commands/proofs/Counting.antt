-- What is so of the counts of the files.
use Rattle.std.proofs.Common.{◌≡◌, ◌≤◌, ℕ, List, [], ◌∷◌, ◌++◌, Bool, true, false, Option, Result, Ok, Err, refl, sym, ap, subst, append-nil, inl, inr, arith}
use Rattle.std.specs.FinMap.{get}
use Rattle.spec_hosts.specs.dyl_outside.FileMap.{FileMap}
use Rattle.wasm_form.specs.declared.module.Module.{Module}
use Rattle.spec_hosts.specs.dyl_outside.Files.{FilesState}
use Rattle.spec_hosts.specs.dyl_outside.Sink.{SinkState}
use Rattle.spec_hosts.specs.Devices.{Devices}
use Rattle.spec_hosts.specs.Hosted.{Embedder}
use Rattle.spec_hosts.specs.spec_runtime.Names.{HostNames}
use Rattle.spec_loading.specs.spec_linking.Sets.{Files, Member, ClosedSet, SetOptions, default_options}
use Rattle.spec_loading.specs.spec_linking.Gathering.{first_in, Reaches, start, Fails, too_many, missing, too_long, not_decoded, not_recorded, not_valid, gathered, failed, Gathers, gathers, tried_from, tried_next, tried_last}
use Rattle.spec_loading.specs.spec_linking.Plans.{LinkOptions}
use Rattle.spec_loading.specs.spec_linking.LinkedSets.{LinkedSet}
use Rattle.spec_loading.specs.spec_linking.declared.fault.SetFault.{SetFault}
use Rattle.spec_loading.specs.spec_linking.declared.fault.SetFault.TheVariants.{Missing, ReadFault}
use Rattle.spec_loading.specs.spec_linking.declared.fault.SetFault.TheVariants as set
use Rattle.dyl_link.specs.dyl_search.Absents.{CountsTried, BreaksOff, TriedFor, CountsFor}
use Rattle.dyl_link.specs.dyl_search.Gathers.{options_of}
use Rattle.spec_merging.specs.declared.fault.MergeFault.{MergeFault}
use Rattle.spec_merging.specs.declared.fault.MergeFault.TheVariants as merge
use Rattle.dyl_front.specs.declared.outcome.UsageKind.{UsageKind}
use Rattle.dyl_front.specs.declared.outcome.Outcome.{Outcome}
use Rattle.dyl_front.specs.declared.outcome.Outcome.TheVariants.{Done, Ran, Board, Set, Merge, Single, Snap, WriteFault, Memory}
use Rattle.dyl_front.specs.declared.order.Order.{Order}
use Rattle.dyl_front.specs.declared.order.Order.TheVariants as order
use Rattle.dyl_commands.specs.Counts.{Stays, ReadsFor, StoresFor, AbsentsOfFile, AbsentsOfSet, TriedForSet, SetCounts, FileCounts, ProgramCounts, AfterSets, StopsAtSet, BoardCounts, Counts}
use Rattle.dyl_commands.specs.Fetched.{ReadsFile}
use Rattle.dyl_commands.specs.Told.{IsTold}
use Rattle.dyl_commands.specs.Served.{IsNotGot, Gets, StoreCounts, WritesMerged, WritesSnapshot, Lists, ExecutesSet, ExecutesModule, set_outcome, merge_outcome}
use Rattle.dyl_commands.proofs.Telling.{told_keeps}

pub at_least : (before now : ℕ) → now ≡ before → before ≤ now
at_least before now same = omega arith

-- ---- no count falls

reads_rise : (answer : Outcome) (before now : ℕ) → ReadsFor answer before now → before ≤ now
reads_rise Memory before now h = h
reads_rise (Set fault) before now h = of_set fault h
  where
    of_set : (fault : SetFault) → ReadsFor (Set fault) before now → before ≤ now
    of_set (ReadFault path) h = h.later
    of_set fault h = at_least before now h
reads_rise answer before now h = at_least before now h

stores_rise : (answer : Outcome) (before now : ℕ) → StoresFor answer before now → before ≤ now
stores_rise Memory before now h = h
stores_rise WriteFault before now h = h.later
stores_rise answer before now h = at_least before now h

file_absents_rise : (answer : Outcome) (before now : ℕ) → AbsentsOfFile answer before now → before ≤ now
file_absents_rise Memory before now h = h
file_absents_rise (Set fault) before now h = of_set fault h
  where
    of_set : (fault : SetFault) → AbsentsOfFile (Set fault) before now → before ≤ now
    of_set (Missing name) h = h.later
    of_set fault h = at_least before now h
file_absents_rise answer before now h = at_least before now h

set_absents_rise : (answer : Outcome) (before now : ℕ) → AbsentsOfSet answer before now → before ≤ now
set_absents_rise (Set fault) before now h = of_set fault h
  where
    of_set : (fault : SetFault) → AbsentsOfSet (Set fault) before now → before ≤ now
    of_set (Missing name) h = h.later
    of_set fault h = h
set_absents_rise answer before now h = h

-- ---- the paths that are tried

module _ (files : Files) (o : SetOptions) where
  -- once no further name is searched
  none_next : (members : List Member) → Reaches (first_in files) o members → BreaksOff files o (tried_from files o [] members ++ []) (tried_next files o members)
  none_next members reached = record { members = members; reached = reached; parts = ap (λ l. l ++ tried_next files o members) (sym (append-nil (tried_from files o [] members))) }

  -- after a further name is searched
  all_next : (members : List Member) → Reaches (first_in files) o members → BreaksOff files o (tried_from files o [] members ++ tried_next files o members) []
  all_next members reached = record { members = members; reached = reached; parts = sym (append-nil (tried_from files o [] members ++ tried_next files o members)) }

  abbrev SomeTried : List (List ℕ) → Type 0
  SomeTried tried = (left : List (List ℕ)) × BreaksOff files o tried left

  last_tried : (members : List Member) → Reaches (first_in files) o members → (why : SetFault) → Fails (first_in files) o members why → SomeTried (tried_from files o [] members ++ tried_last files o members (Err why))
  last_tried members reached _ (too_many full more) = (tried_next files o members, none_next members reached)
  last_tried members reached _ (missing s) = ([], all_next members reached)
  last_tried members reached _ (too_long s long) = ([], all_next members reached)
  last_tried members reached _ (not_decoded f a) = ([], all_next members reached)
  last_tried members reached _ (not_recorded f a b) = ([], all_next members reached)
  last_tried members reached _ (not_valid f a b v) = ([], all_next members reached)

  some_tried : (tried : List (List ℕ)) (answer : Result ClosedSet SetFault) → Gathers files o tried answer → SomeTried tried
  some_tried _ _ (gathers {members} (gathered reached all)) = (tried_next files o members, none_next members reached)
  some_tried _ _ (gathers {members} (failed {why} reached f)) = last_tried members reached why f

  -- so they are where memory was wanting
  wanting_tried : (answer : Result ClosedSet SetFault) (before now : ℕ) → CountsTried files (TriedFor files o answer) before now → CountsTried files (TriedFor files o (Err set.Memory)) before now
  wanting_tried (Ok S) before now h = record { tried = h.tried; are = some_tried h.tried (Ok S) h.are; absents = h.absents }
  wanting_tried (Err (ReadFault path)) before now h = record { tried = h.tried; are = (_, h.are.1); absents = h.absents }
  wanting_tried (Err set.Memory) before now h = h
  wanting_tried (Err fault) before now h = record { tried = h.tried; are = some_tried h.tried (Err fault) h.are; absents = h.absents }

module _ (told : Option FileMap) (o : SetOptions) where
  pub tried_wanting : (answer : Result ClosedSet SetFault) (before now : ℕ) → CountsFor told o answer before now → CountsFor told o (Err set.Memory) before now
  tried_wanting answer before now h m e = wanting_tried (get m) o answer before now (h m e)

  tried_memory : (answer : Outcome) (before now : ℕ) → TriedForSet told o answer before now → TriedForSet told o Memory before now
  tried_memory (Set fault) before now h = tried_wanting (Err fault) before now h
  tried_memory Memory before now h = h
  tried_memory answer before now h = tried_wanting (Ok h.0) before now h.1

  pub nothing_tried : (now : ℕ) → TriedForSet told o Memory now now
  nothing_tried now m e = record { tried = []; are = (tried_next (get m) o [], record { members = []; reached = start; parts = refl }); absents = refl }

-- ---- want of memory in the place of an outcome

module _ (answer : Outcome) (old new : FilesState) (Stores Wanted : ℕ → ℕ → Type 0) (weaker : Stores old.write_faults new.write_faults → Wanted old.write_faults new.write_faults) where
  set_memory : (o : SetOptions) → SetCounts Stores o answer old new → SetCounts Wanted o Memory old new
  set_memory o h = record {
    reads = reads_rise answer old.read_faults new.read_faults h.reads;
    stores = weaker h.stores;
    absents = set_absents_rise answer old.absents new.absents h.absents;
    tried = tried_memory old.told o answer old.absents new.absents h.tried;
  }

  file_memory : FileCounts Stores answer old new → FileCounts Wanted Memory old new
  file_memory h = record {
    reads = reads_rise answer old.read_faults new.read_faults h.reads;
    stores = weaker h.stores;
    absents = file_absents_rise answer old.absents new.absents h.absents;
  }

  program_memory : (one : Bool) (o : SetOptions) → ProgramCounts one Stores o answer old new → ProgramCounts one Wanted o Memory old new
  program_memory false o h = set_memory o h
  program_memory true o h = file_memory h

-- of several sets
stops_memory : (o : SetOptions) (answer : Outcome) (old new : FilesState) → StopsAtSet o answer old new → StopsAtSet o Memory old new
stops_memory o (Board ran) old new h = absurd h
stops_memory o answer old new h = set_memory answer old new Stays Stays (λ s. s) o h

after_memory : (answer : Outcome) (old new : FilesState) → AfterSets answer old new → AfterSets Memory old new
after_memory (Board ran) old new h = h
after_memory Memory old new h = h
after_memory _ old new h = absurd h

board_memory : (mains : List (List ℕ)) (answer : Outcome) (old new : FilesState) → BoardCounts mains answer old new → BoardCounts mains Memory old new
board_memory [] answer old new h = after_memory answer old new h
board_memory (main ∷ mains) answer old new (inl h) = inl (stops_memory (default_options main) answer old new h)
board_memory (main ∷ mains) answer old new (inr h) = inr (h.0, h.1, h.2, board_memory mains answer h.0 new h.3)

counts_memory : (asked : Result Order UsageKind) (answer : Outcome) (old new : FilesState) → Counts asked answer old new → Counts asked Memory old new
counts_memory (Err kind) answer old new h = h
counts_memory (Ok (order.Merge o link out)) answer old new h =
    set_memory answer old new (StoresFor answer) (StoresFor Memory) (stores_rise answer old.write_faults new.write_faults) (options_of o) h
counts_memory (Ok (order.Run o link steps args)) answer old new h = set_memory answer old new Stays Stays (λ s. s) (options_of o) h
counts_memory (Ok (order.Exec file steps args)) answer old new h = file_memory answer old new Stays Stays (λ s. s) h
counts_memory (Ok (order.Plan o link)) answer old new h = set_memory answer old new Stays Stays (λ s. s) (options_of o) h
counts_memory (Ok (order.Gen n pages steps)) answer old new h = h
counts_memory (Ok (order.Trace one o link steps out args)) answer old new h =
    program_memory answer old new (StoresFor answer) (StoresFor Memory) (stores_rise answer old.write_faults new.write_faults) one (options_of o) h
counts_memory (Ok (order.Replay one path o link steps)) answer old new (inl h) = inl ((λ files told. tt), file_memory answer old new Stays Stays (λ s. s) h.1)
counts_memory (Ok (order.Replay one path o link steps)) answer old new (inr h) = inr (h.0, program_memory answer old new Stays Stays (λ s. s) one (options_of o) h.1)
counts_memory (Ok (order.Snap o link steps out)) answer old new h =
    set_memory answer old new (StoresFor answer) (StoresFor Memory) (stores_rise answer old.write_faults new.write_faults) (options_of o) h
counts_memory (Ok (order.Board mains link steps slice turns)) answer old new h = board_memory mains answer old new h

-- where nothing was done with the files
module _ (old : FilesState) where
  set_untouched : (Stores : ℕ → ℕ → Type 0) (o : SetOptions) → Stores old.write_faults old.write_faults → SetCounts Stores o Memory old old
  set_untouched Stores o stores = record { reads = at_least _ _ refl; stores = stores; absents = at_least _ _ refl; tried = nothing_tried old.told o old.absents }

  file_untouched : (Stores : ℕ → ℕ → Type 0) → Stores old.write_faults old.write_faults → FileCounts Stores Memory old old
  file_untouched Stores stores = record { reads = at_least _ _ refl; stores = stores; absents = at_least _ _ refl }

  program_untouched : (one : Bool) (Stores : ℕ → ℕ → Type 0) (o : SetOptions) → Stores old.write_faults old.write_faults → ProgramCounts one Stores o Memory old old
  program_untouched false Stores o stores = set_untouched Stores o stores
  program_untouched true Stores o stores = file_untouched Stores stores

  board_untouched : (mains : List (List ℕ)) → BoardCounts mains Memory old old
  board_untouched [] = refl
  board_untouched (main ∷ mains) = inl (set_untouched Stays (default_options main) refl)

  pub nothing_counted : (asked : Result Order UsageKind) → Counts asked Memory old old
  nothing_counted (Err kind) = refl
  nothing_counted (Ok (order.Merge o link out)) = set_untouched (StoresFor Memory) (options_of o) (at_least _ _ refl)
  nothing_counted (Ok (order.Run o link steps args)) = set_untouched Stays (options_of o) refl
  nothing_counted (Ok (order.Exec file steps args)) = file_untouched Stays refl
  nothing_counted (Ok (order.Plan o link)) = set_untouched Stays (options_of o) refl
  nothing_counted (Ok (order.Gen n pages steps)) = refl
  nothing_counted (Ok (order.Trace one o link steps out args)) = program_untouched one (StoresFor Memory) (options_of o) (at_least _ _ refl)
  nothing_counted (Ok (order.Replay one path o link steps)) = inl ((λ files told. tt), file_untouched Stays refl)
  nothing_counted (Ok (order.Snap o link steps out)) = set_untouched (StoresFor Memory) (options_of o) (at_least _ _ refl)
  nothing_counted (Ok (order.Board mains link steps slice turns)) = board_untouched mains

-- ---- where no set is linked

module _ (names : HostNames) (o : SetOptions) (l : LinkOptions) (old new : FilesState) (writes : new.write_faults ≡ old.write_faults) (absents : old.absents ≤ new.absents) where
  refused_absents : (answer : Outcome) → IsNotGot names o l answer old new → AbsentsOfSet answer old.absents new.absents
  refused_absents (Set fault) h = of_set fault h
    where
      of_set : (fault : SetFault) → IsNotGot names o l (Set fault) old new → AbsentsOfSet (Set fault) old.absents new.absents
      of_set (Missing name) h = h.caused
      of_set fault h = absents
  refused_absents answer h = absents

  refused_stores : (answer : Outcome) → IsNotGot names o l answer old new → StoresFor answer old.write_faults new.write_faults
  refused_stores Memory h = at_least old.write_faults new.write_faults writes
  refused_stores WriteFault h = absurd h.caused
  refused_stores answer h = writes

  pub refused_counts : (answer : Outcome) → IsNotGot names o l answer old new → ReadsFor answer old.read_faults new.read_faults → TriedForSet old.told o answer old.absents new.absents
      → SetCounts Stays o answer old new
  refused_counts answer h reads tried = record { reads = reads; stores = writes; absents = refused_absents answer h; tried = tried }

  -- nothing is stored either
  pub unmerged_counts : (answer : Outcome) → IsNotGot names o l answer old new → ReadsFor answer old.read_faults new.read_faults → TriedForSet old.told o answer old.absents new.absents
      → SetCounts (StoresFor answer) o answer old new
  unmerged_counts answer h reads tried = record { reads = reads; stores = refused_stores answer h; absents = refused_absents answer h; tried = tried }

-- ---- where a set is linked

-- an outcome that is no fault of a set
abbrev pub is_set_fault : Outcome → Bool
is_set_fault (Set fault) = true
is_set_fault _ = false

module _ (names : HostNames) (o : SetOptions) (l : LinkOptions) (L : LinkedSet) (old new : FilesState) (gets : Gets names o l (Ok L) old new) where
  pub got_counts : (answer : Outcome) → is_set_fault answer ≡ false → SetCounts Stays o answer old new
  got_counts (Set fault) other = absurd cc
  got_counts Memory other = record {
    reads = at_least old.read_faults new.read_faults gets.reads;
    stores = gets.writes;
    absents = gets.absents;
    tried = tried_wanting old.told o (Ok gets.tried.0) old.absents new.absents gets.tried.1;
  }
  got_counts answer other = record { reads = gets.reads; stores = gets.writes; absents = gets.absents; tried = gets.tried }

-- what is stored then
pub then_stored : (o : SetOptions) (answer : Outcome) (old mid new : FilesState) → SetCounts Stays o answer old mid → StoreCounts (StoresFor answer) mid new → SetCounts (StoresFor answer) o answer old new
then_stored o answer old mid new h s = record {
  reads = subst (λ n. ReadsFor answer old.read_faults n) (sym s.reads) h.reads;
  stores = subst (λ n. StoresFor answer n new.write_faults) h.stores s.stores;
  absents = subst (λ n. AbsentsOfSet answer old.absents n) (sym s.absents) h.absents;
  tried = subst (λ n. TriedForSet old.told o answer old.absents n) (sym s.absents) h.tried;
}

pub not_stored : (fault : MergeFault) (old : FilesState) → StoreCounts (StoresFor (merge_outcome fault)) old old
not_stored merge.Memory old = record { reads = refl; stores = at_least old.write_faults old.write_faults refl; absents = refl }
not_stored (merge.SectionSize id) old = record { reads = refl; stores = refl; absents = refl }

-- ---- the one file that is run

module _ (path : List ℕ) (old new : FilesState) where
  pub read_counts : (wasm : Module) → ReadsFile path (Ok wasm) old new → (answer : Outcome) → is_set_fault answer ≡ false → FileCounts Stays answer old new
  read_counts wasm h (Set fault) other = absurd cc
  read_counts wasm h Memory other = record { reads = at_least old.read_faults new.read_faults h.reads; stores = h.writes; absents = at_least old.absents new.absents h.absents }
  read_counts wasm h answer other = record { reads = h.reads; stores = h.writes; absents = h.absents }

  pub unread_counts : (fault : SetFault) → ReadsFile path (Err fault) old new → FileCounts Stays (set_outcome fault) old new
  unread_counts set.Memory h = record { reads = h.reads; stores = h.writes; absents = h.absents }
  unread_counts fault h = record { reads = h.reads; stores = h.writes; absents = h.absents }

-- ---- no fault of a set comes after it

pub written_no_fault : (L : LinkedSet) (out : List ℕ) (answer : Outcome) (old new : FilesState) → WritesMerged L out answer old new → is_set_fault answer ≡ false
written_no_fault L out (Done []) old new h = refl
written_no_fault L out WriteFault old new h = refl
written_no_fault L out (Merge merge.Memory) old new h = absurd h
written_no_fault L out (Merge (merge.SectionSize id)) old new h = refl
written_no_fault L out Memory old new h = refl
written_no_fault L out _ old new h = absurd h

pub snapped_no_fault : (L : LinkedSet) (most : ℕ) (out : List ℕ) (answer : Outcome) (old new : FilesState) → WritesSnapshot L most out answer old new → is_set_fault answer ≡ false
snapped_no_fault L most out (Done []) old new h = refl
snapped_no_fault L most out WriteFault old new h = refl
snapped_no_fault L most out (Snap why) old new h = refl
snapped_no_fault L most out Memory old new h = refl
snapped_no_fault L most out _ old new h = absurd h

pub listed_no_fault : (L : LinkedSet) (answer : Outcome) (old new : SinkState) → Lists L answer old new → is_set_fault answer ≡ false
listed_no_fault L (Done []) old new h = refl
listed_no_fault L WriteFault old new h = refl
listed_no_fault L Memory old new h = refl
listed_no_fault L _ old new h = absurd h

pub run_no_fault : (L : LinkedSet) (embedder : Embedder) (steps : ℕ) (answer : Outcome) (old new : Devices) → ExecutesSet L embedder steps answer old new → is_set_fault answer ≡ false
run_no_fault L embedder steps (Ran r) old new h = refl
run_no_fault L embedder steps Memory old new h = refl
run_no_fault L embedder steps _ old new h = absurd h

pub executed_no_fault : (wasm : Module) (embedder : Embedder) (steps : ℕ) (answer : Outcome) (old new : Devices) → ExecutesModule wasm embedder steps answer old new → is_set_fault answer ≡ false
executed_no_fault wasm embedder steps (Ran r) old new h = refl
executed_no_fault wasm embedder steps (Single fault) old new h = refl
executed_no_fault wasm embedder steps Memory old new h = refl
executed_no_fault wasm embedder steps _ old new h = absurd h

-- ---- the answer that is told

pub told_counts : (asked : Result Order UsageKind) (outcome answer : Outcome) (old new : FilesState) → IsTold outcome answer → Counts asked outcome old new → Counts asked answer old new
told_counts asked outcome answer old new told h = told_keeps (λ o. Counts asked o old new) outcome answer told (λ line. counts_memory asked outcome old new h) h

-- words that are no order
pub usage_counts : (asked : Result Order UsageKind) (kind : UsageKind) (answer : Outcome) (old : FilesState) → asked ≡ Err kind → Counts asked answer old old
usage_counts asked kind answer old is = subst (λ a. Counts a answer old old) (sym is) refl
