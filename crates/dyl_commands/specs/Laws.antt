-- Laws of what `serve` promises: `exec` runs the file that a merge wrote; and what is written or put of one set or one run is the same each time.
-- Cited by no clause of `serve`: they follow from the clauses.
-- Part of the statement of laws: docs/LAWS.md, "`exec` runs the file", "One set has the same bytes
-- each time" and "One snapshot, one listing, one trace".
use Rattle.std.specs.Prelude.{◌≡◌, ◌≤◌, ℕ, List, length, Bool, Option, Result, Ok}
use Rattle.std.specs.FinMap.{get}
use Rattle.spec_hosts.specs.dyl_outside.declared.fault.IoFault.{IoFault}
use Rattle.spec_hosts.specs.dyl_outside.FileMap.{FileMap}
use Rattle.spec_hosts.specs.dyl_outside.Sink.{SinkState}
use Rattle.spec_hosts.specs.declared.ran.Ran as ran
use Rattle.spec_hosts.specs.spec_runtime.Names.{HostNames}
use Rattle.spec_loading.specs.spec_linking.declared.fault.SetFault.TheVariants.{ReadFault}
use Rattle.spec_loading.specs.spec_linking.Sets.{SetOptions}
use Rattle.spec_loading.specs.spec_linking.Plans.{LinkOptions}
use Rattle.spec_traces.specs.Traces.{IsTraceOf}
use Rattle.dyl_front.specs.Listing.{listing_of}
use Rattle.dyl_front.specs.declared.outcome.Outcome.{Outcome}
use Rattle.dyl_front.specs.declared.outcome.Outcome.TheVariants.{Ran, Set, Memory}
use Rattle.dyl_front.specs.declared.order.Order.TheVariants.{Exec}
use Rattle.dyl_commands.specs.OneFile.{most_run, OpensAt}
use Rattle.dyl_commands.specs.Due.{TellsFor}
use Rattle.dyl_commands.specs.Linking.{linked}
use Rattle.dyl_commands.specs.Runs.{PutsListing}
use Rattle.dyl_commands.specs.Files.{IsMerged, IsSnapped, IsTraced}

-- The file that a merge wrote is decoded, and its module is valid and has an opening state over the same host functions, where it isn't longer
-- than a file that is run may be.
abbrev pub MergedFilesOpen : Type 0
MergedFilesOpen =
    (names : HostNames) (o : SetOptions) (link : LinkOptions) (out : List ℕ) (files after : FileMap) (merged : IsMerged names o link out files after)
    → length merged.output ≤ most_run → OpensAt names (get after) out

-- a run, want of memory, or a fault of reading at this path
abbrev pub IsRunOrUnread : List ℕ → Outcome → Type 0
IsRunOrUnread path (Ran ran) = Unit {0}
IsRunOrUnread path Memory = Unit {0}
IsRunOrUnread path (Set (ReadFault at)) = at ≡ path
IsRunOrUnread path _ = ⊥

-- So `exec` of it answers one of these (by its clause `tells`), and no other fault.
abbrev pub MergedFilesRun : Type 0
MergedFilesRun =
    (names : HostNames) (o : SetOptions) (link : LinkOptions) (out : List ℕ) (files after : FileMap) (merged : IsMerged names o link out files after)
    → length merged.output ≤ most_run → (steps : ℕ) (args : List (List ℕ)) (answer : Outcome) → TellsFor names (get after) (Ok (Exec out steps args)) answer
    → IsRunOrUnread out answer

-- ---- the same each time

-- Two merges of one set that is linked with the same options over the same host functions write the same bytes, whatever else the files held and
-- wherever they are written.
abbrev pub MergesAreOne : Type 0
MergesAreOne =
    (names : HostNames) (link : LinkOptions) (o p : SetOptions) (out place : List ℕ) (files after others later : FileMap) (one : IsMerged names o link out files after)
    (other : IsMerged names p link place others later) → one.set ≡ other.set → one.output ≡ other.output

-- So do two snapshots of it, however many steps its start-up might have made.
abbrev pub SnapshotsAreOne : Type 0
SnapshotsAreOne =
    (names : HostNames) (link : LinkOptions) (o p : SetOptions) (most many : ℕ) (out place : List ℕ) (files after others later : FileMap)
    (one : IsSnapped names o link most out files after) (other : IsSnapped names p link many place others later) → one.set ≡ other.set → one.output ≡ other.output

-- two listings of it are one text
abbrev pub ListingsAreOne : Type 0
ListingsAreOne =
    (names : HostNames) (link : LinkOptions) (o p : SetOptions) (files others : Option FileMap) (result also : Result (Unit {0}) IoFault) (old new before after : SinkState)
    (one : PutsListing files names o link result old new) (other : PutsListing others names p link also before after)
    → one.set ≡ other.set → listing_of (linked names link one.set) ≡ listing_of (linked names link other.set)

-- and so are the traces of one run of one program
abbrev pub TracesAreOne : Type 0
TracesAreOne =
    (names : HostNames) (single : Bool) (link : LinkOptions) (o p : SetOptions) (out place : List ℕ) (files after others later : FileMap) (r : ran.Ran)
    (one : IsTraced names single o link out (λ C t. IsTraceOf C r t) files after) (other : IsTraced names single p link place (λ C t. IsTraceOf C r t) others later)
    → one.program ≡ other.program → one.text ≡ other.text
