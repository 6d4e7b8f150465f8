-- What is so of a trace that was written: it is replayed.
-- Cited by no clause of `serve`: it follows from the clauses.
-- Part of the statement of laws: docs/LAWS.md, "A trace that was written is replayed".
use Rattle.std.specs.Prelude.{◌≡◌, ◌⊎◌, ℕ, List, [], Bool, Ok}
use Rattle.std.specs.FinMap.{get}
use Rattle.spec_hosts.specs.dyl_outside.Faults.{Rose}
use Rattle.spec_hosts.specs.dyl_outside.FileMap.{FileMap}
use Rattle.spec_hosts.specs.dyl_outside.Files.{FilesState}
use Rattle.spec_hosts.specs.declared.ran.Ran.{Ran}
use Rattle.spec_hosts.specs.spec_runtime.Names.{HostNames}
use Rattle.dyl_link.specs.dyl_search.declared.set.SetOptions.{SetOptions}
use Rattle.dyl_link.specs.dyl_search.Gathers.{options_of}
use Rattle.dyl_link.specs.declared.options.LinkOptions.{LinkOptions}
use Rattle.dyl_link.specs.Sets as links
use Rattle.dyl_front.specs.declared.order.Order.TheVariants.{Replay}
use Rattle.dyl_front.specs.declared.outcome.Outcome.{Outcome}
use Rattle.dyl_front.specs.declared.outcome.Outcome.TheVariants.{Done, Memory}
use Rattle.dyl_commands.specs.Traced.{ProgramTries, ReplayDue}
use Rattle.dyl_commands.specs.Due.{IsComplete}
use Rattle.replay_commands.specs.Written.{IsWritten}

-- Where a trace was written at a path at which no file of the program is sought, its replay is done with the same options and as many steps.
abbrev pub TracesAreReplayed : Type 0
TracesAreReplayed =
    (names : HostNames) (one : Bool) (o : SetOptions) (link : LinkOptions) (steps : ℕ) (out : List ℕ) (r : Ran) (files after : FileMap)
    → IsWritten names one (options_of o) (links.options_of link) steps out r files after → ¬ ProgramTries (get files) one (options_of o) out
    → ReplayDue names (get after) one out (options_of o) (links.options_of link) steps (Done [])

-- So `replay` answers that, or want of memory (by its clause `complete`), where no read fails.
abbrev pub ReplaysAreDone : Type 0
ReplaysAreDone =
    (names : HostNames) (one : Bool) (o : SetOptions) (link : LinkOptions) (steps : ℕ) (out : List ℕ) (r : Ran) (files after : FileMap)
    → IsWritten names one (options_of o) (links.options_of link) steps out r files after → ¬ ProgramTries (get files) one (options_of o) out
    → (answer : Outcome) (old new : FilesState) (before now : ℕ) → IsComplete names (get after) (Ok (Replay one out o link steps)) answer old new before now
    → ¬ Rose old.read_faults new.read_faults → (answer ≡ Done []) ⊎ (answer ≡ Memory)
