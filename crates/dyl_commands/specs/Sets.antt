-- What there is to say of several sets that are asked for, one after the other: that each is gathered and links, or the first fault that one has.
-- Cited by every clause of `serve` that speaks of `board`.
-- This profile: docs/FORMATS.md, "How it ends".
use Rattle.std.specs.Prelude.{◌⊎◌, ℕ, List, [], ◌∷◌}
use Rattle.spec_hosts.specs.spec_runtime.Names.{HostNames}
use Rattle.spec_loading.specs.spec_linking.declared.fault.SetFault.TheVariants.{ReadFault}
use Rattle.spec_loading.specs.spec_linking.Sets.{Files, default_options}
use Rattle.spec_loading.specs.spec_linking.Gathering as gathering
use Rattle.spec_loading.specs.spec_linking.Plans.{LinkOptions}
use Rattle.dyl_front.specs.declared.outcome.Outcome.{Outcome}
use Rattle.dyl_front.specs.declared.outcome.Outcome.TheVariants.{Set, Memory}
use Rattle.dyl_commands.specs.Linking.{LinksAt, FaultDue}

-- the set of each main module links, with no names to be opened later and no further directories to search
abbrev pub AllLink : HostNames → Files → List (List ℕ) → LinkOptions → Type 0
AllLink names files [] link = Unit {0}
AllLink names files (main ∷ mains) link = LinksAt names files (default_options main) link × AllLink names files mains link

-- what is due where one doesn't: the fault of the first of them
abbrev pub FirstFault : HostNames → Files → List (List ℕ) → LinkOptions → Outcome → Type 0
FirstFault names files [] link due = ⊥
FirstFault names files (main ∷ mains) link due =
    FaultDue names files (default_options main) link due ⊎ (LinksAt names files (default_options main) link × FirstFault names files mains link due)

-- a path at which a file is sought: of the first set, or, where that one links, of those after it
abbrev pub SetsTry : HostNames → Files → List (List ℕ) → LinkOptions → List ℕ → Type 0
SetsTry names files [] link path = ⊥
SetsTry names files (main ∷ mains) link path =
    gathering.Tries files (default_options main) path ⊎ (LinksAt names files (default_options main) link × SetsTry names files mains link path)

-- What may be answered in place of a fault that is due: one of reading a path that is tried, or want of memory.
abbrev pub FirstTells : HostNames → Files → List (List ℕ) → LinkOptions → Outcome → Type 0
FirstTells names files mains link Memory = Unit {0}
FirstTells names files mains link (Set (ReadFault path)) = SetsTry names files mains link path
FirstTells names files mains link answer = FirstFault names files mains link answer
