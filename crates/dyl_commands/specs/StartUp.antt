-- What there is to say of the start-up of a set that is asked for: that it comes to the call of the entry, so that there is a snapshot, or why
-- there is none.
-- Cited by every clause of `serve` that speaks of `snap`.
-- This profile: docs/FORMATS.md, "The snapshot".
use Rattle.std.specs.Prelude.{ℕ, []}
use Rattle.spec_hosts.specs.spec_runtime.Names.{HostNames}
use Rattle.spec_loading.specs.spec_linking.Sets.{Files, SetOptions}
use Rattle.spec_loading.specs.spec_linking.Plans.{LinkOptions}
use Rattle.spec_snapshots.specs.declared.fault.SnapFault.{SnapFault}
use Rattle.spec_snapshots.specs.declared.fault.SnapFault.TheVariants as fault
use Rattle.spec_snapshots.specs.Causes.{Takes, IsFirst}
use Rattle.snap_merge.specs.Answers.{SnapTells}
use Rattle.dyl_front.specs.declared.outcome.Outcome.{Outcome}
use Rattle.dyl_front.specs.declared.outcome.Outcome.TheVariants.{Done, Snap}
use Rattle.dyl_commands.specs.Linking.{linked, LinksAt, FaultDue}

-- the set is gathered from the files and links, and its entry is called after so many steps, of which there may be as many as these
pub record StartsUp (names : HostNames) (files : Files) (o : SetOptions) (link : LinkOptions) (most : ℕ) : Type 0 where
  pub links : LinksAt names files o link
  pub steps : ℕ
  pub first : IsFirst (linked names link links.set) most steps Takes

-- it links, and has no snapshot for this reason
pub record HasNoSnapshot (names : HostNames) (files : Files) (o : SetOptions) (link : LinkOptions) (most : ℕ) (why : SnapFault) : Type 0 where
  pub links : LinksAt names files o link
  pub tells : SnapTells (linked names link links.set) most why

-- What is due: the snapshot, or why there is none. That a section is too long takes the place of Done.
abbrev pub SnapDue : HostNames → Files → SetOptions → LinkOptions → ℕ → Outcome → Type 0
SnapDue names files o link most (Done []) = StartsUp names files o link most
SnapDue names files o link most (Snap (fault.SectionSize id)) = ⊥
SnapDue names files o link most (Snap fault.Memory) = ⊥
SnapDue names files o link most (Snap why) = HasNoSnapshot names files o link most why
SnapDue names files o link most due = FaultDue names files o link due
