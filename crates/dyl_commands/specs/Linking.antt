-- What there is to say of a set that is asked for: that it is gathered and links, or why not. It is the same for each command that takes one.
-- Cited by every clause of `serve` that speaks of a set.
-- This profile: docs/FORMATS.md, "The set" and "How it ends".
use Rattle.std.specs.Prelude.{◌≡◌, Some, Ok, Err}
use Rattle.spec_hosts.specs.spec_runtime.Names.{HostNames}
use Rattle.spec_loading.specs.spec_linking.declared.fault.LinkFault.{LinkFault}
use Rattle.spec_loading.specs.spec_linking.declared.fault.SetFault.TheVariants.{ReadFault}
use Rattle.spec_loading.specs.spec_linking.Sets.{Files, ClosedSet, SetOptions}
use Rattle.spec_loading.specs.spec_linking.Gathering.{IsGathered, Tries}
use Rattle.spec_loading.specs.spec_linking.Plans.{LinkOptions}
use Rattle.spec_loading.specs.spec_linking.LinkedSets.{LinkedSet}
use Rattle.spec_loading.specs.spec_linking.Links.{link_fault, Links}
use Rattle.dyl_front.specs.declared.outcome.Outcome.{Outcome}
use Rattle.dyl_front.specs.declared.outcome.Outcome.TheVariants.{Set, Link, Memory}

-- a set, linked with these options, where these host functions are declared
abbrev pub linked : HostNames → LinkOptions → ClosedSet → LinkedSet
linked names link S = record { set = S; options = link; names = names }

-- the set is gathered from the files, and links
pub record LinksAt (names : HostNames) (files : Files) (o : SetOptions) (link : LinkOptions) : Type 0 where
  pub set : ClosedSet
  pub gathered : IsGathered files o (Ok set)
  pub links : Links (linked names link set)

-- it is gathered and doesn't link, and why
pub record HasLinkFault (names : HostNames) (files : Files) (o : SetOptions) (link : LinkOptions) (fault : LinkFault) : Type 0 where
  pub set : ClosedSet
  pub gathered : IsGathered files o (Ok set)
  pub found : link_fault (linked names link set) ≡ Some fault

-- What is due where the set isn't gathered, or doesn't link.
abbrev pub FaultDue : HostNames → Files → SetOptions → LinkOptions → Outcome → Type 0
FaultDue names files o link (Set fault) = IsGathered files o (Err fault)
FaultDue names files o link (Link fault) = HasLinkFault names files o link fault
FaultDue names files o link _ = ⊥

-- What may be answered in place of that: a fault of reading a path that is tried, or want of memory.
abbrev pub FaultTells : HostNames → Files → SetOptions → LinkOptions → Outcome → Type 0
FaultTells names files o link Memory = Unit {0}
FaultTells names files o link (Set (ReadFault path)) = Tries files o path
FaultTells names files o link answer = FaultDue names files o link answer
