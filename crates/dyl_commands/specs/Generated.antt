-- What there is to say of the set of n members that is generated: that it links with so many pages, or that these are too few.
-- Cited by every clause of `serve` that speaks of `gen`.
-- This profile: docs/FORMATS.md, "The generated set".
use Rattle.std.specs.Prelude.{◌≡◌, ◌⊎◌, ◌<◌, ◌≤◌, ℕ, false}
use Rattle.std.specs.FinMap.{get}
use Rattle.spec_hosts.specs.dyl_outside.FileMap.{FileMap}
use Rattle.spec_hosts.specs.spec_runtime.Names.{HostNames}
use Rattle.spec_loading.specs.spec_linking.declared.fault.LinkFault.{LinkFault}
use Rattle.spec_loading.specs.spec_linking.declared.fault.LinkFault.TheVariants.{MemoryLimit}
use Rattle.spec_loading.specs.spec_linking.Plans.{LinkOptions}
use Rattle.dyl_gen.specs.declared.fault.GenFault.TheVariants.{Range}
use Rattle.dyl_gen.specs.Files.{AreGenerated}
use Rattle.dyl_gen.specs.Laws.{set_options}
use Rattle.dyl_front.specs.declared.outcome.Outcome.{Outcome}
use Rattle.dyl_front.specs.declared.outcome.Outcome.TheVariants.{Done, Link, Gen}
use Rattle.dyl_commands.specs.Linking.{LinksAt, HasLinkFault}

-- its stack is the one where none is asked for, and a name may be defined more than once
abbrev pub with_pages : ℕ → LinkOptions
with_pages pages = record { stack = 65536; pages = pages; no_duplicates = false }

-- there is such a set for 1 to 255 members, and these are its files
pub record AreMade (n : ℕ) (files : FileMap) : Type 0 where
  pub some : 0 < n
  pub few : n ≤ 255
  pub generated : AreGenerated n files

-- the set of these files links
pub record MadeLinks (names : HostNames) (n pages : ℕ) : Type 0 where
  pub files : FileMap
  pub made : AreMade n files
  pub links : LinksAt names (get files) set_options (with_pages pages)

-- it doesn't, and why
pub record MadeHasFault (names : HostNames) (n pages : ℕ) (fault : LinkFault) : Type 0 where
  pub files : FileMap
  pub made : AreMade n files
  pub found : HasLinkFault names (get files) set_options (with_pages pages) fault

-- What is due: its two runs, whatever comes of them, or why they aren't made. No other fault of a set or of linking is.
abbrev pub GenDue : HostNames → ℕ → ℕ → Outcome → Type 0
GenDue names n pages (Done runs) = MadeLinks names n pages
GenDue names n pages (Link (MemoryLimit needed most)) = MadeHasFault names n pages (MemoryLimit needed most)
GenDue names n pages (Gen Range) = (n ≡ 0) ⊎ (255 < n)
GenDue names n pages _ = ⊥
