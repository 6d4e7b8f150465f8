-- Laws of the generated set: its files are gathered without a fault, there is little of what is gathered, and it links where its pages suffice.
-- Part of the statement of laws: docs/LAWS.md, "Laws of the parts".
use Rattle.std.specs.Prelude.{◌≡◌, ℕ, ◌+◌, ◌*◌, ◌^◌, ◌<◌, ◌≤◌, length, sum_by, codes, false, Some, Ok, Err}
use Rattle.std.specs.FinMap.{get}
use Rattle.spec_linking.specs.spec_runtime.Names.{HostNames, Fits, host_match}
use Rattle.spec_linking.specs.declared.fault.SetFault.{SetFault}
use Rattle.spec_linking.specs.declared.fault.LinkFault.{LinkFault}
use Rattle.spec_linking.specs.declared.fault.LinkFault.TheVariants.{MemoryLimit}
use Rattle.spec_linking.specs.Sets.{Member, ClosedSet, SetOptions, default_options}
use Rattle.spec_linking.specs.Gathering.{IsGathered, total_size}
use Rattle.spec_linking.specs.Plans.{LinkOptions, plan_of, limit, pages_limit}
use Rattle.spec_linking.specs.Links.{link_fault}
use Rattle.dyl_outside.specs.FileMap.{FileMap}
use Rattle.dyl_gen.specs.Generated.{four_numbers}
use Rattle.dyl_gen.specs.Files.{AreGenerated}

-- the set of the main module, with no names to be opened later and no further directories to search
abbrev pub set_options : SetOptions
set_options = default_options (codes "m0.wasm")

-- no fault is gathered from the files
abbrev pub GathersNoFault : Type 0
GathersNoFault = (n : ℕ) (files : FileMap) (why : SetFault) → 0 < n → n ≤ 255 → AreGenerated n files → IsGathered (get files) set_options (Err why) → ⊥

-- A set has this many members, and there is little of it: 256 times the bytes of its files and of its members' names, and 64 times the square
-- of their number, are fewer than 2^32.
pub record IsSmall (count : ℕ) (S : ClosedSet) : Type 0 where
  pub members : length S.members ≡ count
  pub little : 256 * (total_size S.members + sum_by (λ (m : Member). length m.name) S.members) + 64 * length S.members ^ 2 < 2 ^ 32

-- the set that is gathered has n + 1 members, and there is little of it
abbrev pub GathersLittle : Type 0
GathersLittle = (n : ℕ) (files : FileMap) (S : ClosedSet) → 0 < n → n ≤ 255 → AreGenerated n files → IsGathered (get files) set_options (Ok S) → IsSmall (n + 1) S

-- `fd_write` of WASI is a host function of the type that the main module imports
abbrev pub CanWrite : HostNames → Type 0
CanWrite names = host_match names (codes "wasi_snapshot_preview1") (codes "fd_write") four_numbers ≡ Fits

-- the pages are too few
abbrev pub IsMemoryLimit : LinkFault → Type 0
IsMemoryLimit fault = (pages : ℕ) × (most : ℕ) × (fault ≡ MemoryLimit pages most)

-- Where a name may be defined more than once, the link fault of the set that is gathered is that of its pages, whatever the stack and the most
-- pages are; it links where those suffice.
abbrev pub LinksByPages : Type 0
LinksByPages = (n : ℕ) (files : FileMap) (S : ClosedSet) (names : HostNames) (link : LinkOptions) → 0 < n → n ≤ 255 → AreGenerated n files
    → IsGathered (get files) set_options (Ok S) → CanWrite names → link.no_duplicates ≡ false
    → link_fault (record { set = S; options = link; names = names }) ≡ pages_limit MemoryLimit (plan_of S link)

-- So it has no other link fault than that its pages are too few.
abbrev pub LinksWithinPages : Type 0
LinksWithinPages = (n : ℕ) (files : FileMap) (S : ClosedSet) (names : HostNames) (link : LinkOptions) (fault : LinkFault) → 0 < n → n ≤ 255 → AreGenerated n files
    → IsGathered (get files) set_options (Ok S) → CanWrite names → link.no_duplicates ≡ false
    → link_fault (record { set = S; options = link; names = names }) ≡ Some fault → IsMemoryLimit fault

-- With a stack of 65,536 bytes it needs three pages.
abbrev pub NeedsThreePages : Type 0
NeedsThreePages = (n : ℕ) (files : FileMap) (S : ClosedSet) (names : HostNames) (link : LinkOptions) → 0 < n → n ≤ 255 → AreGenerated n files
    → IsGathered (get files) set_options (Ok S) → CanWrite names → link.no_duplicates ≡ false → link.stack ≡ 65536
    → link_fault (record { set = S; options = link; names = names }) ≡ limit MemoryLimit 3 link.pages
