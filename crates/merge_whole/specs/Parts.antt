-- What is made for a linked set: its merged module, and the numbers of what the module has.
-- Serves the contracts of this crate, which follow MergedModule of `merge_module`.
use Rattle.std.specs.Prelude.{◌≡◌, ℕ, Some}
use Rattle.spec_loading.specs.spec_linking.LinkedSets.{LinkedSet}
use Rattle.spec_loading.specs.spec_linking.Links.{set_entry}
use Rattle.spec_loading.specs.Members.{from_members}
use Rattle.merge_start.specs.Listed.{AreListed}
use Rattle.merge_index.specs.Kept.{numbers_in}
use Rattle.merge_index.specs.Numbering.{numbers_of, starts_of}
use Rattle.merge_module.specs.MergedModule.{merged_module}
use Rattle.merge_whole.specs.declared.made.Parts.{Parts}
use Rattle.merge_whole.specs.Counts.{functions_by}
use Rattle.merge_whole.specs.Given.{HasLoader}

-- The module is the merged module of the set, and the numbers are those of the set in it. `start` lists the numbers that generated code
-- names, and those of the functions of each member, in set order; `entry` is the number of the function that the program begins with; and
-- `dl` is there where the set uses the loader, and there alone.
pub record ArePartsOf (L : LinkedSet) (p : Parts) : Type 0 where
  pub merged : p.module ≡ merged_module L
  pub numbers : numbers_in p.numbers ≡ numbers_of L
  pub start : AreListed L p.start (numbers_of L) (starts_of L)
  pub functions : p.start.functions ≡ from_members (functions_by (numbers_of L)) 0 L.set.members
  pub entry : (f : ℕ) → set_entry L.set.members ≡ Some f → p.entry ≡ (numbers_of L).named 0 f
  pub dl : HasLoader L (starts_of L) p.dl
