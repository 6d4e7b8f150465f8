-- What the merged module is made with: the numbers, the globals and the segments.
-- Serves the contracts of this crate, which follow MergedModule of `merge_module`.
use Rattle.std.specs.Prelude.{◌≡◌, ◌<◌, ◌^◌, true, false, Option, Some, None}
use Rattle.spec_loading.specs.spec_linking.LinkedSets.{LinkedSet}
use Rattle.spec_loading.specs.Members.{from_members, uses_loader}
use Rattle.merge_start.specs.Words.{Starts}
use Rattle.merge_start.specs.Listed.{AreListed}
use Rattle.merge_dl.specs.declared.numbers.DlNumbers.{DlNumbers}
use Rattle.merge_dl.specs.Listed.{AreDlNumbers}
use Rattle.merge_index.specs.Kept.{numbers_in}
use Rattle.merge_index.specs.Numbering.{numbers_of, starts_of}
use Rattle.merge_module.specs.MergedModule.{finders_of, merged_globals, merged_elems, merged_datas}
use Rattle.merge_whole.specs.declared.built.given.Given.{Given}
use Rattle.merge_whole.specs.Counts.{functions_by}

-- where a set uses the loader, and there alone, there are the numbers that its functions name
abbrev pub HasLoader : LinkedSet → Starts → Option DlNumbers → Type 0
HasLoader L x None = uses_loader L ≡ false
HasLoader L x (Some d) = (uses_loader L ≡ true) × AreDlNumbers L d x (finders_of L x)

-- numbers that the functions of the loader can be made with
abbrev pub AreSmall : DlNumbers → Type 0
AreSmall d = (d.guard < 2 ^ 31) × (d.first_function < 2 ^ 31) × (d.promoted < 2 ^ 31)

-- those of a set
pub record IsGiven (L : LinkedSet) (g : Given) : Type 0 where
  pub numbers : numbers_in g.numbers ≡ numbers_of L
  pub listed : AreListed L g.starts (numbers_of L) (starts_of L)
  pub functions : g.starts.functions ≡ from_members (functions_by (numbers_of L)) 0 L.set.members
  pub loader : HasLoader L (starts_of L) g.loader
  pub globals : g.globals ≡ merged_globals L (numbers_of L)
  pub elems : g.elems ≡ merged_elems L (numbers_of L)
  pub datas : g.datas ≡ merged_datas L
