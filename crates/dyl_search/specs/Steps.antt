-- One member more.
-- Serves the contracts of this crate, which follow Wanted of `spec_linking`.
use Rattle.std.specs.Prelude.{◌≡◌, ℕ, List, map, length, slice_get, Some}
use Rattle.spec_linking.specs.Wanted.{Wanted, with_names, number_of}
use Rattle.dyl_search.specs.declared.set.Member.{Member}
use Rattle.dyl_search.specs.declared.find.Found.{Found}
use Rattle.dyl_search.specs.declared.load.Loaded.{Loaded}

-- the name that has this number, and the numbers of the names that its member needs
pub record AreNamed (known : List Wanted) (n : ℕ) (needed : List (List ℕ)) (name : List ℕ) (numbers : List ℕ) : Type 0 where
  pub asked : Wanted
  pub at : slice_get known n ≡ Some asked
  pub is : name ≡ asked.name
  pub needed_are : numbers ≡ map (number_of (with_names n known needed)) needed

-- the member with this number is that of a file and its module
pub record IsMade (known : List Wanted) (n : ℕ) (f : Found) (l : Loaded) (m : Member) : Type 0 where
  pub asked : Wanted
  pub at : slice_get known n ≡ Some asked
  pub name : m.name ≡ asked.name
  pub path : m.path ≡ f.path
  pub size : m.size ≡ length f.bytes.items
  pub dylink : m.dylink ≡ l.dylink
  pub checked : m.checked ≡ l.checked
  pub needed : m.needed ≡ map (number_of (with_names n known l.dylink.needed)) l.dylink.needed
