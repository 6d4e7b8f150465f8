-- What is so of each set that links.
-- Part of the statement of laws: docs/LAWS.md, "Laws of the parts".
use Rattle.std.specs.Prelude.{◌≡◌, ◌<◌, ℕ, Some, IsTrue, is_some, slice_get}
use Rattle.spec_loading.specs.spec_linking.Sets.{Member}
use Rattle.spec_loading.specs.spec_linking.Gathering.{IsSet}
use Rattle.spec_loading.specs.spec_linking.Definitions.{imported_globals}
use Rattle.spec_loading.specs.spec_linking.LinkedSets.{LinkedSet, function_ref}
use Rattle.spec_loading.specs.spec_linking.Slots.{imported_number}
use Rattle.spec_loading.specs.spec_linking.Links.{Links}
use Rattle.dyl_link.specs.Sets.{functions_in}

-- each number of a function of a member names one
abbrev pub FunctionsAreThere : Type 0
FunctionsAreThere = (L : LinkedSet) → IsSet L.set → Links L → (m f : ℕ) → f < functions_in L m → IsTrue (is_some (function_ref L m f))

-- each global that a member imports has an initial value
abbrev pub InitialValuesAreThere : Type 0
InitialValuesAreThere = (L : LinkedSet) → Links L → (m g : ℕ) (member : Member) → slice_get L.set.members m ≡ Some member
    → g < imported_globals member.wasm → (n : ℕ) × (imported_number L m g ≡ Some n)
