-- Loops over members, one step on.
use Rattle.std.proofs.Common.{◌≡◌, ℕ, ◌+◌, ◌<◌, List, ◌∷◌, map, length, take, drop, Some, slice_get, get_or, refl, ap, ◌∙◌}
use Rattle.std.specs.Option.{option_map}
use Rattle.std.proofs.lemmas.List.{drop_more}
use Rattle.std.proofs.lemmas.Option.{slice_get-map, slice_get_read, get_or_from_slice_get, slice_get_within}
use Rattle.spec_loading.specs.spec_linking.Sets as sets
use Rattle.spec_loading.specs.spec_linking.LinkedSets.{LinkedSet}
use Rattle.spec_loading.specs.spec_linking.Links.{◌or_else◌, first_fault, member_fault, members_fault, duplicate_of, duplicates_from}
use Rattle.dyl_slots.specs.dyl_search.declared.set.Member.{Member}
use Rattle.dyl_slots.specs.dyl_search.Gathers.{member_of}

pub member_here : (all : List sets.Member) (xs : List Member) (m : ℕ) (x : Member) → all ≡ map member_of xs → m < length xs → x ≡ get_or xs m x → slice_get all m ≡ Some (member_of x)
member_here all xs m x members less at =
    ap (λ ms. slice_get ms m) members ∙ slice_get-map member_of xs m ∙ ap (λ o. option_map member_of o) (slice_get_read xs (length xs) m x refl less at)

rest_at : (all : List sets.Member) (m : ℕ) (y : sets.Member) → slice_get all m ≡ Some y → drop m all ≡ y ∷ drop (m + 1) all
rest_at all m y here = drop_more all m y (slice_get_within all m y here) ∙ ap (λ z. z ∷ drop (m + 1) all) (get_or_from_slice_get all m y y here)

pub members_step : (L : LinkedSet) (xs : List Member) (m : ℕ) (x : Member) → L.set.members ≡ map member_of xs → m < length xs → x ≡ get_or xs m x
    → members_fault L m (drop m L.set.members) ≡ (member_fault L m (member_of x) or_else members_fault L (m + 1) (drop (m + 1) L.set.members))
members_step L xs m x members less at = ap (members_fault L m) (rest_at L.set.members m (member_of x) (member_here L.set.members xs m x members less at))

pub duplicates_step : (all : List sets.Member) (xs : List Member) (m : ℕ) (x : Member) → all ≡ map member_of xs → m < length xs → x ≡ get_or xs m x
    → duplicates_from all m (drop m all) ≡ (first_fault (duplicate_of (take m all) m x.checked) x.checked.exports or_else duplicates_from all (m + 1) (drop (m + 1) all))
duplicates_step all xs m x members less at = ap (duplicates_from all m) (rest_at all m (member_of x) (member_here all xs m x members less at))
