-- Fresh slots, member by member.
use Rattle.std.proofs.Common.{◌≡◌, ◌<◌, ℕ, suc, ◌+◌, List, [], ◌∷◌, ◌++◌, length, map, drop, slice_get, Some, refl, sym, ap, ap₂, ◌∙◌, arith, length-append}
use Rattle.std.proofs.lemmas.List.{length-map}
use Rattle.wasm_form.specs.declared.module.Module.{Module}
use Rattle.wasm_form.specs.declared.runtime.Ref.TheVariants.{Own}
use Rattle.spec_loading.specs.spec_linking.Sets.{Member}
use Rattle.spec_loading.specs.spec_linking.LinkedSets.{LinkedSet}
use Rattle.spec_loading.specs.spec_linking.Slots.{fresh_of, fresh_from, fresh_functions, outside_slots, linked_plan}
use Rattle.spec_loading.specs.Members.{from_members}
use Rattle.spec_loading.specs.spec_linking.Links.{Links}
use Rattle.spec_loading.proofs.SlotWords.{table_within}
use Rattle.merge_whole.proofs.BuiltBodies.{inside, drop_next}

-- the fresh slots of a member come before those of the members behind it
pub fresh_next : (L : LinkedSet) (m : ℕ) → m < length L.set.members → (next count all : ℕ) → count ≡ length (fresh_of L m)
    → next + length (fresh_from L m (drop m L.set.members)) ≡ all → next + count + length (fresh_from L (m + 1) (drop (m + 1) L.set.members)) ≡ all
fresh_next L m lt next count all is held =
    let found = inside L.set.members m lt in
    let rest = ap (λ (l : List Member). length (fresh_from L m l)) (drop_next L.set.members m found.0 found.1) in
    let mapped = length-map (fresh_of L m) (Own m) in
    let many = length-append (map (Own m) (fresh_of L m)) (fresh_from L (m + 1) (drop (m + 1) L.set.members)) in
    omega arith

-- what each of some members has may be told in another way
pub from_same : {X : Type 0} (f g : ℕ → Module → List X) (k : ℕ) (xs : List Member)
    → ((j : ℕ) (y : Member) → slice_get xs j ≡ Some y → f (k + j) y.wasm ≡ g (k + j) y.wasm) → from_members f k xs ≡ from_members g k xs
from_same f g k [] same = refl
from_same f g k (x ∷ xs) same =
    let first : k + 0 ≡ k = omega arith in
    let here : f k x.wasm ≡ g k x.wasm =
    ap (λ i. f i x.wasm) (sym first) ∙ same 0 x refl ∙ ap (λ i. g i x.wasm) first in
    ap₂ (λ a b. a ++ b) here (from_same f g (k + 1) xs
    (λ j y at. (let on : k + 1 + j ≡ k + suc j = omega arith in ap (λ i. f i y.wasm) on ∙ same (suc j) y at ∙ ap (λ i. g i y.wasm) (sym on))))

pub fresh_few : (L : LinkedSet) → Links L → (linked_plan L).table_end + length (fresh_functions L) < 4294967296
fresh_few L links =
    let both = length-append (fresh_functions L) (outside_slots L) in
    let entries = table_within L links in
    omega arith
