-- Members one after the other are those of the set.
use Rattle.std.proofs.Common.{◌≡◌, ◌≤◌, ℕ, List, length, map, ◌+◌, ◌++◌, ◌∷◌, ◌<◌, get_or, drop, ap, ap₂, sym, ◌∙◌, arith, append_assoc}
use Rattle.std.proofs.lemmas.List.{at_drop_more}
use Rattle.wasm_form.specs.declared.module.Module.{Module}
use Rattle.spec_loading.specs.spec_linking.Gathering.{IsSet}
use Rattle.spec_loading.specs.spec_linking.LinkedSets.{LinkedSet}
use Rattle.spec_loading.specs.Members.{from_members}
use Rattle.dyl_link.specs.dyl_search.declared.set.Member.{Member}
use Rattle.dyl_link.specs.dyl_search.Gathers.{member_of}
use Rattle.dyl_link.proofs.Indices.{members_count}
use Rattle.merge_whole.specs.Built.{joined}

pub members_are : {X : Type 0} (of : ℕ → Module → List X) (L : LinkedSet) (xs : List Member) → map member_of xs ≡ L.set.members
    → joined of 0 xs ≡ from_members of 0 L.set.members
members_are of L xs same = ap (from_members of 0) same

pub few_members : (L : LinkedSet) → IsSet L.set → (xs : List Member) → map member_of xs ≡ L.set.members → length xs ≤ 256
few_members L shape xs same = (let few = shape.few in let count = members_count L xs same in omega arith)

-- what a member has comes before what those behind it have
pub member_next : {X : Type 0} (of : ℕ → Module → List X) (ms : List Member) (j : ℕ) (x : Member) → j < length ms
    → x ≡ get_or ms j x → (m next : ℕ) → next ≡ m + 1 → (to more all : List X) (wasm : Module) → wasm ≡ (member_of x).wasm
    → more ≡ to ++ of m wasm → to ++ from_members of m (map member_of (drop j ms)) ≡ all
    → more ++ from_members of next (map member_of (drop (j + 1) ms)) ≡ all
member_next {X} of ms j x lt item m next step to more all wasm same put before =
    let rest = drop (j + 1) ms in
    let from : List Member → List X = λ l. to ++ from_members of m (map member_of l) in
    ap₂ (λ (a b : List X). a ++ b) (put ∙ ap (λ (w : Module). to ++ of m w) same) (ap (λ i. from_members of i (map member_of rest)) step)
    ∙ append_assoc to (of m (member_of x).wasm) (from_members of (m + 1) (map member_of rest))
    ∙ ap (λ (y : Member). from (y ∷ rest)) item
    ∙ sym (at_drop_more from ms j x lt)
    ∙ before
