-- The members of a set have no more imports and functions than their files have bytes.
use Rattle.std.proofs.Common.{◌≡◌, ℕ, suc, ◌+◌, ◌∙◌, List, length, map, slice_get, Some, ap, arith}
use Rattle.std.specs.Option.{option_map}
use Rattle.std.proofs.lemmas.Option.{slice_get-map}
use Rattle.wasm_form.specs.declared.module.Module.{Module}
use Rattle.spec_loading.specs.spec_linking.Sets as sets
use Rattle.spec_loading.specs.spec_linking.Gathering.{IsSet}
use Rattle.spec_loading.proofs.FewItems.{sum_few, sum_next}
use Rattle.dyl_search.specs.declared.set.Member.{Member}
use Rattle.dyl_search.specs.Gathers.{member_of}
use Rattle.dyl_imports.specs.Few.{AreFew}

abbrev size : Module → ℕ
size wasm = length wasm.imports + length wasm.funcs

pub members_few : (S : sets.ClosedSet) → IsSet S → (members : List Member) → S.members ≡ map member_of members → AreFew members
members_few S is members same m x found =
    let here : slice_get S.members m ≡ Some (member_of x) =
    ap (λ (ms : List sets.Member). slice_get ms m) same ∙ slice_get-map member_of members m ∙ ap (option_map member_of) found in
    let few = sum_few size 0 (λ wasm most few. (let all = few.all in omega arith)) S is (suc m) in
    let next = sum_next size S.members m (member_of x) here in
    omega arith
