-- How many functions a member has, by its number.
use Rattle.std.proofs.Common.{◌≡◌, ℕ, ◌≤◌, List, length, map, Some, None, slice_get, get_or, ap, sym, ◌∙◌}
use Rattle.std.specs.Option.{option_map}
use Rattle.std.proofs.lemmas.Option.{slice_get-map, slice_get_past, get_or_from_slice_get}
use Rattle.wasm_form.specs.declared.module.Module.{Module}
use Rattle.spec_loading.specs.spec_binary.Options.{◌>>=◌}
use Rattle.spec_loading.specs.spec_binary.IndexSpaces.{function_space}
use Rattle.spec_loading.specs.spec_binary.Indices.{function_type}
use Rattle.spec_loading.specs.spec_linking.Sets as sets
use Rattle.dyl_search.specs.declared.set.Member.{Member}
use Rattle.dyl_search.specs.Gathers.{member_of}
use Rattle.dyl_imports.specs.Weak.{function_counts}

pub counted_at : (members : List Member) (counts : List ℕ) (m d : ℕ) (member : Member) → counts ≡ function_counts (map member_of members) → slice_get members m ≡ Some member
    → get_or counts m d ≡ length (function_space member.checked)
counted_at members counts m d member counted at =
    let count = λ (x : sets.Member). length (function_space x.wasm) in
    let here : slice_get counts m ≡ Some (length (function_space member.checked)) =
    ap (λ cs. slice_get cs m) counted ∙ slice_get-map count (map member_of members) m
    ∙ ap (λ o. option_map count o) (slice_get-map member_of members m ∙ ap (λ o. option_map member_of o) at) in
    get_or_from_slice_get counts m (length (function_space member.checked)) d here

pub none_past : (wasm : Module) (f : ℕ) → length (function_space wasm) ≤ f → None ≡ function_type wasm f
none_past wasm f past = sym (ap (λ o. o >>= λ t. slice_get wasm.types t) (slice_get_past (function_space wasm) f past))
