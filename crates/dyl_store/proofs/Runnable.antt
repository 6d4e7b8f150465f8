-- The data segments of the members of a linked set are of bytes.
use Rattle.std.proofs.Common.{◌≡◌, ◌<◌, ◌≤◌, ◌+◌, ◌++◌, ℕ, List, [], ◌∷◌, length, map, get_or, take, sym, ap, ◌∙◌, subst}
use Rattle.std.specs.List.{All}
use Rattle.std.proofs.lemmas.List.{take_all, take_more}
use Rattle.std.proofs.lemmas.List.Elements.{All-nil, All-cons, All-head, All-tail, All-append}
use Rattle.spec_loading.specs.spec_linking.Sets.{Member}
use Rattle.spec_loading.specs.spec_linking.LinkedSets.{LinkedSet}
use Rattle.spec_loading.specs.spec_safety.SoundModules.{HoldsBytes}
use Rattle.spec_loading.specs.SoundSets.{HoldBytes}
use Rattle.dyl_link.specs.dyl_search.declared.set.Member as declared
use Rattle.dyl_link.specs.dyl_search.Gathers.{member_of}

-- ---- member by member

-- the data segments of a member are of bytes
abbrev pub IsOfBytes : declared.Member → Type 0
IsOfBytes m = HoldsBytes m.checked

pub next_bytes : (ms : List declared.Member) (i : ℕ) (m : declared.Member) → i < length ms → m ≡ get_or ms i m → IsOfBytes m → All IsOfBytes (take i ms) → All IsOfBytes (take (i + 1) ms)
next_bytes ms i m lt is here before =
    subst (All IsOfBytes) (sym (take_more ms i m lt ∙ ap (λ (x : declared.Member). take i ms ++ x ∷ []) (sym is)))
    (All-append IsOfBytes (take i ms) (m ∷ []) before (All-cons IsOfBytes m [] here (All-nil IsOfBytes)))

of_members : (ms : List declared.Member) → All IsOfBytes ms → All (λ (m : Member). HoldsBytes m.wasm) (map member_of ms)
of_members [] all = All-nil (λ (m : Member). HoldsBytes m.wasm)
of_members (m ∷ ms) all =
    All-cons (λ (x : Member). HoldsBytes x.wasm) (member_of m) (map member_of ms) (All-head IsOfBytes m ms all) (of_members ms (All-tail IsOfBytes m ms all))

pub all_bytes : (L : LinkedSet) (ms : List declared.Member) (i : ℕ) → map member_of ms ≡ L.set.members → length ms ≤ i → All IsOfBytes (take i ms) → HoldBytes L
all_bytes L ms i same all seen = subst (All (λ (m : Member). HoldsBytes m.wasm)) same (of_members ms (subst (All IsOfBytes) (take_all i ms all) seen))
