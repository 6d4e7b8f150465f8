-- The least size and the greatest, by the limits that imports declare.
use Rattle.std.proofs.Common.{◌≡◌, ℕ, ◌+◌, ◌<◌, ◌≤◌, map, drop, length, get_or, max, min, List, [], ◌∷◌, ◌++◌, Option, Some, None, refl, ap, sym, ◌∙◌, arith}
use Rattle.std.specs.List.{cons_option, flat_map}
use Rattle.std.proofs.lemmas.List.{drop_more}
use Rattle.wasm_form.specs.declared.module.Import.{Import}
use Rattle.wasm_form.specs.declared.types.Limits.{Limits}
use Rattle.spec_loading.specs.spec_linking.Plans.{greatest, least_of, minima, maxima, limits_in}
use Rattle.dyl_slots.specs.dyl_search.declared.set.Member.{Member}
use Rattle.dyl_slots.specs.dyl_search.Gathers.{member_of}
use Rattle.dyl_link.specs.declared.sizes.Shared.{Shared}
use Rattle.dyl_link.specs.declared.sizes.Bounds.{Bounds}
use Rattle.dyl_link.specs.Bounds.{limits_as, least, with_limits, all_limits}

pub all_limits-append : (b : Bounds) (ls ks : List Limits) → all_limits b (ls ++ ks) ≡ all_limits (all_limits b ls) ks
all_limits-append b [] ks = refl
all_limits-append b (l ∷ ls) ks = all_limits-append (with_limits b l) ls ks

least_step : (bound n : ℕ) (ns : List ℕ) → least_of (min bound n) ns ≡ min n (least_of bound ns)
least_step bound n [] = omega arith
least_step bound n (k ∷ ns) = let rest = least_step bound n ns in omega (arith, rest)

pub least_within : (bound : ℕ) (ns : List ℕ) → least_of bound ns ≤ bound
least_within bound [] = omega arith
least_within bound (n ∷ ns) = let rest = least_within bound ns in omega (arith, rest)

one_maximum : (bound : ℕ) (o : Option ℕ) (ns : List ℕ) → least_of (least bound o) ns ≡ least_of bound (cons_option o ns)
one_maximum bound None ns = refl
one_maximum bound (Some n) ns = least_step bound n ns

greatest_step : (a n x : ℕ) → max (max a n) x ≡ max a (max n x)
greatest_step a n x = omega arith

no_minimum : (a : ℕ) → a ≡ max a 0
no_minimum a = omega arith

pub bounds_exact : (b : Bounds) (ls : List Limits) → all_limits b ls ≡ record { min = max b.min (greatest (minima ls)); max = least_of b.max (maxima ls) }
bounds_exact b [] = ap (λ n. record { min = n; max = b.max }) (no_minimum b.min)
bounds_exact b (l ∷ ls) =
    bounds_exact (with_limits b l) ls
    ∙ (λ i. record { min = greatest_step b.min l.min (greatest (minima ls)) i; max = one_maximum b.max l.max (maxima ls) i })

no_least : (n : ℕ) → max 0 n ≡ n
no_least n = omega arith

-- from nothing on
pub bounds_from : (most : ℕ) (ls : List Limits) → all_limits (record { min = 0; max = most }) ls ≡ record { min = greatest (minima ls); max = least_of most (maxima ls) }
bounds_from most ls = bounds_exact (record { min = 0; max = most }) ls ∙ ap (λ n. record { min = n; max = least_of most (maxima ls) }) (no_least (greatest (minima ls)))

-- the limits of one member more
pub bounds_step : (shared : Shared) (xs : List Member) (i : ℕ) (x : Member) (b new all : Bounds) (imports : List Import) → i < length xs → x ≡ get_or xs i x → imports ≡ x.checked.imports
    → all_limits b (limits_in (limits_as shared) (map member_of (drop i xs))) ≡ all → new ≡ all_limits b (flat_map (limits_as shared) imports)
    → all_limits new (limits_in (limits_as shared) (map member_of (drop (i + 1) xs))) ≡ all
bounds_step shared xs i x b new all imports less at same so_far added =
    let rest = limits_in (limits_as shared) (map member_of (drop (i + 1) xs)) in
    ap (λ k. all_limits k rest) (added ∙ ap (λ is. all_limits b (flat_map (limits_as shared) is)) same)
    ∙ sym (all_limits-append b (flat_map (limits_as shared) x.checked.imports) rest)
    ∙ ap (λ r. all_limits b (limits_in (limits_as shared) (map member_of r))) (sym (drop_more xs i x less ∙ ap (λ y. y ∷ drop (i + 1) xs) (sym at)))
    ∙ so_far
