-- The table of the set is small: no region is in it, and few functions have slots.
use Rattle.std.proofs.Common.{◌≡◌, ℕ, ◌+◌, ◌*◌, ◌≤◌, max, Bool, true, false, cond, nat_le, List, [], ◌∷◌, ◌++◌, length, length-append, map, Option, Some, None, refl, sym, ap, ◌∙◌, subst, arith}
use Rattle.std.specs.Prelude.{slice_get, is_none}
use Rattle.std.specs.List.{All, list_any, filter, filter_map, flat_map, cons_option}
use Rattle.std.proofs.Math.Nat.{zero-max}
use Rattle.std.proofs.lemmas.Bool.Decides.{nat_tests}
use Rattle.std.proofs.lemmas.List.{length-map}
use Rattle.std.proofs.lemmas.List.Elements.{All-head, All-tail}
use Rattle.std.proofs.lemmas.List.Sums.{length-filter, count_by-le-length}
use Rattle.wasm_form.specs.declared.types.Limits.{Limits}
use Rattle.wasm_form.specs.declared.module.Export.{Export}
use Rattle.wasm_form.specs.declared.module.Module.{Module}
use Rattle.wasm_form.specs.declared.runtime.Ref.{Ref}
use Rattle.wasm_form.specs.declared.runtime.Ref.TheVariants.{Own}
use Rattle.spec_reading.specs.spec_binary.Options.{◌>>=◌}
use Rattle.spec_reading.proofs.of_spec_binary.Lists.{holds_at}
use Rattle.spec_linking.specs.Records.{DylinkRecord}
use Rattle.spec_linking.specs.Orders.{is_among}
use Rattle.spec_linking.specs.Sets.{Member}
use Rattle.spec_linking.specs.Plans.{Region, region_of, regions_of, end_of, greatest, least_of, most_table, table_limits, limits_in, minima, maxima, sizes_of, limit, regions_limit}
use Rattle.spec_linking.specs.Definitions.{defined_function}
use Rattle.spec_linking.specs.LinkedSets.{LinkedSet}
use Rattle.spec_linking.specs.Slots.{linked_plan, segment_slot, same_ref, with_function, functions_with, defined_functions, fresh_in, fresh_of, fresh_from, fresh_functions, outside_of_import, outside_from, outside_refs, all_loaders, is_host_ref, first_refs, outside_slots, fresh_slots, table_entries}
use Rattle.dyl_gen.specs.Generated.{is_main, next}
use Rattle.dyl_gen.proofs.Valid.{member_by}
use Rattle.dyl_gen.proofs.Members.{IsContent, of_member, of_further, OfSet, IsOfSet}

-- ---- shorter lists

filter_few : {X : Type 0} (p : X → Bool) (xs : List X) → length (filter p xs) ≤ length xs
filter_few p xs = (let few = count_by-le-length p xs in omega (arith, length-filter p xs))

picked_few : {X Y : Type 0} (f : X → Option Y) (xs : List X) → length (filter_map f xs) ≤ length xs
picked_few f [] = omega arith
picked_few f (x ∷ xs) = by (f x) (picked_few f xs)
  where
    by : (o : Option _) → length (filter_map f xs) ≤ length xs → length (cons_option o (filter_map f xs)) ≤ length (x ∷ xs)
    by None few = omega arith
    by (Some y) few = omega arith

first_few : (known rs : List Ref) → length (first_refs known rs) ≤ length rs
first_few known [] = omega arith
first_few known (r ∷ rs) = by (list_any (same_ref r) known) (first_few known rs) (first_few (known ++ r ∷ []) rs)
  where
    by : (b : Bool) → length (first_refs known rs) ≤ length rs → length (first_refs (known ++ r ∷ []) rs) ≤ length rs
        → length (cond b (first_refs known rs) (r ∷ first_refs (known ++ r ∷ []) rs)) ≤ length (r ∷ rs)
    by true one other = omega arith
    by false one other = omega arith

known_few : (known : List ℕ) (o : Option ℕ) → length (with_function known o) ≤ length known + 1
known_few known None = omega arith
known_few known (Some f) = by (is_among f known)
  where
    by : (b : Bool) → length (cond b known (known ++ f ∷ [])) ≤ length known + 1
    by true = omega arith
    by false = omega (arith, length-append known (f ∷ []))

functions_few : (m : Module) (known : List ℕ) (es : List Export) → length (functions_with m known es) ≤ length known + length es
functions_few m known [] = omega arith
functions_few m known (e ∷ es) =
    let one = known_few known (defined_function m e) in
    let rest = functions_few m (with_function known (defined_function m e)) es in
    omega arith

-- ---- the modules of the set

record IsLittle (wasm : Module) : Type 0 where
  imports : length wasm.imports ≤ 7
  exports : length wasm.exports ≤ 5

little_by : (n k x : ℕ) (note : List ℕ) (b : Bool) → IsLittle (member_by b n k x note)
little_by n k x note true = record { imports = omega arith; exports = omega arith }
little_by n k x note false = record { imports = omega arith; exports = omega arith }

little : {n : ℕ} {path : List ℕ} {wasm : Module} {d : DylinkRecord} → IsContent n path wasm d → IsLittle wasm
little {n} (of_member k lt at note is e) = subst IsLittle (sym is) (little_by n k (next n k) note (is_main k))
little (of_further at note is e) = subst IsLittle (sym is) (record { imports = omega arith; exports = omega arith })

abbrev from_zero : Limits
from_zero = record { min = 0; max = None }

-- some lists of limits ask for nothing
record AskNothing (ls : List Limits) : Type 0 where
  least : greatest (minima ls) ≡ 0
  most : maxima ls ≡ []

nothing_asked : AskNothing []
nothing_asked = record { least = refl; most = refl }

one_more : (ls : List Limits) → AskNothing ls → AskNothing (from_zero ∷ ls)
one_more ls ask = record { least = zero-max (greatest (minima ls)) ∙ ask.least; most = ask.most }

asks_by : (n k x : ℕ) (note : List ℕ) (ls : List Limits) → AskNothing ls → (b : Bool) → AskNothing (flat_map table_limits (member_by b n k x note).imports ++ ls)
asks_by n k x note ls ask true = one_more ls ask
asks_by n k x note ls ask false = one_more ls ask

asks : {n : ℕ} {path : List ℕ} {wasm : Module} {d : DylinkRecord} (ls : List Limits) → AskNothing ls → IsContent n path wasm d → AskNothing (flat_map table_limits wasm.imports ++ ls)
asks {n} ls ask (of_member k lt at note is e) =
    subst (λ (x : Module). AskNothing (flat_map table_limits x.imports ++ ls)) (sym is) (asks_by n k (next n k) note ls ask (is_main k))
asks ls ask (of_further at note is e) = subst (λ (x : Module). AskNothing (flat_map table_limits x.imports ++ ls)) (sym is) ask

all_ask : (n : ℕ) (members : List Member) → All (OfSet n) members → AskNothing (limits_in table_limits members)
all_ask n [] all = nothing_asked
all_ask n (m ∷ ms) all = asks (limits_in table_limits ms) (all_ask n ms (All-tail (OfSet n) m ms all)) (All-head (OfSet n) m ms all).content

abbrev table_end : List Member → ℕ
table_end members = end_of (λ (r : Region). r.table_size) (λ (r : Region). r.table_align) 1 (regions_of members)

-- one region more
abbrev end_with : DylinkRecord → List Member → ℕ
end_with d members = end_of (λ (r : Region). r.table_size) (λ (r : Region). r.table_align) 1 (region_of d ∷ regions_of members)

no_region : {n : ℕ} {path : List ℕ} {wasm : Module} {d : DylinkRecord} (members : List Member) → table_end members ≡ 1 → IsContent n path wasm d → end_with d members ≡ 1
no_region members end (of_member k lt at note is e) = ap (λ (d : DylinkRecord). end_with d members) e ∙ end
no_region members end (of_further at note is e) = ap (λ (d : DylinkRecord). end_with d members) e ∙ end

no_regions : (n : ℕ) (members : List Member) → All (OfSet n) members → table_end members ≡ 1
no_regions n [] all = refl
no_regions n (m ∷ ms) all = no_region ms (no_regions n ms (All-tail (OfSet n) m ms all)) (All-head (OfSet n) m ms all).content

-- ---- slots

module _ (n : ℕ) (L : LinkedSet) (is : IsOfSet n L.set) where
  little_at : (i : ℕ) (m : Member) → slice_get L.set.members i ≡ Some m → IsLittle m.wasm
  little_at i m e = little (holds_at (OfSet n) L.set.members i m is.each e).content

  fresh_few : (i : ℕ) → length (fresh_of L i) ≤ 5
  fresh_few i = by (slice_get L.set.members i) refl
    where
      by : (o : Option Member) → slice_get L.set.members i ≡ o → length (fresh_of L i) ≤ 5
      by None e = (let none = ap (λ (o : Option Member). length (fresh_in L i (o >>= λ m. Some m.wasm))) e in omega arith)
      by (Some m) e =
          let here = ap (λ (o : Option Member). length (fresh_in L i (o >>= λ x. Some x.wasm))) e in
          let filtered = filter_few (λ f. is_none (segment_slot L i f)) (defined_functions m.wasm) in
          let functions = functions_few m.wasm [] m.wasm.exports in
          let exports = (little_at i m e).exports in
          omega arith

  all_fresh_few : (i : ℕ) (ms : List Member) → length (fresh_from L i ms) ≤ 5 * length ms
  all_fresh_few i [] = omega arith
  all_fresh_few i (m ∷ ms) =
      let here = fresh_few i in
      let rest = all_fresh_few (i + 1) ms in
      omega (arith, length-append (map (Own i) (fresh_of L i)) (fresh_from L (i + 1) ms), length-map (fresh_of L i) (Own i))

  all_outside_few : (i : ℕ) (ms : List Member) → All (OfSet n) ms → length (outside_from L i ms) ≤ 7 * length ms
  all_outside_few i [] all = omega arith
  all_outside_few i (m ∷ ms) all =
      let picked = picked_few (outside_of_import L i) m.wasm.imports in
      let imports = (little (All-head (OfSet n) m ms all).content).imports in
      let rest = all_outside_few (i + 1) ms (All-tail (OfSet n) m ms all) in
      omega (arith, length-append (filter_map (outside_of_import L i) m.wasm.imports) (outside_from L (i + 1) ms))

  slots_few : length (fresh_slots L) ≤ 4000
  slots_few =
      let own = all_fresh_few 0 L.set.members in
      let outside = all_outside_few 0 L.set.members is.each in
      let loaders = filter_few (λ r. list_any (same_ref r) (outside_refs L)) all_loaders in
      let hosts = filter_few is_host_ref (outside_refs L) in
      let firsts = first_few [] (filter is_host_ref (outside_refs L)) in
      let count = is.shape.few in
      omega (
        arith,
        length-append (fresh_functions L) (outside_slots L),
        length-append (filter (λ r. list_any (same_ref r) (outside_refs L)) all_loaders) (first_refs [] (filter is_host_ref (outside_refs L))),
      )

  -- ---- limits

  not_above : {F : Type 0} (fault : ℕ → ℕ → F) (amount most : ℕ) → amount ≤ most → limit fault amount most ≡ None
  not_above fault amount most few = (let so : nat_le amount most ≡ true = grind (arith, nat_tests, few) in ap (λ b. cond b None (Some (fault amount most))) so)

  asked : AskNothing (limits_in table_limits L.set.members)
  asked = all_ask n L.set.members is.each

  least : (sizes_of L.set L.options).table_min ≡ 0
  least = asked.least

  most : (sizes_of L.set L.options).table_max ≡ most_table
  most = ap (least_of most_table) asked.most

  end : (linked_plan L).table_end ≡ 1
  end = no_regions n L.set.members is.each

  pub regions_fit : {F : Type 0} (fault : ℕ → ℕ → F) → regions_limit fault (linked_plan L) (sizes_of L.set L.options) ≡ None
  regions_fit fault = not_above fault (max (linked_plan L).table_end (sizes_of L.set L.options).table_min) (sizes_of L.set L.options).table_max (omega (arith, least, most, end))

  pub entries_fit : {F : Type 0} (fault : ℕ → ℕ → F) → limit fault (table_entries L) (sizes_of L.set L.options).table_max ≡ None
  entries_fit fault = (let few = slots_few in not_above fault (table_entries L) (sizes_of L.set L.options).table_max (omega (arith, least, most, end)))
