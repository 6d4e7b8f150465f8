-- Placings as they are applied one after the other.
use Rattle.std.proofs.Common.{◌≡◌, ℕ, zero, suc, ◌+◌, ◌-◌, ◌<◌, Bool, true, false, List, [], ◌∷◌, ◌++◌, length, get_or, take, drop, map, refl, ap, sym, ◌∙◌, cond, Some, None, Option, nat_eq, arith}
use Rattle.std.specs.Prelude.{slice_get, unwrap_or, nat_le, nat_lt, ◌&&◌}
use Rattle.std.specs.List.{find, position_from, range_with_len}
use Rattle.std.proofs.lemmas.Bool.Decides.{nat_tests}
use Rattle.std.proofs.Common.{add-one}
use Rattle.std.proofs.Math.Seq.{take-suc}
use Rattle.std.proofs.lemmas.List.{map-append, take_all, drop_all, append-nil}
use Rattle.dyl_slots.specs.declared.regions.Placing.{Placing}
use Rattle.wasm_form.specs.declared.runtime.Ref.{Ref}
use Rattle.spec_loading.specs.spec_linking.Slots as slots
use Rattle.spec_loading.specs.spec_linking.Slots.{applied, all_applied, is_ref, index_of}
use Rattle.dyl_slots.specs.Regions.{IsRegion, applied_first, written, placing_value}

same_read : (xs : List (Option Ref)) (k : ℕ) → get_or xs k None ≡ unwrap_or (slice_get xs k) None
same_read [] k = refl
same_read (x ∷ xs) zero = refl
same_read (x ∷ xs) (suc k) = same_read xs k

-- none of the first zero references
none_first : (table : ℕ → Option Ref) (p : slots.Placing) (i : ℕ) → table i ≡ applied_first 0 table p i
none_first table p i = by (nat_le p.0 i) (nat_lt i (p.0 + 0)) refl refl
  where
    by : (a b : Bool) → nat_le p.0 i ≡ a → nat_lt i (p.0 + 0) ≡ b → table i ≡ applied_first 0 table p i
    by false b pa pb = rw pa refl
    by true false pa pb = rw (pa, pb) refl
    by true true pa pb = absurd (grind (arith, nat_tests))

pub nothing_applied : (region : List (Option Ref)) (base : ℕ) (table : ℕ → Option Ref) (p : slots.Placing) → IsRegion region base table → IsRegion region base (applied_first 0 table p)
nothing_applied region base table p is = λ k inside. is k inside ∙ none_first table p (base + k)

-- one more reference
pub one_more : (table : ℕ → Option Ref) (p : slots.Placing) (n i : ℕ) → written (get_or p.1 n None) (p.0 + n) i (applied_first n table p i) ≡ applied_first (n + 1) table p i
one_more table p n i = by (nat_eq i (p.0 + n)) (nat_le p.0 i) (nat_lt i (p.0 + n)) (nat_lt i (p.0 + (n + 1))) refl refl refl refl
  where
    by : (a b c d : Bool) → nat_eq i (p.0 + n) ≡ a → nat_le p.0 i ≡ b → nat_lt i (p.0 + n) ≡ c → nat_lt i (p.0 + (n + 1)) ≡ d
        → written (get_or p.1 n None) (p.0 + n) i (applied_first n table p i) ≡ applied_first (n + 1) table p i
    by true true c true pa pb pc pd = let e : i - p.0 ≡ n = grind (arith, nat_tests) in rw (pa, pb, pd, e) refl
    by true false c d pa pb pc pd = absurd (grind (arith, nat_tests))
    by true true c false pa pb pc pd = absurd (grind (arith, nat_tests))
    by false false c d pa pb pc pd = rw (pa, pb) refl
    by false true true true pa pb pc pd = rw (pa, pb, pc, pd) refl
    by false true false false pa pb pc pd = rw (pa, pb, pc, pd) refl
    by false true true false pa pb pc pd = absurd (grind (arith, nat_tests))
    by false true false true pa pb pc pd = absurd (grind (arith, nat_tests))

pub all_of_one : (table : ℕ → Option Ref) (p : slots.Placing) (i : ℕ) → applied_first (length p.1) table p i ≡ applied table p i
all_of_one table p i = ap (λ x. cond (nat_le p.0 i && nat_lt i (p.0 + length p.1)) x (table i)) (same_read p.1 (i - p.0))

-- one more placing
pub applied_more : (table : ℕ → Option Ref) (ps : List slots.Placing) (p : slots.Placing) → all_applied table (ps ++ p ∷ []) ≡ applied (all_applied table ps) p
applied_more table [] p = refl
applied_more table (q ∷ ps) p = applied_more (applied table q) ps p

-- the first index in the table is the first place in the region
pub index_in_region : (r : Ref) (region : List (Option Ref)) (base : ℕ) (table : ℕ → Option Ref) → IsRegion region base table → index_of r table base (length region) ≡ position_from (is_ref r) base region
index_in_region r [] base table is = refl
index_in_region r (x ∷ xs) base table is =
    let this : x ≡ table base = is 0 (omega arith) ∙ ap table (omega arith) in
    let later : IsRegion xs (base + 1) table = λ k inside. is (suc k) (omega arith) ∙ ap table (omega arith) in
    ap (λ y. cond (is_ref r y) (Some base) (find (λ i. is_ref r (table i)) (range_with_len (base + 1) (length xs)))) (sym this)
    ∙ ap (λ y. cond (is_ref r x) (Some base) y) (index_in_region r xs (base + 1) table later)

abbrev at_index : (ℕ → Option Ref) → ℕ → Option Ref
at_index f i = f i

pub placings_more : (table : ℕ → Option Ref) (ps : List Placing) (n : ℕ) (p : Placing) (i : ℕ) → n < length ps → p ≡ get_or ps n p
    → applied (all_applied table (map placing_value (take n ps))) (placing_value p) i ≡ all_applied table (map placing_value (take (n + 1) ps)) i
placings_more table ps n p i inside is =
    let one : take (n + 1) ps ≡ take n ps ++ p ∷ [] = rw add-one (take-suc ps n p inside) ∙ ap (λ x. take n ps ++ x ∷ []) (sym is) in
    ap (λ f. f i) (sym (applied_more table (map placing_value (take n ps)) (placing_value p)))
    ∙ ap (λ qs. all_applied table qs i) (sym (ap (map placing_value) one ∙ map-append placing_value (take n ps) (p ∷ [])))

-- what a part of a vector that is the whole of it leaves there
pub whole : {A : Type 0} (n : ℕ) (new old : List A) → length new ≡ n → length old ≡ n → take n (new ++ drop (length new) old) ≡ new
whole n new old e f =
    ap (λ r. take n (new ++ r)) (drop_all (length new) old (omega arith)) ∙ ap (take n) (append-nil new) ∙ take_all n new (omega arith)
