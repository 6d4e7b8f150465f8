-- The least of a bound and of what some limits allow, and others.
use Rattle.std.proofs.Common.{◌≡◌, ℕ, List, [], ◌∷◌, ◌++◌, Option, Some, None, ◌+◌, ◌<◌, length, map, drop, get_or, refl, sym, ap, ap₂, ◌∙◌, min, add-one, drop-cons, arith}
use Rattle.std.specs.List.{cons_option, flat_map}
use Rattle.wasm_form.specs.declared.types.Limits.{Limits}
use Rattle.wasm_form.specs.declared.module.Import.{Import}
use Rattle.spec_loading.specs.spec_linking.Plans.{least_of, maxima, table_limits, limits_in}
use Rattle.dyl_imports.specs.dyl_search.declared.set.Member as code
use Rattle.dyl_imports.specs.dyl_search.Gathers.{member_of}

least_more : (bound n : ℕ) (ns : List ℕ) → least_of (min n bound) ns ≡ min n (least_of bound ns)
least_more bound n [] = refl
least_more bound n (k ∷ ns) = ap (min k) (least_more bound n ns) ∙ omega arith

pub least_append : (bound : ℕ) (xs ys : List Limits) → least_of (least_of bound (maxima xs)) (maxima ys) ≡ least_of bound (maxima (xs ++ ys))
least_append bound [] ys = refl
least_append bound (x ∷ xs) ys = by x.max (least_append bound xs ys)
  where
    by : (o : Option ℕ) → least_of (least_of bound (maxima xs)) (maxima ys) ≡ least_of bound (maxima (xs ++ ys))
        → least_of (least_of bound (cons_option o (maxima xs))) (maxima ys) ≡ least_of bound (cons_option o (maxima (xs ++ ys)))
    by None rest = rest
    by (Some n) rest = least_more (least_of bound (maxima xs)) n (maxima ys) ∙ ap (min n) rest

drop_read : {A : Type 0} (xs : List A) (i : ℕ) (x : A) → i < length xs → x ≡ get_or xs i x → drop i xs ≡ x ∷ drop (i + 1) xs
drop_read xs i x inside is = drop-cons xs i x inside ∙ ap₂ (λ y n. y ∷ drop n xs) (sym is) (sym (add-one i))

pub next_import : (bound : ℕ) (xs : List Import) (i : ℕ) (x : Import) → i < length xs → x ≡ get_or xs i x
    → least_of (least_of bound (maxima (table_limits x))) (maxima (flat_map table_limits (drop (i + 1) xs))) ≡ least_of bound (maxima (flat_map table_limits (drop i xs)))
next_import bound xs i x inside is =
    least_append bound (table_limits x) (flat_map table_limits (drop (i + 1) xs)) ∙ ap (λ ys. least_of bound (maxima (flat_map table_limits ys))) (sym (drop_read xs i x inside is))

pub next_member : (bound : ℕ) (xs : List code.Member) (i : ℕ) (x : code.Member) → i < length xs → x ≡ get_or xs i x
    → least_of (least_of bound (maxima (flat_map table_limits x.checked.imports))) (maxima (limits_in table_limits (map member_of (drop (i + 1) xs)))) ≡ least_of bound (maxima (limits_in table_limits (map member_of (drop i xs))))
next_member bound xs i x inside is =
    least_append bound (flat_map table_limits x.checked.imports) (limits_in table_limits (map member_of (drop (i + 1) xs)))
    ∙ ap (λ ys. least_of bound (maxima (limits_in table_limits (map member_of ys)))) (sym (drop_read xs i x inside is))
