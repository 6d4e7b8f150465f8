-- The functions outside the members that have slots: those of the loader, and then those of the host.
use Rattle.std.proofs.Common.{◌≡◌, ℕ, ◌+◌, Bool, true, false, List, [], ◌∷◌, ◌++◌, length, map, refl, ap, ap₂, sym, ◌∙◌, cond, None, nat_eq, arith, append_assoc, append-nil, if◌then◌else◌}
use Rattle.std.specs.Prelude.{◌||◌}
use Rattle.std.specs.List.{filter, list_any, position_from}
use Rattle.std.proofs.lemmas.Bool.Decides.{nat_tests}
use Rattle.std.proofs.lemmas.List.{map-append, length-map}
use Rattle.wasm_form.specs.declared.runtime.LoaderCall.{LoaderCall}
use Rattle.wasm_form.specs.declared.runtime.Ref.{Ref}
use Rattle.wasm_form.specs.declared.runtime.Ref.TheVariants.{Own, Loader, Host, Stub}
use Rattle.spec_loading.specs.spec_linking.Orders.{is_among, with_numbers}
use Rattle.spec_loading.specs.spec_linking.Definitions.{or_other}
use Rattle.spec_loading.specs.spec_linking.Slots.{same_call, same_ref, all_loaders, is_host_ref, first_refs}
use Rattle.dyl_slots.specs.Outside.{all_calls, calls_in, host_numbers, hosts_in, outside_in}
use Rattle.dyl_slots.proofs.Positions.{or_none, position_append, position_map, position_nowhere}

filter_map_same : {X Y : Type 0} (t : Y → Bool) (f : X → Y) (xs : List X) → filter t (map f xs) ≡ map f (filter (λ x. t (f x)) xs)
filter_map_same t f [] = refl
filter_map_same {X} {Y} t f (x ∷ xs) = by (t (f x)) (filter_map_same t f xs)
  where
    by : (b : Bool) → filter t (map f xs) ≡ map f (filter (λ x. t (f x)) xs)
        → cond b (f x ∷ filter t (map f xs)) (filter t (map f xs)) ≡ map f (cond b (x ∷ filter (λ x. t (f x)) xs) (filter (λ x. t (f x)) xs))
    by true rest = ap (λ r. f x ∷ r) rest
    by false rest = rest

same_either_way : (n k : ℕ) → nat_eq n k ≡ nat_eq k n
same_either_way n k = by (nat_eq n k) (nat_eq k n) refl refl
  where
    by : (a b : Bool) → nat_eq n k ≡ a → nat_eq k n ≡ b → a ≡ b
    by true true p q = refl
    by false false p q = refl
    by true false p q = absurd (grind (arith, nat_tests))
    by false true p q = absurd (grind (arith, nat_tests))

-- a host function is known where its number is
host_known : (n : ℕ) (known : List ℕ) → list_any (same_ref (Host n)) (map Host known) ≡ is_among n known
host_known n [] = refl
host_known n (k ∷ known) = ap₂ (λ a b. a || b) (same_either_way n k) (host_known n known)

numbers_of_hosts : (rs : List Ref) → filter is_host_ref rs ≡ map Host (host_numbers rs)
numbers_of_hosts [] = refl
numbers_of_hosts (Own m f ∷ rs) = numbers_of_hosts rs
numbers_of_hosts (Loader call ∷ rs) = numbers_of_hosts rs
numbers_of_hosts (Host n ∷ rs) = ap (λ r. Host n ∷ r) (numbers_of_hosts rs)
numbers_of_hosts (Stub m f ∷ rs) = numbers_of_hosts rs

first_hosts : (known ns : List ℕ) → map Host known ++ first_refs (map Host known) (map Host ns) ≡ map Host (with_numbers known ns)
first_hosts known [] = append-nil (map Host known)
first_hosts known (n ∷ ns) = ap (λ b. map Host known ++ (if b then first_refs (map Host known) (map Host ns) else Host n ∷ first_refs (map Host known ++ Host n ∷ []) (map Host ns))) (host_known n known)
    ∙ by (is_among n known) (first_hosts known ns) (first_hosts (known ++ n ∷ []) ns)
  where
    more : map Host (known ++ n ∷ []) ≡ map Host known ++ Host n ∷ []
    more = map-append Host known (n ∷ [])

    by : (b : Bool) → map Host known ++ first_refs (map Host known) (map Host ns) ≡ map Host (with_numbers known ns)
        → map Host (known ++ n ∷ []) ++ first_refs (map Host (known ++ n ∷ [])) (map Host ns) ≡ map Host (with_numbers (known ++ n ∷ []) ns)
        → map Host known ++ (if b then first_refs (map Host known) (map Host ns) else Host n ∷ first_refs (map Host known ++ Host n ∷ []) (map Host ns))
        ≡ map Host (with_numbers (if b then known else (known ++ n ∷ [])) ns)
    by true same later = same
    by false same later =
        sym (append_assoc (map Host known) (Host n ∷ []) (first_refs (map Host known ++ Host n ∷ []) (map Host ns)))
        ∙ ap (λ (k : List Ref). k ++ first_refs k (map Host ns)) (sym more)
        ∙ later

pub outside_same : (rs : List Ref) → filter (λ r. list_any (same_ref r) rs) all_loaders ++ first_refs [] (filter is_host_ref rs) ≡ outside_in rs
outside_same rs = ap₂ (λ a b. a ++ b) (filter_map_same (λ r. list_any (same_ref r) rs) Loader all_calls) (ap (first_refs []) (numbers_of_hosts rs) ∙ first_hosts [] (host_numbers rs))

-- ---- places

pub own_nowhere : (m f i : ℕ) (rs : List Ref) → position_from (same_ref (Own m f)) i (outside_in rs) ≡ None
own_nowhere m f i rs =
    position_append (same_ref (Own m f)) i (map Loader (calls_in rs)) (map Host (hosts_in rs))
    ∙ ap₂ or_other (position_map (same_ref (Own m f)) Loader i (calls_in rs) ∙ position_nowhere i (calls_in rs))
    (position_map (same_ref (Own m f)) Host (i + length (map Loader (calls_in rs))) (hosts_in rs) ∙ position_nowhere (i + length (map Loader (calls_in rs))) (hosts_in rs))

pub loader_place : (call : LoaderCall) (i : ℕ) (rs : List Ref) → position_from (same_ref (Loader call)) i (outside_in rs) ≡ position_from (same_call call) i (calls_in rs)
loader_place call i rs =
    position_append (same_ref (Loader call)) i (map Loader (calls_in rs)) (map Host (hosts_in rs))
    ∙ ap₂ or_other (position_map (same_ref (Loader call)) Loader i (calls_in rs))
    (position_map (same_ref (Loader call)) Host (i + length (map Loader (calls_in rs))) (hosts_in rs) ∙ position_nowhere (i + length (map Loader (calls_in rs))) (hosts_in rs))
    ∙ or_none (position_from (same_call call) i (calls_in rs))

pub host_place : (n i : ℕ) (rs : List Ref) → position_from (same_ref (Host n)) i (outside_in rs) ≡ position_from (nat_eq n) (i + length (calls_in rs)) (hosts_in rs)
host_place n i rs =
    position_append (same_ref (Host n)) i (map Loader (calls_in rs)) (map Host (hosts_in rs))
    ∙ ap₂ or_other (position_map (same_ref (Host n)) Loader i (calls_in rs) ∙ position_nowhere i (calls_in rs))
    (position_map (same_ref (Host n)) Host (i + length (map Loader (calls_in rs))) (hosts_in rs))
    ∙ ap (λ k. position_from (nat_eq n) (i + k) (hosts_in rs)) (length-map (calls_in rs) Loader)
