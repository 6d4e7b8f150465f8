-- Units over a store are stored: a change is seen at its address, and nowhere else.
use Rattle.std.proofs.Common.{◌≡◌, ◌≢◌, ℕ, zero, suc, List, [], ◌∷◌, Option, Some, None, refl, ap, slice_get, slice_set}
use Rattle.spec_execution.specs.spec_binary.Options.{◌>>=◌}
use Rattle.spec_execution.specs.Instances.{Instances, set_at, store_view}
use Rattle.spec_safety.specs.StoredUnits.{IsReplaced, AreStored}
use Rattle.spec_safety.proofs.KnownStacks.{some_same}

set_there : {A : Type 0} (xs : List A) (i : ℕ) (old x : A) → slice_get xs i ≡ Some old → slice_get (slice_set xs i x) i ≡ Some x
set_there [] i old x e = absurd cc
set_there (y ∷ ys) zero old x e = refl
set_there (y ∷ ys) (suc i) old x e = set_there ys i old x e

set_elsewhere : {A : Type 0} (xs : List A) (i j : ℕ) (x : A) → j ≢ i → slice_get (slice_set xs i x) j ≡ slice_get xs j
set_elsewhere [] i j x other = refl
set_elsewhere (y ∷ ys) zero zero x other = absurd (other refl)
set_elsewhere (y ∷ ys) zero (suc j) x other = refl
set_elsewhere (y ∷ ys) (suc i) zero x other = refl
set_elsewhere (y ∷ ys) (suc i) (suc j) x other = set_elsewhere ys i j x (λ e. other (ap suc e))

-- the item at an address
at_address : {A : Type 0} (xs : List A) (i j : Option ℕ) (old x : A) → (i >>= slice_get xs) ≡ Some old
    → (j ≡ i → (j >>= slice_get (set_at xs i x)) ≡ Some x) × (j ≢ i → (j >>= slice_get (set_at xs i x)) ≡ (j >>= slice_get xs))
at_address xs None j old x e = absurd cc
at_address xs (Some i) None old x e = (λ same. absurd cc, λ other. refl)
at_address xs (Some i) (Some j) old x e =
    (λ same. rw (some_same same) (set_there xs i old x e), λ other. set_elsewhere xs i j x (λ same. other (ap (λ k. Some k) same)))

replaced : {A : Type 0} (at : ℕ → ℕ → Option ℕ) (xs : List A) (unit n : ℕ) (old x : A) → (at unit n >>= slice_get xs) ≡ Some old
    → IsReplaced at (λ u k. at u k >>= slice_get xs) (λ u k. at u k >>= slice_get (set_at xs (at unit n) x)) unit n x
replaced at xs unit n old x e other k = at_address xs (at unit n) (at other k) old x e

pub store_is_stored : (I : Instances) → AreStored (store_view I)
store_is_stored I = record {
  global_at = I.global_at;
  table_at = I.table_at;
  elem_at = I.elem_at;
  data_at = I.data_at;
  set_global = λ us unit g old v e. (replaced I.global_at us.globals unit g old v e, (λ u k. refl), (λ u k. refl), (λ u k. refl));
  set_table = λ us unit t old x e. (replaced I.table_at us.tables unit t old x e, (λ u k. refl), (λ u k. refl), (λ u k. refl));
  drop_elem = λ us unit n old e. (replaced I.elem_at us.elems unit n old [] e, (λ u k. refl), (λ u k. refl), (λ u k. refl));
  drop_data = λ us unit d old e. (replaced I.data_at us.datas unit d old [] e, (λ u k. refl), (λ u k. refl), (λ u k. refl));
}
