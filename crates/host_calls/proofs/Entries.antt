-- The entry of a host function that is called.
use Rattle.std.proofs.Common.{◌≡◌, ℕ, suc, ◌+◌, Bool, true, false, cond, List, [], ◌∷◌, map, Some, None, IsSomeAnd, slice_get, sym, ◌∙◌, subst, zero-add, arith}
use Rattle.std.specs.List.{position_from}
use Rattle.spec_hosts.specs.spec_runtime.Names.{HostName}
use Rattle.spec_hosts.specs.Laws.{host_called}
use Rattle.host_table.specs.Names.{is_called}

module _ {E : Type 0} (host : E → HostName) (from name : List ℕ) (P : HostName → Type 0) where
  -- what is so of the host function that is called is so of the entry that is found, where the first one is number k
  found_from : (es : List E) (k n : ℕ) → position_from (λ e. is_called from name (host e)) k es ≡ Some n → IsSomeAnd (host_called from name (map host es)) P
      → (i : ℕ) × (n ≡ k + i) × IsSomeAnd (slice_get es i) (λ e. P (host e))
  found_from [] k n found called = absurd called
  found_from (x ∷ xs) k n found called = by (is_called from name (host x)) found called (found_from xs (k + 1) n)
    where
      by : (b : Bool) → cond b (Some k) (position_from (λ e. is_called from name (host e)) (k + 1) xs) ≡ Some n → IsSomeAnd (cond b (Some (host x)) (host_called from name (map host xs))) P
          → (position_from (λ e. is_called from name (host e)) (k + 1) xs ≡ Some n → IsSomeAnd (host_called from name (map host xs)) P → (i : ℕ) × (n ≡ (k + 1) + i) × IsSomeAnd (slice_get xs i) (λ e. P (host e)))
          → (i : ℕ) × (n ≡ k + i) × IsSomeAnd (slice_get (x ∷ xs) i) (λ e. P (host e))
      by true found called rest = (0, grind arith, called)
      by false found called rest = let r = rest found called in (suc r.0, let e = r.1 in omega arith, r.2)

  pub called_found : (es : List E) (n : ℕ) → position_from (λ e. is_called from name (host e)) 0 es ≡ Some n → IsSomeAnd (host_called from name (map host es)) P → IsSomeAnd (slice_get es n) (λ e. P (host e))
  called_found es n found called =
      let i = found_from es 0 n found called in
      subst (λ j. IsSomeAnd (slice_get es j) (λ e. P (host e))) (sym (i.1 ∙ zero-add i.0)) i.2

  -- one that is called is found
  pub called_there : (es : List E) (k : ℕ) → position_from (λ e. is_called from name (host e)) k es ≡ None → IsSomeAnd (host_called from name (map host es)) P → ⊥
  called_there [] k none called = called
  called_there (x ∷ xs) k none called = by (is_called from name (host x)) none called (called_there xs (k + 1))
    where
      by : (b : Bool) → cond b (Some k) (position_from (λ e. is_called from name (host e)) (k + 1) xs) ≡ None → IsSomeAnd (cond b (Some (host x)) (host_called from name (map host xs))) P
          → (position_from (λ e. is_called from name (host e)) (k + 1) xs ≡ None → IsSomeAnd (host_called from name (map host xs)) P → ⊥) → ⊥
      by true none called rest = cc
      by false none called rest = rest none called
