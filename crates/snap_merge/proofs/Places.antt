-- Searches and sums that go through a list.
use Rattle.std.proofs.Common.{◌≡◌, ℕ, suc, ◌+◌, ◌<◌, ◌≤◌, List, [], ◌∷◌, length, get_or, drop, nat_eq, eqb, Bool, true, false, min, refl, ap, ◌∙◌, arith}
use Rattle.std.specs.Prelude.{not, sum_by}
use Rattle.std.specs.List.{position_from}
use Rattle.std.proofs.lemmas.Bool.{eqb-true}
use Rattle.std.proofs.lemmas.List.{drop_all}
use Rattle.std.proofs.lemmas.List.Sums.{sum_by-append}
use Rattle.spec_loading.specs.spec_runtime.Tables.{TableInstance}
use Rattle.dyl_addresses.proofs.Linked.{at_index}
use Rattle.merge_whole.proofs.BuiltBodies.{drop_next}
use Rattle.snap_parts.specs.Built.{is_left}
use Rattle.spec_snapshots.specs.Stretches.{entries}

pub not_empty : {A : Type 0} (xs : List A) → not (eqb (length xs) 0) ≡ is_left xs
not_empty [] = refl
not_empty (x ∷ xs) = go (eqb (suc (length xs)) 0) refl
  where
    go : (b : Bool) → eqb (suc (length xs)) 0 ≡ b → not b ≡ true
    go true e = absurd (let none : suc (length xs) ≡ 0 = eqb-true (suc (length xs)) 0 e in omega arith)
    go false e = refl

-- ---- the place of a member

module _ (m : ℕ) (xs : List ℕ) (i place : ℕ) where
  -- none of the first i is the member
  abbrev pub IsBeyond : Type 0
  IsBeyond = position_from (λ k. nat_eq k m) 1 xs ≡ position_from (λ k. nat_eq k m) (place + 1) (drop i xs)

-- ---- the entries of tables

entries_cons : (x : TableInstance) (xs : List TableInstance) → sum_by entries (x ∷ xs) ≡ length x.entries + sum_by entries xs
entries_cons x xs =
    let none : 0 + length x.entries ≡ length x.entries = omega arith in
    sum_by-append entries (x ∷ []) xs ∙ ap (λ k. k + sum_by entries xs) none

pub entries_next : (xs : List TableInstance) (i : ℕ) (x : TableInstance) → i < length xs → x ≡ get_or xs i x → (all new total : ℕ) → new ≡ min (all + length x.entries) 4294967296
    → min (all + sum_by entries (drop i xs)) 4294967296 ≡ total → min (new + sum_by entries (drop (i + 1) xs)) 4294967296 ≡ total
entries_next xs i x lt is all new total sum held =
    let rest : sum_by entries (drop i xs) ≡ length x.entries + sum_by entries (drop (i + 1) xs) =
    ap (λ (l : List TableInstance). sum_by entries l) (drop_next xs i x (at_index xs i x lt is)) ∙ entries_cons x (drop (i + 1) xs) in
    omega arith

pub entries_end : (xs : List TableInstance) (i all : ℕ) → length xs ≤ i → min (all + sum_by entries (drop i xs)) 4294967296 ≡ min (sum_by entries xs) 4294967296 → all ≤ 4294967296
    → all ≡ min (sum_by entries xs) 4294967296
entries_end xs i all past held few =
    let none : sum_by entries (drop i xs) ≡ 0 = ap (λ (l : List TableInstance). sum_by entries l) (drop_all i xs past) in
    omega arith
