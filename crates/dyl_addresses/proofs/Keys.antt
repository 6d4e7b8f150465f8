-- The keys of cells, as cells.
use Rattle.std.proofs.Common.{◌≡◌, ◌≤◌, ℕ, ◌+◌, length, Bool, true, false, ◌||◌, not, cond, List, [], ◌∷◌, ◌++◌, Some, None, ◌&&◌, refl, sym, ap, ap₂, ◌∙◌, arith, append-nil}
use Rattle.std.specs.Prelude.{bytes_eq}
use Rattle.std.proofs.Math.Bool.{beq}
use Rattle.std.proofs.lemmas.List.Sums.{prefix_len-le-length}
use Rattle.std.specs.List.{list_any, position_from, position_or_len, prefix_len}
use Rattle.indexmap.specs.IndexSet.{insert_key}
use Rattle.spec_loading.specs.spec_linking.Slots.{same_cell}
use Rattle.dyl_addresses.specs.Globals.{CellKey, cell_named, cell_of_key, cells_in, with_cells, cell_place}
use Rattle.dyl_addresses.proofs.Cells.{same_itself}

-- ---- the first that passes a test, or a new one behind all

module _ {X : Type 0} (t : X → Bool) (c : X) (passes : t c ≡ true) where
  abbrev with_one : List X → List X
  with_one xs = xs ++ cond (list_any t xs) [] (c ∷ [])

  pub place_of_one : (i : ℕ) (xs : List X) → position_from t i (with_one xs) ≡ Some (i + position_or_len t xs)
  place_of_one i [] = ap (λ b. cond b (Some i) None) passes ∙ ap Some (omega arith)
  place_of_one i (x ∷ xs) = go (t x) (place_of_one (i + 1) xs)
    where
      go : (b : Bool) → position_from t (i + 1) (xs ++ cond (list_any t xs) [] (c ∷ [])) ≡ Some (i + 1 + prefix_len (λ y. not (t y)) xs)
          → cond b (Some i) (position_from t (i + 1) (xs ++ cond (b || list_any t xs) [] (c ∷ [])))
          ≡ Some (i + cond (not b) (1 + prefix_len (λ y. not (t y)) xs) 0)
      go true later = ap Some (omega arith)
      go false later = later ∙ ap Some (omega arith)

-- ---- keys

module _ (eq : CellKey → CellKey → Bool) (is : (a b : CellKey) → eq a b ≡ same_cell (cell_of_key a) (cell_of_key b)) (k : CellKey) where
  pub any_same : (ks : List CellKey) → list_any (eq k) ks ≡ list_any (same_cell (cell_of_key k)) (cells_in ks)
  any_same [] = refl
  any_same (x ∷ ks) = ap₂ (λ a b. a || b) (is k x) (any_same ks)

  place_same : (ks : List CellKey) → position_or_len (eq k) ks ≡ position_or_len (same_cell (cell_of_key k)) (cells_in ks)
  place_same [] = refl
  place_same (x ∷ ks) = ap₂ (λ a n. cond (not a) (1 + n) 0) (is k x) (place_same ks)

  map_last : (ks : List CellKey) → cells_in (ks ++ k ∷ []) ≡ cells_in ks ++ cell_of_key k ∷ []
  map_last [] = refl
  map_last (x ∷ ks) = ap (λ l. cell_of_key x ∷ l) (map_last ks)

  pub keys_are : (ks : List CellKey) → cells_in (insert_key eq ks k) ≡ with_cells (cells_in ks) (cell_of_key k ∷ [])
  keys_are ks = ap (λ b. cells_in (cond b ks (ks ++ k ∷ []))) (any_same ks) ∙ go (list_any (same_cell (cell_of_key k)) (cells_in ks))
    where
      go : (b : Bool) → cells_in (cond b ks (ks ++ k ∷ [])) ≡ cells_in ks ++ cond b [] (cell_of_key k ∷ [])
      go true = sym (append-nil (cells_in ks))
      go false = map_last ks

  pub place_is : (first : ℕ) (ks : List CellKey)
      → Some (first + position_or_len (eq k) ks) ≡ cell_place first (with_cells (cells_in ks) (cell_of_key k ∷ [])) (cell_of_key k)
  place_is first ks =
      ap (λ n. Some (first + n)) (place_same ks)
      ∙ sym (place_of_one (same_cell (cell_of_key k)) (cell_of_key k) (same_itself k) first (cells_in ks))

-- as keys are compared
abbrev pub key_eq : CellKey → CellKey → Bool
key_eq a b = beq a.0 b.0 && bytes_eq a.1.now b.1.now

pub key_is : (a b : CellKey) → key_eq a b ≡ same_cell (cell_of_key a) (cell_of_key b)
key_is a b = go a.0 b.0
  where
    go : (x y : Bool) → (beq x y && bytes_eq a.1.now b.1.now) ≡ same_cell (cell_named x a.1.now) (cell_named y b.1.now)
    go true true = refl
    go true false = refl
    go false true = refl
    go false false = refl

-- a place is no further than the end
pub position_within : {X : Type 0} (p : X → Bool) (xs : List X) → position_or_len p xs ≤ length xs
position_within p xs = prefix_len-le-length (λ x. not (p x)) xs
