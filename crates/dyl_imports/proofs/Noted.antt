-- Names in a set of texts.
use Rattle.std.proofs.Common.{◌≡◌, ℕ, zero, suc, Bool, true, false, ◌||◌, cond, List, [], ◌∷◌, ◌++◌, map, length, arith, refl, ap, ap₂, sym, ◌∙◌, string_bytes, bytes_eq}
use Rattle.std.specs.Prelude.{String}
use Rattle.std.specs.List.{list_any}
use Rattle.indexmap.specs.IndexSet.{insert_key}
use Rattle.spec_loading.specs.spec_linking.Sets.{Member}
use Rattle.spec_loading.specs.spec_linking.Definitions.{is_one_of, is_weak}
use Rattle.dyl_imports.specs.Weak.{AreWeakOf}
use Rattle.dyl_imports.proofs.Names.{bytes_eq-sym, same_names}

module _ {Z : Type 0} where
  pub among_texts : (name : List ℕ) (ks : List (String Z)) → list_any (λ k. bytes_eq name (string_bytes k)) ks ≡ is_one_of name (map string_bytes ks)
  among_texts name [] = refl
  among_texts name (k ∷ ks) = ap (λ b. bytes_eq name (string_bytes k) || b) (among_texts name ks)

  pushed : (other : List ℕ) (ks : List (String Z)) (k : String Z) → is_one_of other (map string_bytes (ks ++ k ∷ [])) ≡ (is_one_of other (map string_bytes ks) || bytes_eq (string_bytes k) other)
  pushed other [] k = by (bytes_eq other (string_bytes k)) ∙ bytes_eq-sym other (string_bytes k)
    where
      by : (b : Bool) → (b || false) ≡ b
      by true = refl
      by false = refl
  pushed other (x ∷ ks) k = by (bytes_eq other (string_bytes x)) (pushed other ks k)
    where
      by : (b : Bool) → is_one_of other (map string_bytes (ks ++ k ∷ [])) ≡ (is_one_of other (map string_bytes ks) || bytes_eq (string_bytes k) other)
          → (b || is_one_of other (map string_bytes (ks ++ k ∷ []))) ≡ ((b || is_one_of other (map string_bytes ks)) || bytes_eq (string_bytes k) other)
      by true rest = refl
      by false rest = rest

  there : (other : List ℕ) (ks : List (String Z)) (k : String Z) → is_one_of (string_bytes k) (map string_bytes ks) ≡ true
      → is_one_of other (map string_bytes ks) ≡ (is_one_of other (map string_bytes ks) || bytes_eq (string_bytes k) other)
  there other ks k e = by (bytes_eq (string_bytes k) other) refl
    where
      none : (b : Bool) → b ≡ (b || false)
      none true = refl
      none false = refl

      by : (b : Bool) → bytes_eq (string_bytes k) other ≡ b → is_one_of other (map string_bytes ks) ≡ (is_one_of other (map string_bytes ks) || b)
      by true q =
          let same : is_one_of other (map string_bytes ks) ≡ true = ap (λ n. is_one_of n (map string_bytes ks)) (sym (same_names (string_bytes k) other q)) ∙ e in
          same ∙ ap (λ b. b || true) (sym same)
      by false q = none (is_one_of other (map string_bytes ks))

  -- one name more
  pub one_more : (eq : String Z → String Z → Bool) (same : (x y : String Z) → eq x y ≡ bytes_eq (string_bytes x) (string_bytes y)) (ks new : List (String Z)) (k : String Z) (name other : List ℕ)
      → new ≡ insert_key eq ks k → string_bytes k ≡ name → is_one_of other (map string_bytes new) ≡ (is_one_of other (map string_bytes ks) || bytes_eq name other)
  one_more eq same ks new k name other inserted named =
      ap (λ (xs : List (String Z)). is_one_of other (map string_bytes xs)) inserted ∙ by (list_any (eq k) ks) (tests ks) ∙ ap (λ n. is_one_of other (map string_bytes ks) || bytes_eq n other) named
    where
      tests : (xs : List (String Z)) → list_any (eq k) xs ≡ is_one_of (string_bytes k) (map string_bytes xs)
      tests [] = refl
      tests (x ∷ xs) = ap₂ (λ a b. a || b) (same k x) (tests xs)

      by : (b : Bool) → b ≡ is_one_of (string_bytes k) (map string_bytes ks)
          → is_one_of other (map string_bytes (cond b ks (ks ++ k ∷ []))) ≡ (is_one_of other (map string_bytes ks) || bytes_eq (string_bytes k) other)
      by true e = there other ks k (sym e)
      by false e = pushed other ks k

-- the names of one member more
pub weak_more : (ms : List Member) (ws : List (List (List ℕ))) (m : Member) (w : List (List ℕ)) → length ms ≡ length ws → AreWeakOf ms ws → ((name : List ℕ) → is_one_of name w ≡ is_weak m.dylink name)
    → AreWeakOf (ms ++ m ∷ []) (ws ++ w ∷ [])
weak_more [] [] m w e of here zero name = here name
weak_more [] [] m w e of here (suc k) name = refl
weak_more [] (y ∷ ws) m w e of here k name = absurd (omega arith)
weak_more (x ∷ ms) [] m w e of here k name = absurd (omega arith)
weak_more (x ∷ ms) (y ∷ ws) m w e of here zero name = of 0 name
weak_more (x ∷ ms) (y ∷ ws) m w e of here (suc k) name = weak_more ms ws m w (omega arith) (λ j n. of (suc j) n) here k name
