-- What a merged module has only where its set uses the loader.
use Rattle.std.proofs.Common.{◌≡◌, ◌≤◌, Bool, true, false, List, [], length, map, refl, arith, if◌then◌else◌}
use Rattle.std.specs.List.{All}
use Rattle.std.proofs.lemmas.List.Elements.{All-nil}
use Rattle.spec_loading.specs.spec_linking.LinkedSets.{LinkedSet}
use Rattle.spec_loading.specs.Members.{uses_loader}
use Rattle.merge_module.specs.MergedModule.{with_loader}

module _ (L : LinkedSet) where
  pub with_used : {A : Type 0} (xs : List A) → uses_loader L ≡ true → with_loader L xs ≡ xs
  with_used xs used = rw used refl

  pub with_either : {A : Type 0} (P : List A → Type 0) (xs : List A) → P [] → (uses_loader L ≡ true → P xs) → P (with_loader L xs)
  with_either {A} P xs none some = go (uses_loader L) some
    where
      go : (b : Bool) → (b ≡ true → P xs) → P (if b then xs else [])
      go true there = there refl
      go false there = none

  pub with_few : {A : Type 0} (xs : List A) → length (with_loader L xs) ≤ length xs
  with_few xs = with_either (λ l. length l ≤ length xs) xs (omega arith) (λ used. omega arith)

  -- as many of the one as of the other
  pub with_many : {A B : Type 0} (xs : List A) (ys : List B) → length xs ≡ length ys → length (with_loader L xs) ≡ length (with_loader L ys)
  with_many {A} {B} xs ys same = go (uses_loader L)
    where
      go : (b : Bool) → length {A = A} (if b then xs else []) ≡ length {A = B} (if b then ys else [])
      go true = same
      go false = refl

  pub with_map : {A B : Type 0} (f : A → B) (xs : List A) → map f (with_loader L xs) ≡ with_loader L (map f xs)
  with_map {A = A} {B = B} f xs = go (uses_loader L)
    where
      go : (b : Bool) → map {A = A} {B = B} f (if b then xs else []) ≡ (if b then map f xs else [])
      go true = refl
      go false = refl

  pub with_all : {A : Type 0} (P : A → Type 0) (xs : List A) → (uses_loader L ≡ true → All P xs) → All P (with_loader L xs)
  with_all P xs all = with_either (All P) xs (All-nil P) all
