-- What stands before the last slash of a path.
use Rattle.std.proofs.Common.{◌≡◌, ℕ, ◌-◌, Bool, true, false, cond, List, [], ◌∷◌, ◌++◌, length, take, refl, sym, ap, ◌∙◌, nat_eq}
use Rattle.std.specs.List.{ends_with}
use Rattle.std.proofs.lemmas.Bool.Decides.{Decides-eqb}
use Rattle.std.proofs.lemmas.Slice.Eq.{ends_is}
use Rattle.spec_linking.specs.Paths.{folder, origin}

-- what stands before the slash at the end of a folder
at_folder : List ℕ → List ℕ
at_folder f = cond (ends_with nat_eq f (47 ∷ [])) (take (length f - 1) f) (46 ∷ [])

origin_at : (path f : List ℕ) → f ≡ folder path → at_folder f ≡ origin path
unfolding at_folder
origin_at path f e = ap at_folder e

pub no_origin : (path f : List ℕ) → f ≡ folder path → ((front : List ℕ) → f ≡ front ++ 47 ∷ [] → ⊥) → 46 ∷ [] ≡ origin path
unfolding at_folder
no_origin path f e none = go (ends_with nat_eq f (47 ∷ [])) refl ∙ origin_at path f e
  where
    go : (r : Bool) → ends_with nat_eq f (47 ∷ []) ≡ r → 46 ∷ [] ≡ at_folder f
    go true p = absurd (none (take (length f - 1) f) ((ends_is Decides-eqb f (47 ∷ []) true (sym p)).0 refl))
    go false p = rw p refl

pub an_origin : (path f o : List ℕ) (n : ℕ) → f ≡ folder path → n ≡ 1 → f ≡ take (length f - 1) f ++ 47 ∷ [] → o ≡ take (length f - n) f → o ≡ origin path
unfolding at_folder
an_origin path f o n e one parts is =
    let r : ends_with nat_eq f (47 ∷ []) ≡ true = (ends_is Decides-eqb f (47 ∷ []) (ends_with nat_eq f (47 ∷ [])) refl).1 (take (length f - 1) f) parts in
    is ∙ ap (λ k. take (length f - k) f) one ∙ sym (ap (λ b. cond b (take (length f - 1) f) (46 ∷ [])) r) ∙ origin_at path f e
