-- Numbers one after the other.
use Rattle.std.proofs.Common.{◌≡◌, ◌<◌, ◌≤◌, ℕ, suc, ◌+◌, ◌-◌, List, [], ◌∷◌, ◌++◌, map, refl, sym, ap, ◌∙◌, append_assoc, arith}
use Rattle.std.specs.List.{range_with_len}

pub range_step : (n count : ℕ) → n < count → range_with_len n (count - n) ≡ n ∷ range_with_len (n + 1) (count - (n + 1))
range_step n count lt = (let e : count - n ≡ suc (count - (n + 1)) = omega arith in rw e refl)

pub range_end : (n count : ℕ) → count ≤ n → range_with_len n (count - n) ≡ []
range_end n count le = (let e : count - n ≡ 0 = omega arith in rw e refl)

pub mapped_step : {X : Type 0} (f : ℕ → X) (n count : ℕ) (done more all : List X) → n < count → more ≡ done ++ f n ∷ []
    → done ++ map f (range_with_len n (count - n)) ≡ all → more ++ map f (range_with_len (n + 1) (count - (n + 1))) ≡ all
mapped_step f n count done more all lt added before =
    let rest = map f (range_with_len (n + 1) (count - (n + 1))) in
    ap (λ l. l ++ rest) added
    ∙ append_assoc done (f n ∷ []) rest
    ∙ ap (λ l. done ++ map f l) (sym (range_step n count lt))
    ∙ before

pub plain_step : (n count : ℕ) (done more all : List ℕ) → n < count → more ≡ done ++ n ∷ []
    → done ++ range_with_len n (count - n) ≡ all → more ++ range_with_len (n + 1) (count - (n + 1)) ≡ all
plain_step n count done more all lt added before =
    let rest = range_with_len (n + 1) (count - (n + 1)) in
    ap (λ l. l ++ rest) added
    ∙ append_assoc done (n ∷ []) rest
    ∙ ap (λ l. done ++ l) (sym (range_step n count lt))
    ∙ before
