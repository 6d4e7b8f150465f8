-- The code of effects one after the other.
use Rattle.std.proofs.Common.{◌≡◌, ◌<◌, ℕ, suc, ◌+◌, List, [], ◌∷◌, ◌++◌, length, drop, get_or, refl, sym, ap, ap₂, ◌∙◌, append_assoc, arith}
use Rattle.std.proofs.Math.Seq.{drop-cons}
use Rattle.wasm_form.specs.declared.instr.Instr.{Instr}
use Rattle.spec_loading.specs.spec_execution.Activations.{Effect}
use Rattle.spec_loading.specs.spec_execution.Segments.{all_effects}
use Rattle.merge_match.specs.Renumbering.{Numbers}
use Rattle.merge_match.specs.Moves.{effect}
use Rattle.merge_start.specs.Words.{effect_code, effects_code}

pub code_append : (n : Numbers) (m : ℕ) (xs ys : List Effect) → effects_code n m (xs ++ ys) ≡ effects_code n m xs ++ effects_code n m ys
code_append n m [] ys = refl
code_append n m (x ∷ xs) ys =
    ap (λ l. effect_code (effect n m x) ++ l) (code_append n m xs ys)
    ∙ sym (append_assoc (effect_code (effect n m x)) (effects_code n m xs) (effects_code n m ys))

-- the code of one segment more
pub one_more : {A : Type 0} (n : Numbers) (of : ℕ → A → List Effect) (xs : List A) (k : ℕ) (x : A) (code one more total : List Instr)
    → k < length xs → x ≡ get_or xs k x → one ≡ effects_code n 0 (of k x) → more ≡ code ++ one
    → code ++ effects_code n 0 (all_effects of k (drop k xs)) ≡ total
    → more ++ effects_code n 0 (all_effects of (k + 1) (drop (k + 1) xs)) ≡ total
one_more n of xs k x code one more total lt is made added before =
    let rest = all_effects of (k + 1) (drop (k + 1) xs) in
    let next : suc k ≡ k + 1 = omega arith in
    let here : drop k xs ≡ x ∷ drop (k + 1) xs = drop-cons xs k x lt ∙ ap₂ (λ y l. y ∷ l) (sym is) (ap (λ j. drop j xs) next) in
    ap (λ l. l ++ effects_code n 0 rest) added
    ∙ append_assoc code one (effects_code n 0 rest)
    ∙ ap (λ l. code ++ l)
    (ap (λ l. l ++ effects_code n 0 rest) made
    ∙ sym (code_append n 0 (of k x) rest)
    ∙ ap (λ l. effects_code n 0 (all_effects of k l)) (sym here))
    ∙ before
