-- The heights of bodies, one after the other.
use Rattle.std.proofs.Common.{arith, ◌≡◌, ℕ, ◌+◌, ◌<◌, List, [], ◌∷◌, ◌++◌, length, get_or, refl, sym, ap, ◌∙◌, Some, inl, inr, length-append}
use Rattle.std.specs.Prelude.{slice_get}
use Rattle.std.proofs.lemmas.Bool.{cases_lt}
use Rattle.std.proofs.lemmas.Option.{slice_get-get_or}
use Rattle.wasm_form.specs.declared.module.Code.{Code}
use Rattle.wasm_form.specs.declared.module.Module.{Module}
use Rattle.spec_execution.proofs.of_spec_binary.Lists.{slice_get-append-left, slice_get-append-last}
use Rattle.spec_execution.specs.spec_validation.Faults.{body_height}
use Rattle.spec_execution.specs.spec_binary.Saturated.{saturated}
use Rattle.wasm_check.specs.Heights.{height_of, HaveHeights}

pub have_more : (m : Module) (heights more : List ℕ) (h n : ℕ) (c : Code) → n < length m.codes → c ≡ get_or m.codes n c
    → body_height m n c ≡ Some h → more ≡ heights ++ saturated h ∷ [] → HaveHeights m n heights → HaveHeights m (n + 1) more
have_more m heights more h n c inside is high e have = record {
  as_many = rw e (simp length-append (omega (arith, have.as_many)));
  each = λ k lt. rw e (elim (cases_lt k n) [
    | inl before ↦ slice_get-append-left heights (saturated h ∷ []) k (omega (arith, have.as_many)) ∙ have.each k
        before
    | inr past ↦ last k (omega arith)
  ]);
}
  where
    found : slice_get m.codes n ≡ Some c
    found = slice_get-get_or m.codes n c inside ∙ ap (λ (x : Code). Some x) (sym is)

    high_of : height_of m n ≡ Some (saturated h)
    high_of = rw (found, high) refl

    last : (k : ℕ) → k ≡ n → slice_get (heights ++ saturated h ∷ []) k ≡ height_of m k
    last k same = rw same (slice_get-append-last heights (saturated h) n (sym have.as_many) ∙ sym high_of)
