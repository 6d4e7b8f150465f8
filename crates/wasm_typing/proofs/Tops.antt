-- Types taken off the top.
use Rattle.std.proofs.Common.{arith, ◌≡◌, ℕ, List, [], ◌∷◌, ◌++◌, length, drop, refl, Option, Some, None, Bool, true, false, ◌&&◌, length-append, add-one}
use Rattle.std.specs.Prelude.{reverse, if◌then◌else◌}
use Rattle.std.proofs.lemmas.List.{reverse-append, drop_all}
use Rattle.wasm_form.specs.declared.types.ValType.{ValType}
use Rattle.spec_validation.specs.spec_binary.Options.{◌>>=◌}
use Rattle.spec_validation.specs.Stacks.{Stack, begins, fits, take_off}
use Rattle.wasm_typing.specs.States.{without}

drop_nil : (n : ℕ) → drop {A = Option ValType} n [] ≡ []
drop_nil n = drop_all n [] (omega arith)

begins_unknown : (ts : List ValType) → begins ts [] true ≡ true
begins_unknown [] = refl
begins_unknown (t ∷ ts) = refl

one_more : (b : Bool) (ts : List ValType) (us : List (Option ValType)) (loose : Bool)
    → (if b && begins (reverse ts) us loose then Some (without (length ts) (record { entries = us; loose = loose })) else None)
    ≡ ((if b && true then Some (record { entries = us; loose = loose }) else None) >>= λ r. take_off ts r)
one_more true ts us loose = refl
one_more false ts us loose = refl

last_first : (ts : List ValType) (t : ValType) (us : List (Option ValType)) (loose : Bool)
    → take_off (ts ++ t ∷ []) (record { entries = us; loose = loose })
    ≡ (take_off (t ∷ []) (record { entries = us; loose = loose }) >>= λ r. take_off ts r)
last_first ts t [] true = rw (reverse-append, begins_unknown (reverse ts), drop_nil (length (ts ++ t ∷ [])), drop_nil (length ts)) refl
last_first ts t [] false = rw reverse-append refl
last_first ts t (u ∷ us) loose = rw (reverse-append, length-append ts (t ∷ []), add-one) (one_more (fits t u) ts us loose)

-- the last one is taken off first
pub take_last : (ts : List ValType) (t : ValType) (s : Stack) → take_off (ts ++ t ∷ []) s ≡ (take_off (t ∷ []) s >>= λ r. take_off ts r)
take_last ts t s = last_first ts t s.entries s.loose
