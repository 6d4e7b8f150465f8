-- The names of the exports of a module that was read and is valid.
use Rattle.std.proofs.Common.{◌≡◌, ℕ, zero, suc, ◌+◌, ◌<◌, ◌/◌, ◌%◌, nat_lt, Bool, true, false, List, [], ◌∷◌, ◌++◌, get_or, IsUtf8, refl, subst, arith, if◌then◌else◌, ⊎_elim}
use Rattle.std.specs.Str.{encode_utf8_all, all_scalars}
use Rattle.std.proofs.Math.Utf8.{encode, scalar, scalar_cases}
use Rattle.std.proofs.lemmas.Bool.Decides.{nat_tests}
use Rattle.std.proofs.lemmas.Bool.{and_parts}
use Rattle.wasm_form.specs.declared.module.Export.{Export}
use Rattle.spec_execution.specs.spec_binary.Name.{name}
use Rattle.spec_execution.specs.spec_binary.Parts.{SpellsExport, export}
use Rattle.spec_execution.proofs.of_spec_binary.UnsignedSpelling.{unsigned_small}
use Rattle.spec_execution.proofs.of_spec_binary.Joined.{each_all}
use Rattle.spec_execution.proofs.of_spec_binary.SpelledParts.{module_spelled}
use Rattle.spec_execution.proofs.of_spec_validation.Names.{tested_distinct}
use Rattle.spec_execution.proofs.of_spec_validation.Parts.{parts_fit}
use Rattle.merge_find.specs.Finding.{IsText}
use Rattle.merge_find.specs.Exports.{ExportsAreTexts, ExportsAreApart}

-- ---- bytes

bytes_then : (xs ys : List ℕ) → ((j : ℕ) → get_or xs j 0 < 256) → ((j : ℕ) → get_or ys j 0 < 256) → (j : ℕ) → get_or (xs ++ ys) j 0 < 256
bytes_then [] ys a b j = b j
bytes_then (x ∷ xs) ys a b zero = a zero
bytes_then (x ∷ xs) ys a b (suc j) = bytes_then xs ys (λ i. a (suc i)) b j

no_bytes : (j : ℕ) → get_or [] j 0 < 256
no_bytes j = omega arith

more_bytes : (b : ℕ) (bs : List ℕ) → b < 256 → ((j : ℕ) → get_or bs j 0 < 256) → (j : ℕ) → get_or (b ∷ bs) j 0 < 256
more_bytes b bs small rest zero = small
more_bytes b bs small rest (suc j) = rest j

two_bytes : (a b : ℕ) → a < 256 → b < 256 → (j : ℕ) → get_or (a ∷ b ∷ []) j 0 < 256
two_bytes a b l m = more_bytes a (b ∷ []) l (more_bytes b [] m no_bytes)

three_bytes : (a b c : ℕ) → a < 256 → b < 256 → c < 256 → (j : ℕ) → get_or (a ∷ b ∷ c ∷ []) j 0 < 256
three_bytes a b c l m n = more_bytes a (b ∷ c ∷ []) l (two_bytes b c m n)

next_small : (k : ℕ) → 128 + k % 64 < 256
next_small k = omega arith

encoded : (c : ℕ) → c < 1114112 → (j : ℕ) → get_or (encode c) j 0 < 256
unfolding encode
encoded c small j = one (nat_lt c 128) refl j
  where
    three : (z : Bool) → nat_lt c 65536 ≡ z → (j : ℕ)
        → get_or (if z then (224 + c / 4096) ∷ (128 + c / 64 % 64) ∷ (128 + c % 64) ∷ [] else (240 + c / 262144) ∷ (128 + c / 4096 % 64) ∷ (128 + c / 64 % 64) ∷ (128 + c % 64) ∷ []) j 0 < 256
    three true e = (let below : c < 65536 = grind (arith, nat_tests) in three_bytes (224 + c / 4096) (128 + c / 64 % 64) (128 + c % 64) (omega arith) (next_small (c / 64)) (next_small c))
    three false e = more_bytes (240 + c / 262144) ((128 + c / 4096 % 64) ∷ (128 + c / 64 % 64) ∷ (128 + c % 64) ∷ []) (omega (arith, small)) (three_bytes (128 + c / 4096 % 64) (128 + c / 64 % 64) (128 + c % 64) (next_small (c / 4096)) (next_small (c / 64)) (next_small c))

    two : (z : Bool) → nat_lt c 2048 ≡ z → (j : ℕ)
        → get_or (if z then (192 + c / 64) ∷ (128 + c % 64) ∷ [] else (if nat_lt c 65536 then (224 + c / 4096) ∷ (128 + c / 64 % 64) ∷ (128 + c % 64) ∷ [] else (240 + c / 262144) ∷ (128 + c / 4096 % 64) ∷ (128 + c / 64 % 64) ∷ (128 + c % 64) ∷ [])) j 0 < 256
    two true e = (let below : c < 2048 = grind (arith, nat_tests) in two_bytes (192 + c / 64) (128 + c % 64) (omega arith) (next_small c))
    two false e = three (nat_lt c 65536) refl

    one : (z : Bool) → nat_lt c 128 ≡ z → (j : ℕ)
        → get_or (if z then c ∷ [] else (if nat_lt c 2048 then (192 + c / 64) ∷ (128 + c % 64) ∷ [] else (if nat_lt c 65536 then (224 + c / 4096) ∷ (128 + c / 64 % 64) ∷ (128 + c % 64) ∷ [] else (240 + c / 262144) ∷ (128 + c / 4096 % 64) ∷ (128 + c / 64 % 64) ∷ (128 + c % 64) ∷ []))) j 0 < 256
    one true e = (let below : c < 128 = grind (arith, nat_tests) in more_bytes c [] (omega arith) no_bytes)
    one false e = two (nat_lt c 2048) refl

encodes_small : (cs : List ℕ) → all_scalars cs ≡ true → (j : ℕ) → get_or (encode_utf8_all cs) j 0 < 256
encodes_small [] e = no_bytes
encodes_small (c ∷ cs) e =
    let both = and_parts (scalar c) (all_scalars cs) e in
    bytes_then (encode c) (encode_utf8_all cs) (encoded c (⊎_elim (λ h. omega (arith, h)) (λ h. h.1) (scalar_cases c both.0))) (encodes_small cs both.1)

utf8_bytes : (bs : List ℕ) → IsUtf8 bs → (j : ℕ) → get_or bs j 0 < 256
utf8_bytes bs u = subst (λ l. (j : ℕ) → get_or l j 0 < 256) u.1.1 (encodes_small u.0 u.1.0)

-- ---- names that are spelled

abbrev HasText : Export → Type 0
HasText e = IsText e.name

export_text : (e : Export) (w : List ℕ) → SpellsExport e w → HasText e
export_text e w (export (name count utf8) d) = record { short = unsigned_small count; bytes = utf8_bytes e.name utf8 }

pub exports_are_texts : ExportsAreTexts
exports_are_texts wasm bytes is = each_all HasText export_text (module_spelled wasm bytes is).exports.spelled

pub exports_are_apart : ExportsAreApart
exports_are_apart wasm valid = tested_distinct wasm.exports (parts_fit wasm valid).names
