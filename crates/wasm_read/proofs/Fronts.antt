-- What the front of a slice spells is read.
use Rattle.std.proofs.Common.{◌≡◌, ℕ, pos, ◌-◌, ◌^◌, ◌<◌, ◌≤◌, true, false, List, [], ◌∷◌, length, take, drop, slice_index_or, Ok, Err, refl, sym, ap, ◌∙◌, arith}
use Rattle.std.specs.Str.{is_utf8, IsUtf8}
use Rattle.std.proofs.Math.Seq.{take-length}
use Rattle.std.proofs.lemmas.Str.{IsUtf8-from_is_utf8, is_utf8-from_IsUtf8}
use Rattle.std.proofs.lemmas.List.{length-drop}
use Rattle.spec_binary.specs.Number.{Begins}
use Rattle.spec_binary.specs.Number as spelled
use Rattle.spec_reading.specs.Steps.{Break, Broken, Read}
use Rattle.spec_reading.specs.Values.{number_at, signed_at, cut_at, name_at}
use Rattle.spec_reading.proofs.Values.{number_again, signed_again}
use Rattle.spec_reading.proofs.Steps.{IsComplete, IsSound, IsPlain}

-- the bytes from a place on, as a slice gives them
pub slice_end : (bytes : List ℕ) (end : ℕ) → take (length bytes - end) (drop end bytes) ≡ drop end bytes
slice_end bytes end = rw (sym (length-drop end bytes)) (take-length (drop end bytes))

module _ {A : Type 0} (Spells : A → List ℕ → Type 0) (read : List ℕ → Read A) where
  -- what the front of a text spells is read
  pub begun : IsComplete Spells read → (text : List ℕ) (x : A) (rest : List ℕ) → Begins (Spells x) text rest → read text ≡ Ok (x, rest)
  begun complete text x rest (w, s, e) = ap read e ∙ complete x w s rest

  pub slice_read : IsComplete Spells read → (bytes : List ℕ) (x : A) (end : ℕ) → Begins (Spells x) bytes (drop end bytes) → read bytes ≡ Ok (x, take (length bytes - end) (drop end bytes))
  slice_read complete bytes x end h = begun complete bytes x (drop end bytes) h ∙ ap (λ (l : List ℕ). Ok (x, l)) (sym (slice_end bytes end))

  -- where the front of a text spells nothing, reading breaks
  pub not_begun : IsSound Spells read → IsPlain read → (text : List ℕ) → ((x : A) (rest : List ℕ) → Begins (Spells x) text rest → ⊥) → read text ≡ Err Broken
  not_begun sound plain text h = elim (read text) as (λ r. read text ≡ r → r ≡ Err Broken) [
    | Ok y ↦ λ e. let t = sound text y.0 y.1 e in absurd (h y.0 y.1 (t.word, t.spelled, t.parts))
    | Err e ↦ λ f. ap (λ (e : Break). Err e) (plain text e f)
  ] refl

-- numbers of one byte
pub small_number : (bytes : List ℕ) (d : ℕ) → 1 ≤ length bytes → slice_index_or bytes 0 d < 128 → number_at 32 bytes ≡ Ok (slice_index_or bytes 0 d, take (length bytes - 1) (drop 1 bytes))
small_number [] d some small = absurd (omega (arith, some))
small_number (b ∷ bs) d some small = number_again {n = 32} (spelled.last small (omega (arith, small))) bs ∙ ap (λ (l : List ℕ). Ok (b, l)) (sym (slice_end (b ∷ bs) 1))

pub small_signed : (n : ℕ) → 64 ≤ 2 ^ (n - 1) → (bytes : List ℕ) (d : ℕ) → 1 ≤ length bytes → slice_index_or bytes 0 d < 64 → signed_at n bytes ≡ Ok (pos (slice_index_or bytes 0 d), take (length bytes - 1) (drop 1 bytes))
small_signed n wide [] d some small = absurd (omega (arith, some))
small_signed n wide (b ∷ bs) d some small = signed_again {n = n} (spelled.last small (omega (arith, small, wide))) bs ∙ ap (λ (l : List ℕ). Ok (pos b, l)) (sym (slice_end (b ∷ bs) 1))

pub name_read : (bytes text rest : List ℕ) → cut_at bytes ≡ Ok (text, rest) → IsUtf8 text → name_at bytes ≡ Ok (text, rest)
unfolding name_at
name_read bytes text rest e u = rw (e, is_utf8-from_IsUtf8 text u) refl

pub no_name : (bytes text rest : List ℕ) → cut_at bytes ≡ Ok (text, rest) → ¬ (IsUtf8 text) → name_at bytes ≡ Err Broken
unfolding name_at
no_name bytes text rest e h =
    let broken : is_utf8 text ≡ false = elim (is_utf8 text) as (λ t. is_utf8 text ≡ t → t ≡ false) [ true ↦ λ u. absurd (h (IsUtf8-from_is_utf8 text u)) | false ↦ λ _. refl ] refl in
    rw (e, broken) refl
