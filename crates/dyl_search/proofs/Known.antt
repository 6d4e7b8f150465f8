-- Names by their texts.
use Rattle.std.proofs.Common.{◌≡◌, ℕ, suc, ◌+◌, ◌≤◌, Bool, true, false, cond, not, List, [], ◌∷◌, ◌++◌, length, position, Some, None, refl, ap, ◌∙◌, arith, nat_lt, bytes_eq, string_bytes}
use Rattle.std.specs.Prelude.{String, Result, Ok, Err, OnOk}
use Rattle.std.specs.List.{position_or_len}
use Rattle.std.specs.Map.{keys_of}
use Rattle.indexmap.specs.IndexMap.{insert_entry}
use Rattle.spec_linking.specs.Wanted.{is_named, number_of}
use Rattle.dyl_search.specs.Known.{by_text}

module _ {Z : Type 0} where
  number_texts : (name : List ℕ) (es : List (String Z × ℕ)) → number_of (by_text es) name ≡ position_or_len (λ k. bytes_eq name (string_bytes k)) (keys_of es)
  number_texts name [] = refl
  number_texts name (e ∷ es) = ap (λ n. cond (not (bytes_eq name (string_bytes e.0))) (1 + n) 0) (number_texts name es)

  length_texts : (es : List (String Z × ℕ)) → length (by_text es) ≡ length (keys_of es)
  length_texts [] = refl
  length_texts (e ∷ es) = ap suc (length_texts es)

  pub length_by_text : (es : List (String Z × ℕ)) → length es ≡ length (by_text es)
  length_by_text [] = refl
  length_by_text (e ∷ es) = ap suc (length_by_text es)

  pub position_texts : (name : List ℕ) (es : List (String Z × ℕ)) → position (is_named name) (by_text es) ≡ position (λ k. bytes_eq name (string_bytes k)) (keys_of es)
  position_texts name es = ap (λ n. cond (nat_lt n (length (by_text es))) (Some n) None) (number_texts name es)
      ∙ ap (λ n. cond (nat_lt (position_or_len (λ k. bytes_eq name (string_bytes k)) (keys_of es)) n) (Some (position_or_len (λ k. bytes_eq name (string_bytes k)) (keys_of es))) None) (length_texts es)

  -- a new name goes last
  pub texts_insert : (eq : String Z → String Z → Bool) (same : (x y : String Z) → eq x y ≡ bytes_eq (string_bytes x) (string_bytes y)) (es : List (String Z × ℕ)) (k : String Z) (v : ℕ)
      → length (by_text es) ≤ number_of (by_text es) (string_bytes k) → by_text (insert_entry eq es k v) ≡ by_text es ++ record { name = string_bytes k; needed_by = v } ∷ []
  texts_insert eq same [] k v none = refl
  texts_insert eq same (e ∷ es) k v none = by (bytes_eq (string_bytes k) (string_bytes e.0)) refl (texts_insert eq same es k v)
    where
      by : (b : Bool) → bytes_eq (string_bytes k) (string_bytes e.0) ≡ b → (length (by_text es) ≤ number_of (by_text es) (string_bytes k) → by_text (insert_entry eq es k v) ≡ by_text es ++ record { name = string_bytes k; needed_by = v } ∷ []) → by_text (insert_entry eq (e ∷ es) k v) ≡ by_text (e ∷ es) ++ record { name = string_bytes k; needed_by = v } ∷ []
      by true p rest =
          let at : length (by_text (e ∷ es)) ≤ cond (not true) (1 + number_of (by_text es) (string_bytes k)) 0 = rw p at none in
          absurd (omega arith)
      by false p rest =
          let at : length (by_text (e ∷ es)) ≤ cond (not false) (1 + number_of (by_text es) (string_bytes k)) 0 = rw p at none in
          let less : length (by_text es) ≤ number_of (by_text es) (string_bytes k) = omega arith in
          ap (λ b. by_text (cond b ((e.0, v) ∷ es) (e ∷ insert_entry eq es k v))) (same k e.0 ∙ p)
          ∙ ap (λ r. record { name = string_bytes e.0; needed_by = e.1 } ∷ r) (rest less)

pub on_ok : {A E P : Type 0} (r : Result A E) → P → OnOk r P
on_ok (Ok x) p = p
on_ok (Err e) p = tt
