-- Reading one part after another, as a loop does.
use Rattle.std.proofs.Common.{◌≡◌, ℕ, ◌+◌, ◌<◌, ◌≤◌, cond, List, [], ◌∷◌, ◌++◌, length, get_or, drop, map, Option, Some, None, Bor, refl, sym, ap, ◌∙◌, append_assoc, append-nil, eqb, true, false, Bool, arith}
use Rattle.std.proofs.lemmas.List.{at_drop_more, at_drop_all}
use Rattle.dyl_print.specs.Printed.{is_printed}
use Rattle.spec_traces.specs.spec_hosts.spec_binary.Options.{◌>>=◌}
use Rattle.spec_traces.specs.Reading.{number_of, numbers_of, byte_of, front_byte, behind_byte, digits_as_bytes, hidden_byte, front_of, unescaped}

-- what was read before, and what is still read
abbrev pub with_front : {A : Type 0} → List A → Option (List A) → Option (List A)
with_front front read = read >>= λ xs. Some (front ++ xs)

-- one more is read
front_more : (front : List ℕ) (x : ℕ) (read : Option (List ℕ)) → with_front front (behind_byte x read) ≡ with_front (front ++ x ∷ []) read
front_more front x None = refl
front_more front x (Some xs) = ap Some (sym (append_assoc front (x ∷ []) xs))

front_all : (front : List ℕ) → with_front front (Some []) ≡ Some front
front_all front = ap Some (append-nil front)

-- ---- bytes of a word

abbrev at_front : ℕ → List ℕ → Option (ℕ × List ℕ)
at_front b rest = Some (b, rest)

abbrev Front : Type 0
Front = List ℕ → Option (ℕ × List ℕ)

-- a word is read by its front and what stands behind it
abbrev pub ReadsByFront : Front → (List ℕ → Option (List ℕ)) → Type 0
ReadsByFront front read = (c : ℕ) (word : List ℕ) → read (c ∷ word) ≡ (front (c ∷ word) >>= λ p. behind_byte p.0 (read p.1))

module _ (front : Front) (read : List ℕ → Option (List ℕ)) (first : ReadsByFront front read) where
  pub front_goes : (bytes rest : List ℕ) (b : ℕ) (behind : List ℕ) (total : Option (List ℕ)) → 0 < length rest → at_front b behind ≡ front rest
      → with_front bytes (read rest) ≡ total → with_front (bytes ++ b ∷ []) (read behind) ≡ total
  front_goes bytes [] b behind total some e so_far = absurd (omega arith)
  front_goes bytes (c ∷ rest) b behind total some e so_far =
      let one : read (c ∷ rest) ≡ behind_byte b (read behind) = first c rest ∙ ap (λ (o : Option (ℕ × List ℕ)). o >>= λ p. behind_byte p.0 (read p.1)) (sym e) in
      sym (ap (with_front bytes) one ∙ front_more bytes b (read behind)) ∙ so_far

  pub front_fails : (bytes rest : List ℕ) (total : Option (List ℕ)) → 0 < length rest → ◌≡◌ {A = Option (ℕ × List ℕ)} None (front rest) → with_front bytes (read rest) ≡ total → total ≡ None
  front_fails bytes [] total some e so_far = absurd (omega arith)
  front_fails bytes (c ∷ rest) total some e so_far =
      let one : read (c ∷ rest) ≡ None = first c rest ∙ ap (λ (o : Option (ℕ × List ℕ)). o >>= λ p. behind_byte p.0 (read p.1)) (sym e) in
      sym so_far ∙ ap (with_front bytes) one

pub digits_first : ReadsByFront front_byte digits_as_bytes
unfolding digits_as_bytes
digits_first c [] = refl
digits_first c (d ∷ word) = by_byte (byte_of c d)
  where
    by_byte : (o : Option ℕ) → (o >>= λ b. behind_byte b (digits_as_bytes word)) ≡ ((o >>= λ b. at_front b word) >>= λ p. behind_byte p.0 (digits_as_bytes p.1))
    by_byte None = refl
    by_byte (Some b) = refl

pub digits_end : (bytes : List ℕ) (rest : List ℕ) (total : Option (List ℕ)) → length rest ≡ 0 → with_front bytes (digits_as_bytes rest) ≡ total → total ≡ Some bytes
unfolding digits_as_bytes
digits_end bytes [] total none so_far = sym so_far ∙ front_all bytes
digits_end bytes (c ∷ rest) total none so_far = absurd (omega arith)

abbrev behind_front : Option (ℕ × List ℕ) → Option (List ℕ)
behind_front read = read >>= λ p. behind_byte p.0 (unescaped p.1)

pub name_first : ReadsByFront front_of unescaped
unfolding unescaped
name_first b [] = by_tests (eqb b 0x5C) (is_printed b)
  where
    by_tests : (hidden printed : Bool) → cond hidden None (cond printed (Some (b ∷ [])) None) ≡ behind_front (cond hidden None (cond printed (at_front b []) None))
    by_tests true printed = refl
    by_tests false true = refl
    by_tests false false = refl
name_first b (c ∷ []) = by_tests (eqb b 0x5C) (is_printed b)
  where
    by_tests : (hidden printed : Bool) → cond hidden None (cond printed (behind_byte b (unescaped (c ∷ []))) None) ≡ behind_front (cond hidden None (cond printed (at_front b (c ∷ [])) None))
    by_tests true printed = refl
    by_tests false true = refl
    by_tests false false = refl
name_first b (c ∷ d ∷ word) = by_tests (eqb b 0x5C) (is_printed b) (hidden_byte c d)
  where
    by_tests : (hidden printed : Bool) (o : Option ℕ) → cond hidden (o >>= λ x. behind_byte x (unescaped word)) (cond printed (behind_byte b (unescaped (c ∷ d ∷ word))) None)
        ≡ behind_front (cond hidden (o >>= λ x. at_front x word) (cond printed (at_front b (c ∷ d ∷ word)) None))
    by_tests true printed None = refl
    by_tests true printed (Some x) = refl
    by_tests false true o = refl
    by_tests false false o = refl

pub name_end : (bytes : List ℕ) (rest : List ℕ) (total : Option (List ℕ)) → length rest ≡ 0 → with_front bytes (unescaped rest) ≡ total → total ≡ Some bytes
unfolding unescaped
name_end bytes [] total none so_far = sym so_far ∙ front_all bytes
name_end bytes (c ∷ rest) total none so_far = absurd (omega arith)

-- ---- numbers

abbrev texts : List (Bor (List ℕ)) → List (List ℕ)
texts words = map (λ word. word.now) words

module _ (front : List ℕ) (words : List (Bor (List ℕ))) (i : ℕ) (total : Option (List ℕ)) (so_far : with_front front (numbers_of (texts (drop i words))) ≡ total) where
  numbers_now : (d : Bor (List ℕ)) → i < length words → with_front front (numbers_of ((get_or words i d).now ∷ texts (drop (i + 1) words))) ≡ total
  numbers_now d low = sym (at_drop_more (λ ws. with_front front (numbers_of (texts ws))) words i d low) ∙ so_far

  pub number_goes : (d : Bor (List ℕ)) (n : ℕ) → i < length words → Some n ≡ number_of (get_or words i d).now → with_front (front ++ n ∷ []) (numbers_of (texts (drop (i + 1) words))) ≡ total
  unfolding numbers_of
  number_goes d n low e =
      sym (front_more front n (numbers_of (texts (drop (i + 1) words))))
      ∙ ap (λ (o : Option ℕ). with_front front (o >>= λ m. numbers_of (texts (drop (i + 1) words)) >>= λ ms. Some (m ∷ ms))) e ∙ numbers_now d low

  pub number_fails : (d : Bor (List ℕ)) → i < length words → ◌≡◌ {A = Option ℕ} None (number_of (get_or words i d).now) → total ≡ None
  unfolding numbers_of
  number_fails d low e =
      sym (ap (λ (o : Option ℕ). with_front front (o >>= λ m. numbers_of (texts (drop (i + 1) words)) >>= λ ms. Some (m ∷ ms))) e ∙ numbers_now d low)

  pub numbers_end : length words ≤ i → total ≡ Some front
  unfolding numbers_of
  numbers_end high = sym (sym (at_drop_all (λ ws. with_front front (numbers_of (texts ws))) words i high) ∙ so_far) ∙ front_all front
