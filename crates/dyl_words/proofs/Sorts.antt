-- How `clap` sees a word, by what it looks like.
use Rattle.std.proofs.Common.{◌≡◌, ℕ, Bool, true, false, [], ◌∷◌, Some, None, refl, sym, subst, ◌==◌}
use Rattle.std.proofs.lemmas.Bool.{eqb-true}
use Rattle.std.specs.Str.{bytes_eq}
use Rattle.dyl_words.specs.Forms.{Text, Form, ends, option, stray, plain, form_of}
use Rattle.clap.specs.Lexer.{long_of, short_of}

abbrev pub dashes : Text
dashes = 45 ∷ 45 ∷ []

abbrev pub Sort : Text → Form → Type 0
Sort u ends = u ≡ dashes
Sort u (option name value) = (bytes_eq u dashes ≡ false) × (long_of u ≡ Some (name, value))
Sort u stray = Unit {0}
Sort u plain = (bytes_eq u dashes ≡ false) × (long_of u ≡ None) × (short_of u ≡ None)

abbrev Sorted : Text → Type 0
Sorted u = Sort u (form_of u)

third : (rest : Text) → Sorted (45 ∷ 45 ∷ rest)
third [] = refl
third (z ∷ zs) = (refl, refl)

second : (y : ℕ) (ys : Text) (b : Bool) → (y == 45) ≡ b → Sorted (45 ∷ y ∷ ys)
second y ys true h = subst (λ n. Sorted (45 ∷ n ∷ ys)) (sym (eqb-true y 45 h)) (third ys)
second y ys false h = rw h tt

first : (x : ℕ) (xs : Text) (b : Bool) → (x == 45) ≡ b → Sorted (x ∷ xs)
first x [] true h = subst (λ n. Sorted (n ∷ [])) (sym (eqb-true x 45 h)) tt
first x (y ∷ ys) true h = subst (λ n. Sorted (n ∷ y ∷ ys)) (sym (eqb-true x 45 h)) (second y ys (y == 45) refl)
first x xs false h = rw h (rw h refl, rw h refl, rw h refl)

pub sorts : (u : Text) → Sorted u
sorts [] = (refl, refl, refl)
sorts (x ∷ xs) = first x xs (x == 45) refl
