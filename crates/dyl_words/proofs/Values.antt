-- The values that the rows of `clap` have under an id.
use Rattle.std.proofs.Common.{◌≡◌, Bool, true, false, List, [], ◌∷◌, ◌++◌, refl, sym, ap, ◌∙◌, cond}
use lib.Pointwise.{bytes_decides}
use Rattle.std.specs.Str.{bytes_eq}
use Rattle.dyl_words.specs.Clap.{vals}
use Rattle.clap.specs.Words.{Row, Text}
use Rattle.clap.specs.Walk.{with_values}
use Rattle.clap.specs.declared.builder.value_parser.Reading.{Reading}
use Rattle.clap.specs.declared.parser.matches.ValueSource.TheVariants.{CommandLine}

module _ (i : Text) (how : Reading) (vs : List Text) where
  vals_same : bytes_eq i i ≡ true → (rows : List Row) → vals i (with_values i how CommandLine vs rows) ≡ vals i rows ++ vs
  vals_same same [] = rw same refl
  vals_same same (r ∷ rs) = by (bytes_eq r.id i) refl (vals_same same rs)
    where
      by : (b : Bool) → bytes_eq r.id i ≡ b → vals i (with_values i how CommandLine vs rs) ≡ vals i rs ++ vs → vals i (with_values i how CommandLine vs (r ∷ rs)) ≡ vals i (r ∷ rs) ++ vs
      by true p rest = rw p (rw p refl)
      by false p rest = rw p (rw p rest)

  vals_other : (id : Text) → ((t : Text) → bytes_eq t i ≡ true → bytes_eq t id ≡ false) → bytes_eq i i ≡ true → (rows : List Row) → vals id (with_values i how CommandLine vs rows) ≡ vals id rows
  vals_other id differ same [] = rw (differ i same) refl
  vals_other id differ same (r ∷ rs) = by (bytes_eq r.id i) refl (vals_other id differ same rs)
    where
      by : (b : Bool) → bytes_eq r.id i ≡ b → vals id (with_values i how CommandLine vs rs) ≡ vals id rs → vals id (with_values i how CommandLine vs (r ∷ rs)) ≡ vals id (r ∷ rs)
      by true p rest = rw p (rw (differ r.id p) refl)
      by false p rest = rw p (rw rest refl)

  -- a use adds its values under its own id alone
  pub vals_after : (id : Text) (rows : List Row) → vals id (with_values i how CommandLine vs rows) ≡ cond (bytes_eq i id) (vals id rows ++ vs) (vals id rows)
  vals_after id rows = by (bytes_eq i id) refl
    where
      same : bytes_eq i i ≡ true
      same = (bytes_decides i i).1 refl

      by : (b : Bool) → bytes_eq i id ≡ b → vals id (with_values i how CommandLine vs rows) ≡ cond (bytes_eq i id) (vals id rows ++ vs) (vals id rows)
      by true p = ap (λ t. vals t (with_values i how CommandLine vs rows)) (sym ((bytes_decides i id).0 p)) ∙ vals_same same rows
          ∙ ap (λ t. vals t rows ++ vs) ((bytes_decides i id).0 p) ∙ ap (λ t. cond t (vals id rows ++ vs) (vals id rows)) (sym p)
      by false p = vals_other id (λ t e. ap (λ x. bytes_eq x id) ((bytes_decides t i).0 e) ∙ p) same rows ∙ ap (λ t. cond t (vals id rows ++ vs) (vals id rows)) (sym p)
