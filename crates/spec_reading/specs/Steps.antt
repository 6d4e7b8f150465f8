-- Reading from left to right: what stands at the front of a text, and what follows it, or why no such thing stands there.
-- Serves the proof of laws: docs/LAWS.md, "There is one answer for bytes".
use Rattle.std.specs.Prelude.{ℕ, List, [], ◌∷◌, Result, Ok, Err}

-- The text breaks off being well spelled; or, in a body, a limit is passed before that.
pub data Break : Type 0 where
  Broken TooDeep TooManyLocals : Break

infixl 10 ◌>>=◌
abbrev pub ◌>>=◌ : {A B F : Type 0} → Result A F → (A → Result B F) → Result B F
(Ok x) >>= f = f x
(Err e) >>= f = Err e

abbrev pub Read : Type 0 → Type 0
Read A = Result (A × List ℕ) Break

-- what was read, if nothing follows it
abbrev pub whole : {A : Type 0} → Read A → Result A Break
whole (Ok (x, [])) = Ok x
whole (Ok (x, b ∷ bs)) = Err Broken
whole (Err e) = Err e
