-- A state, laid out as one list of entries, the topmost last, and one of labels.
-- Serves the contracts of this crate, which follow Stacks of `spec_validation`.
use Rattle.std.specs.Prelude.{Option, ◌≡◌, ◌≤◌, ℕ, Bool, List, [], ◌∷◌, length, take, drop, reverse}
use Rattle.wasm_form.specs.declared.types.ValType.{ValType}
use Rattle.wasm_typing.specs.States.{OpenBlock, TypingState}
use Rattle.wasm_typing.specs.declared.stacks.Label.{Label}
use Rattle.wasm_typing.specs.declared.stacks.Stacks.TheInside.{Inside}

abbrev pub levels_at : ℕ → List Label → List (Option ValType) → List OpenBlock
levels_at start [] entries = []
levels_at start (l ∷ ls) entries =
    record { label = l.types.now; below = record { entries = reverse (drop l.start (take start entries)); loose = l.loose } }
    ∷ levels_at l.start ls (take start entries)

-- the entries of a block begin above those of the block around it
abbrev pub Rises : ℕ → List Label → Type 0
Rises start [] = start ≡ 0
Rises start (l ∷ ls) = (l.start ≤ start) × Rises l.start ls

abbrev pub state_at : ℕ → Bool → List (Option ValType) → List Label → ℕ → TypingState
state_at start loose entries labels most =
    record {
      stack = record { entries = reverse (drop start entries); loose = loose };
      levels = levels_at start (reverse labels) entries;
      most = most;
    }

abbrev pub state_of : Inside → TypingState
state_of a = state_at a.start a.loose a.entries.items a.labels.items a.most

pub record LiesFlat (start : ℕ) (entries : List (Option ValType)) (labels : List Label) : Type 0 where
  pub within : start ≤ length entries
  pub rises : Rises start (reverse labels)

abbrev pub IsFlat : Inside → Type 0
IsFlat a = LiesFlat a.start a.entries.items a.labels.items
