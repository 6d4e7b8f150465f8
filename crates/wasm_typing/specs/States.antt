-- The state of typing: a stack in each open block.
-- Serves the contracts of this crate, which follow Typing of `spec_validation`.
use Rattle.std.specs.Prelude.{◌≡◌, ℕ, ◌+◌, ◌≤◌, max, List, [], ◌∷◌, length, drop, map, Option, Some, None, Result, Ok, Err}
use Rattle.wasm_form.specs.declared.types.ValType.{ValType}
use Rattle.spec_validation.specs.Stacks.{Stack, holding, put_on}
use Rattle.spec_validation.specs.Context.{Labels}
use Rattle.spec_validation.specs.Typing.{Reach}
use Rattle.wasm_typing.specs.declared.fault.TypingFault.{TypingFault}
use Rattle.wasm_typing.specs.declared.fault.TypingFault.TheVariants.{Invalid}

-- an open block: what a branch to it takes, and what lies under it
pub record OpenBlock : Type 0 where
  pub label : List ValType
  pub below : Stack

-- the innermost block comes first
pub record TypingState : Type 0 where
  pub stack : Stack
  pub levels : List OpenBlock
  -- the greatest number of entries so far
  pub most : ℕ

abbrev pub labels_of : List OpenBlock → Labels
labels_of levels = map (λ l. l.label) levels

-- the entries of the blocks around
abbrev pub entries_below : List OpenBlock → ℕ
entries_below [] = 0
entries_below (l ∷ ls) = length l.below.entries + entries_below ls

abbrev pub with_stack : TypingState → Stack → TypingState
with_stack p s = record p { stack = s }

-- the first n entries are taken off
abbrev pub without : ℕ → Stack → Stack
without n s = record s { entries = drop n s.entries }

abbrev pub pushed : Option ValType → Stack → Stack
pushed t s = record s { entries = t ∷ s.entries }

-- of an entry off the top and those under it the one and the others
abbrev pub entry_taken : Option ValType × List (Option ValType) → Option ValType
entry_taken top = top.0

abbrev pub entries_left : Option ValType × List (Option ValType) → List (Option ValType)
entries_left top = top.1

-- the entries are counted
abbrev pub noted : TypingState → TypingState
noted p = record p { most = max p.most (entries_below p.levels + length p.stack.entries) }

-- a block is opened over what lies under its parameters
abbrev pub entered : TypingState → List ValType → List ValType → Stack → TypingState
entered p params label under = record { stack = holding params; levels = record { label = label; below = under } ∷ p.levels; most = p.most }

-- the innermost block begins anew
abbrev pub restarted : TypingState → List ValType → TypingState
restarted p params = with_stack p (holding params)

-- the innermost block is left, and gives its results
abbrev pub left : TypingState → List ValType → List OpenBlock → TypingState
left p results [] = p
left p results (l ∷ ls) = record { stack = put_on results l.below; levels = ls; most = p.most }

-- the state after, where there is one
abbrev pub reached : TypingState → Option Reach → Option TypingState
reached p None = None
reached p (Some r) = Some (record { stack = r.stack; levels = p.levels; most = max p.most (entries_below p.levels + r.high) })

-- what was left behind is where the typing leads to, unless memory was wanting
abbrev pub Reaches : Result Unit TypingFault → TypingState → TypingState → Option Reach → Type 0
Reaches (Ok x) old new typed = reached old typed ≡ Some new
Reaches (Err e) old new typed = e ≡ Invalid → typed ≡ None

-- the entries here are counted already
abbrev pub IsNoted : TypingState → Type 0
IsNoted p = entries_below p.levels + length p.stack.entries ≤ p.most
