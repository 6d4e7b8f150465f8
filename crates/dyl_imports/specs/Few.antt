-- How much members import and define.
-- Serves the contracts of this crate, which follow Counts of `spec_linking`.
use Rattle.std.specs.Prelude.{◌≡◌, ℕ, ◌+◌, ◌≤◌, List, length, slice_get, Some}
use Rattle.dyl_search.specs.declared.set.Member.{Member}

-- each member has no more imports and functions together than the files of a set may have bytes
abbrev pub AreFew : List Member → Type 0
AreFew members = (m : ℕ) (x : Member) → slice_get members m ≡ Some x → length x.checked.imports + length x.checked.funcs ≤ 16777216
