-- The names that have numbers, as they are kept.
-- Serves the contracts of this crate, which follow Wanted of `spec_linking`.
use Rattle.std.specs.Prelude.{ℕ, List, map, String, string_bytes}
use Rattle.spec_linking.specs.Wanted.{Wanted}

abbrev pub by_text : {Z : Type 0} → List (String Z × ℕ) → List Wanted
by_text es = map (λ e. record { name = string_bytes e.0; needed_by = e.1 }) es
