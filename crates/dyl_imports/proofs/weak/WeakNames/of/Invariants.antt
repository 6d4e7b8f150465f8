use Rattle.std.proofs.Common.{◌≡◌, ◌||◌, ℕ, List, drop, map}
use Rattle.std.specs.List.{list_any}
use Rattle.spec_loading.specs.spec_linking.Definitions.{is_one_of, is_weak_note}
use Rattle.dyl_section.specs.Recorded.{import_note}
use Rattle.dyl_imports.proofs.weak.WeakNames.of.Given as goal

abbrev pub invariant-loop-note : goal.invariant-loop-note
invariant-loop-note l = (name : List ℕ) → (is_one_of name l.weak || list_any (is_weak_note name) (map import_note (drop l.note-index l.notes))) ≡ list_any (is_weak_note name) (map import_note l.notes)
