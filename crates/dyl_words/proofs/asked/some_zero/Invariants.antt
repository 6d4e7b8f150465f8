use Rattle.std.proofs.Common.{◌≡◌, map, string_bytes, length}
use Rattle.std.specs.List.{list_any}
use Rattle.dyl_words.specs.Words as spec
use Rattle.dyl_words.proofs.asked.some_zero.Given as goal

abbrev pub invariant-loop-word : goal.invariant-loop-word
invariant-loop-word l = list_any spec.has_zero (map string_bytes l.rest) ≡ list_any spec.has_zero (map string_bytes l.words)

abbrev pub decreases-loop-word : goal.decreases-loop-word
decreases-loop-word l = length l.rest
