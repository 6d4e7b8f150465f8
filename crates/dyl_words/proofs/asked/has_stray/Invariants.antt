use Rattle.std.proofs.Common.{◌≡◌, map, string_bytes, length}
use Rattle.dyl_words.specs.Clap.{has_stray}
use Rattle.dyl_words.proofs.asked.has_stray.Given as goal

abbrev pub invariant-loop-word : goal.invariant-loop-word
invariant-loop-word l = has_stray (map string_bytes l.rest) ≡ has_stray (map string_bytes l.words)

abbrev pub decreases-loop-word : goal.decreases-loop-word
decreases-loop-word l = length l.rest
