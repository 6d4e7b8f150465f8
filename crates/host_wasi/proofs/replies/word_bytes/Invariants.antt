-- The bytes of the words so far.
use Rattle.std.proofs.Common.{◌≡◌, ◌++◌, drop}
use Rattle.spec_hosts.specs.Calls.{word_bytes}
use Rattle.host_wasi.proofs.replies.word_bytes.Given as goal

abbrev pub invariant-loop-word : goal.invariant-loop-word
invariant-loop-word l = l.bytes.items ++ word_bytes (drop l.word-index l.words) ≡ word_bytes l.words
