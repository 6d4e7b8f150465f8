-- The texts so far, and then those that are left.
use Rattle.std.proofs.Common.{◌≡◌, ◌+◌, ◌++◌, drop}
use Rattle.spec_hosts.specs.Calls as calls
use Rattle.host_wasi.proofs.arguments.add_texts.Given as goal

abbrev pub invariant-loop-text : goal.invariant-loop-text
invariant-loop-text l = record {
  place_is : l.place + calls.texts_size (drop l.text-index l.texts) ≡ l.buf + calls.texts_size l.texts;
  writes_are : l.writes.items ++ calls.texts_at l.place (drop l.text-index l.texts) ≡ l.initial.writes.items ++ calls.texts_at l.buf l.texts;
}
