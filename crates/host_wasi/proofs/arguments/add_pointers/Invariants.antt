-- The pointers so far, and then those to the texts that are left.
use Rattle.std.proofs.Common.{◌≡◌, ◌+◌, ◌*◌, ◌++◌, drop}
use Rattle.spec_hosts.specs.Calls as calls
use Rattle.host_wasi.proofs.arguments.add_pointers.Given as goal

abbrev pub invariant-loop-text : goal.invariant-loop-text
invariant-loop-text l = record {
  at_is : l.at ≡ l.argv + 4 * l.text-index;
  place_is : l.place + calls.texts_size (drop l.text-index l.texts) ≡ l.buf + calls.texts_size l.texts;
  writes_are : l.writes.items ++ calls.pointers_at l.at l.place (drop l.text-index l.texts) ≡ l.initial.writes.items ++ calls.pointers_at l.argv l.buf l.texts;
}
