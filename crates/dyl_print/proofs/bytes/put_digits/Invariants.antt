use Rattle.std.proofs.Common.{◌≡◌, ◌++◌, drop, flat_map}
use Rattle.dyl_print.specs.Printed.{hex_byte}
use Rattle.dyl_print.proofs.bytes.put_digits.Given as goal

abbrev pub invariant-loop-b : goal.invariant-loop-b
invariant-loop-b l = l.to.items ++ flat_map hex_byte (drop l.b-index l.bytes) ≡ l.fn.to.items ++ flat_map hex_byte l.bytes
