use Rattle.std.proofs.Common.{nat_abs}
use Rattle.wasm_leb.proofs.signed.+push_signed.Given as goal

abbrev pub decreases-push_signed : goal.decreases-push_signed
decreases-push_signed l = nat_abs l.v
