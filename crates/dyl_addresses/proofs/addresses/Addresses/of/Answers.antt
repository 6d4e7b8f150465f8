use Rattle.std.proofs.Common.{sym, subst}
use Rattle.dyl_addresses.specs.Kept.{AreAddressesOf}
use Rattle.dyl_addresses.proofs.Whole.{addresses_are}
use Rattle.dyl_addresses.proofs.addresses.Addresses.of.Goals as goal

pub returns : goal.returns
returns c = subst (AreAddressesOf c.args.linked.now) (sym c.in_ok-addresses.ensures) (addresses_are c.args.linked.now)
