use Rattle.std.proofs.Common.{◌≡◌, drop, find}
use Rattle.dyl_front.specs.Listing.{is_name_of}
use Rattle.dyl_front.proofs.names.name_among.Given as goal

abbrev pub invariant-loop-e : goal.invariant-loop-e
invariant-loop-e l = find (is_name_of l.f) (drop l.e-index l.exports) ≡ find (is_name_of l.f) l.exports
