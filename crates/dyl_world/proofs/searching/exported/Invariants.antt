use Rattle.std.proofs.Common.{◌≡◌, drop}
use Rattle.spec_loading.specs.spec_binary.Exports.{exported_as}
use Rattle.dyl_world.proofs.searching.exported.Given as goal

abbrev pub invariant-loop-e : goal.invariant-loop-e
invariant-loop-e l = exported_as l.name (drop l.e-index l.exports) ≡ exported_as l.name l.exports
