use Rattle.std.proofs.Common.{◌≡◌, drop}
use Rattle.spec_validation.specs.Typing.{all_land}
use Rattle.wasm_typing.specs.States.{labels_of}
use Rattle.wasm_typing.proofs.branch.all_land.Given as goal

abbrev pub invariant-loop-k : goal.invariant-loop-k
invariant-loop-k l = all_land (labels_of l.at.levels) l.arity l.at.stack (drop l.k-index l.ks) ≡ all_land (labels_of l.at.levels) l.arity
    l.at.stack l.ks
