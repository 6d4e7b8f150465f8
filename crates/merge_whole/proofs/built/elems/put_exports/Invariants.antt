use Rattle.std.proofs.Common.{◌≡◌, ◌++◌, drop, map}
use Rattle.std.specs.List.{flat_map}
use Rattle.wasm_form.specs.declared.module.Export.{Export}
use Rattle.merge_module.specs.MergedModule.{named_functions}
use Rattle.merge_index.specs.Kept.{numbers_in}
use Rattle.merge_whole.proofs.built.elems.put_exports.Given as goal

abbrev pub invariant-loop-e : goal.invariant-loop-e
invariant-loop-e l = l.to.items ++ map ((numbers_in l.n).named l.m) (flat_map (λ (x : Export). named_functions x.desc) (drop l.e-index l.e-items)) ≡ l.fn.to.items ++ map ((numbers_in l.n).named l.m) (flat_map (λ (x : Export). named_functions x.desc) l.wasm.exports)
