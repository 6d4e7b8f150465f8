use Rattle.std.proofs.Common.{◌≡◌, ◌+◌, ◌++◌, length, map}
use Rattle.std.specs.List.{range_with_len}
use Rattle.wasm_form.specs.declared.runtime.Ref.TheVariants.{Own}
use Rattle.dyl_imports.proofs.own.add_own.Given as goal

abbrev pub invariant-loop-k : goal.invariant-loop-k
invariant-loop-k l = record {
  items : l.refs.items ≡ l.initial.refs.items ++ map (Own l.m) (range_with_len (length l.initial.refs.items) l.k);
  many : length l.refs.items ≡ length l.initial.refs.items + l.k;
}
