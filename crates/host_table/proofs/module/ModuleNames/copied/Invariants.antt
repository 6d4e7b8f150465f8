use Rattle.std.proofs.Common.{◌≡◌, take}
use Rattle.host_table.specs.Names.{by_text, TypesHaveIntegers}
use Rattle.host_table.proofs.module.ModuleNames.copied.Given as goal

abbrev pub invariant-loop-n : goal.invariant-loop-n
invariant-loop-n l = record {
  same : by_text l.functions.entries ≡ by_text (take l.n l.self-inside.functions.entries);
  integers : TypesHaveIntegers l.functions.entries;
}
