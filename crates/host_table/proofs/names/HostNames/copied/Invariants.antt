use Rattle.std.proofs.Common.{◌≡◌, take}
use Rattle.host_table.specs.Names.{by_text}
use Rattle.host_table.proofs.names.HostNames.copied.Given as goal

abbrev pub invariant-loop-n : goal.invariant-loop-n
invariant-loop-n l = by_text l.modules.entries ≡ by_text (take l.n l.self-inside.modules.entries)
