use Rattle.std.proofs.Common.{◌≡◌, length, get_or, arith}
use Rattle.spec_loading.specs.spec_binary.IndexSpaces.{function_space}
use Rattle.dyl_imports.proofs.Counted.{counted_at, none_past}
use Rattle.dyl_imports.proofs.known.Known.type_of.Goals as goal

pub func_type-requires : goal.func_type-requires
func_type-requires c =
    let count : get_or c.args.self.now.counts.items c.args.m c.index.result.now ≡ length (function_space c.args.member.now.checked) =
    counted_at c.args.self.now.members.now c.args.self.now.counts.items c.args.m c.index.result.now c.args.member.now c.args.self.now.counted c.requires in
    omega arith

pub returns-else-f-index : goal.returns-else-f-index
returns-else-f-index c =
    let count : get_or c.args.self.now.counts.items c.args.m c.index.result.now ≡ length (function_space c.args.member.now.checked) =
    counted_at c.args.self.now.members.now c.args.self.now.counts.items c.args.m c.index.result.now c.args.member.now c.args.self.now.counted c.requires in
    none_past c.args.member.now.checked c.args.f (omega arith)
