use Rattle.std.proofs.Common.{◌≡◌, length, ap, ◌∙◌, arith}
use Rattle.merge_module.specs.MergedModule.{nullary_number}
use Rattle.merge_whole.specs.Built.{joined, types_of}
use Rattle.merge_whole.proofs.Joins.{members_are}
use Rattle.merge_whole.proofs.built.imports.nullary_number.Goals as goal

pub type_count-requires : goal.type_count-requires
type_count-requires c =
    let L = c.args.linked.now in
    let same : length (joined types_of 0 c.members.result.now) ≡ nullary_number L = ap length (members_are types_of L c.members.result.now c.members.ensures) in
    omega arith

pub returns : goal.returns
returns c = c.type_count.ensures ∙ ap length (members_are types_of c.args.linked.now c.members.result.now c.members.ensures)
