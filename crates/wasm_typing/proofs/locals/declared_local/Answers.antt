use Rattle.std.proofs.Common.{arith, ◌+◌, ◌≤◌, ◌<◌, sym}
use Rattle.wasm_typing.specs.GroupEnds.{locals_before}
use Rattle.wasm_typing.proofs.LocalSearch.{local_in}
use Rattle.wasm_typing.proofs.locals.declared_local.Goals as goal

pub returns : goal.returns
returns c =
    let begins : locals_before c.args.groups.now c.group_of.result ≤ c.args.n = omega arith in
    let end : c.args.n < locals_before c.args.groups.now (c.group_of.result + 1) = omega arith in
    sym (local_in c.args.groups.now c.group_of.result c.args.n _ c.group_of.ensures.group begins end)
