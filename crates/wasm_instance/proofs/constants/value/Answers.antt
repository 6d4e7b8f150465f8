use Rattle.std.proofs.Common.{Some, ap, sym, ◌∙◌}
use Rattle.wasm_instance.proofs.Alone.{number_of_globals}
use Rattle.wasm_instance.proofs.ConstantValues.{value_is}
use Rattle.wasm_instance.proofs.constants.value.Goals as goal

pub constant-requires-clause-numbers : goal.constant-requires-clause-numbers
constant-requires-clause-numbers c = number_of_globals c.args.m.now c.requires.source.alone.imports

pub returns : goal.returns
returns c =
    value_is c.args.m.now c.args.imported c.requires.source c.in_ok-c.c c.args.e.now c.requires.typed c.in_ok-c.ensures.value ∙ ap (λ v. Some v) (sym c.valued.ensures)
