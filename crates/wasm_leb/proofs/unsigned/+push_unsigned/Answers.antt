use Rattle.std.proofs.Common.{◌+◌, ◌-◌, ◌%◌, arith, refl}
use Rattle.std.proofs.lemmas.Result.{on_ok_weaker}
use Rattle.spec_binary.proofs.UnsignedSpelling.{shortest_last, appends_more, high_small}
use Rattle.wasm_leb.proofs.unsigned.+push_unsigned.Goals as goal

pub returns-then-v-lt128-clause-ok : goal.returns-then-v-lt128-clause-ok
returns-then-v-lt128-clause-ok t c = λ n small. (_, shortest_last n c.args.v c.if-v-lt128.true small, c.in_ok-push.ensures.items)

pub returns-clause-ok : goal.returns-clause-ok
returns-clause-ok t c =
    on_ok_weaker c.push_unsigned.result
    (λ rest n small.
    appends_more _ _ _ (c.args.v % 128 + 128) n c.args.v (omega arith) small refl c.in_ok-push-2.ensures.items
    (rest (n - 7) (high_small n c.args.v (omega arith) small)))
    c.push_unsigned.ensures.ok
