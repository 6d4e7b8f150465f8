use Rattle.std.proofs.Common.{rules}
use Rattle.std.proofs.lemmas.Iterator.{YieldsList-from_map}
use Rattle.std.proofs.lemmas.Iterator.Consumers.{YieldsList-at}
use Rattle.std.proofs.lemmas.Iterator.Adapters.{YieldsList-from_vec, items_from_extend}
use Rattle.merge_whole.specs.Built.{code_of}
use Rattle.merge_whole.proofs.built.codes.put_parts.Goals as goal

pub returns : goal.returns
returns c =
    let all = YieldsList-from_vec {s = c.into_iter.result} c.args.parts (search rules) (search rules) in
    let h = items_from_extend c.extend.result c.extend.ensures.ran
    (YieldsList-from_map _ code_of (YieldsList-at c.map.ensures.source all) c.map.ensures.closure (λ x r q k. search rules)) in
    search rules
