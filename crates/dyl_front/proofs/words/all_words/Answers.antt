use Rattle.std.proofs.Common.{refl}
use Rattle.std.proofs.lemmas.Iterator.{items_from_collect}
use Rattle.std.proofs.lemmas.Iterator.Adapters.{YieldsList-from_vec}
use Rattle.std.specs.Vec.Iter.{into_iter_items, into_iter_deque}
use Rattle.dyl_front.proofs.words.all_words.Goals as goal

pub returns : goal.returns
returns c =
    items_from_collect c.collect.result c.collect.ensures.ran
    (YieldsList-from_vec {s = c.args.words} (into_iter_items c.args.words) refl (into_iter_deque c.args.words).ok.0)
