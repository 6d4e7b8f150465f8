use Rattle.std.proofs.Common.{◌^◌, sym, ap, ◌∙◌, arith}
use Rattle.std.proofs.lemmas.List.{length-map}
use Rattle.dyl_link.specs.dyl_search.Gathers.{member_of}
use Rattle.merge_whole.specs.Counts.{members_of}
use Rattle.merge_whole.proofs.Little.{bulk_is}
use Rattle.merge_whole.proofs.sets.capped_bulk.Goals as goal

pub returns-then-bulk-gt-BIG : goal.returns-then-bulk-gt-BIG
returns-then-bulk-gt-BIG c =
    let members = c.args.members.now in
    let squared = c.square-square.ensures.is ∙ ap (λ n. n ^ 2) (sym (length-map members member_of)) in
    let same = bulk_is (members_of members) c.capped_size-size.result c.square-square.result c.capped_size-size.ensures.is squared in
    omega (arith, c.if-bulk-gt-BIG.true)

pub returns-else-bulk-gt-BIG : goal.returns-else-bulk-gt-BIG
returns-else-bulk-gt-BIG c =
    let members = c.args.members.now in
    let squared = c.square-square.ensures.is ∙ ap (λ n. n ^ 2) (sym (length-map members member_of)) in
    let same = bulk_is (members_of members) c.capped_size-size.result c.square-square.result c.capped_size-size.ensures.is squared in
    omega (arith, c.if-bulk-gt-BIG.false)
