use Rattle.std.proofs.Common.{◌<◌, length, sym, subst}
use Rattle.dyl_link.proofs.Indices.{members_count}
use Rattle.merge_whole.specs.declared.built.counts.Space.TheVariants.{Elems, Datas}
use Rattle.merge_whole.specs.Counts.{members_of, size_in, total}
use Rattle.merge_whole.proofs.Joins.{few_members}
use Rattle.merge_whole.proofs.FewNumbers.{elems_total, datas_total, tables_within, functions_within}
use Rattle.merge_whole.proofs.built.starts.starts_by.Goals as goal

pub calls-requires : goal.calls-requires
calls-requires c = record { few = few_members c.args.linked.now c.links.ensures.shape c.members-members.result.now c.members-members.ensures }

pub total-elem_end-requires : goal.total-elem_end-requires
total-elem_end-requires c =
    let L = c.args.linked.now in
    let xs = c.members-members.result.now in
    let same = c.members-members.ensures in
    subst (λ n. total (size_in Elems) n (members_of xs) < 4294967296) (members_count L xs same)
    (subst (λ ms. total (size_in Elems) (length L.set.members) ms < 4294967296) (sym same) (elems_total L c.links.ensures.shape))

pub total-data_end-requires : goal.total-data_end-requires
total-data_end-requires c =
    subst (λ ms. total (size_in Datas) 0 ms < 4294967296) (sym c.members-members.ensures) (datas_total c.args.linked.now c.links.ensures.shape)

pub tables-requires-clause-few : goal.tables-requires-clause-few
tables-requires-clause-few c = few_members c.args.linked.now c.links.ensures.shape c.members-members.result.now c.members-members.ensures

pub tables-requires-clause-short : goal.tables-requires-clause-short
tables-requires-clause-short c = λ i x at. tables_within c.args.linked.now c.links.ensures.shape c.members-members.result.now c.members-members.ensures i x at

pub functions-requires-clause-few : goal.functions-requires-clause-few
functions-requires-clause-few c = few_members c.args.linked.now c.links.ensures.shape c.members-members.result.now c.members-members.ensures

pub functions-requires-clause-short : goal.functions-requires-clause-short
functions-requires-clause-short c = λ i x at. functions_within c.args.linked.now c.links.ensures.shape c.members-members.result.now c.members-members.ensures i x at
