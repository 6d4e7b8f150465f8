use Rattle.std.proofs.Common.{List, ◌++◌, ap, ap₂, ◌∙◌}
use Rattle.wasm_form.specs.declared.module.Code.{Code}
use Rattle.spec_loading.specs.Members.{from_members}
use Rattle.merge_index.specs.Kept.{numbers_in}
use Rattle.merge_whole.specs.Built.{bodies_of, traps_of}
use Rattle.merge_whole.proofs.Joins.{members_are, few_members}
use Rattle.merge_whole.proofs.BuiltParts.{all_codes}
use Rattle.merge_whole.proofs.built.codes.put_codes.Goals as goal

pub put_stubs-requires : goal.put_stubs-requires
put_stubs-requires c = record { few = few_members c.args.linked.now c.links.ensures.shape c.members.result.now c.members.ensures }

pub returns : goal.returns
returns c = λ x listed loader.
    let L = c.args.linked.now in
    let n = numbers_in c.args.n.now in
    all_codes L n x _ _
    (c.in_ok-put_stubs.ensures
    ∙ ap₂ (λ (u v : List Code). u ++ v)
    (c.in_ok-put_members.ensures ∙ ap (λ (l : List Code). l ++ from_members (bodies_of n) 0 L.set.members) c.requires.none)
    (members_are (traps_of L) L c.members.result.now c.members.ensures))
    (c.in_ok-put_generated.ensures n x listed loader)
