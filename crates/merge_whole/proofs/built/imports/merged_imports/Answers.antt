use Rattle.std.proofs.Common.{◌<◌, ◌∙◌, ℕ, [], length, map, refl, ap, arith}
use Rattle.std.proofs.lemmas.List.{length-map}
use Rattle.spec_loading.specs.spec_linking.LinkedSets.{hosts_of}
use Rattle.dyl_link.specs.host_table.Names.{host_name_of}
use Rattle.merge_index.specs.Kept.{numbers_in}
use Rattle.merge_module.specs.MergedModule.{types_added, host_imports}
use Rattle.merge_whole.specs.Hosts.{use_in, number_by}
use Rattle.merge_whole.proofs.HostUses.{given_is, added_are, imports_are, nullary_few, added_fit}
use Rattle.merge_whole.proofs.built.imports.merged_imports.Goals as goal

pub added_types-requires : goal.added_types-requires
added_types-requires c =
    let slice = ap length c.as_slice-given.ensures.value in
    let count = c.in_ok-uses.ensures.count in
    let hosts = ap length c.hosts-hosts.ensures in
    omega (arith, length-map c.hosts-hosts.result.now host_name_of)

pub host_imports-requires-clause-count : goal.host_imports-requires-clause-count
host_imports-requires-clause-count c =
    let slice = ap length c.as_slice-given.ensures.value in
    let count = c.in_ok-uses.ensures.count in
    let hosts = ap length c.hosts-hosts.ensures in
    omega (arith, length-map c.hosts-hosts.result.now host_name_of)

pub host_imports-requires-clause-few : goal.host_imports-requires-clause-few
host_imports-requires-clause-few c =
    let us = c.as_slice-given.result.now in
    let same = ap length c.as_slice.ensures.value in
    let fit = added_fit c.args.linked.now c.links.ensures.shape c.first_added-first.result c.in_ok-added.added.items (use_in us) c.first_added-first.ensures
    (c.in_ok-added.ensures ∙ ap (types_added (use_in us) [] 0) c.hosts-hosts.ensures) in
    omega arith

pub returns-clause-imports : goal.returns-clause-imports
returns-clause-imports c =
    let L = c.args.linked.now in
    let us = c.as_slice-given.result.now in
    let first = c.first_added-first.result in
    let tys = c.in_ok-added.added.items in
    let given = λ (e : ℕ) (lt : e < length (hosts_of L)).
    ap (λ l. use_in l e) c.as_slice-given.ensures.value ∙ c.in_ok-uses.ensures.uses e lt ∙ given_is L (numbers_in c.args.n.now) c.requires e in
    let added = added_are L (hosts_of L) refl us given tys (c.in_ok-added.ensures ∙ ap (types_added (use_in us) [] 0) c.hosts-hosts.ensures) in
    c.of.ensures ∙ c.in_ok-imports.ensures
    ∙ ap (λ l. host_imports (number_by first l us) 0 (map host_name_of c.hosts-hosts.result.now)) c.as_slice.ensures.value
    ∙ ap (host_imports (number_by first tys us) 0) c.hosts-hosts.ensures
    ∙ imports_are L (hosts_of L) refl us given first tys c.first_added-first.ensures added

pub returns-clause-types : goal.returns-clause-types
returns-clause-types c =
    let L = c.args.linked.now in
    let us = c.as_slice-given.result.now in
    let given = λ (e : ℕ) (lt : e < length (hosts_of L)).
    ap (λ l. use_in l e) c.as_slice-given.ensures.value ∙ c.in_ok-uses.ensures.uses e lt ∙ given_is L (numbers_in c.args.n.now) c.requires e in
    added_are L (hosts_of L) refl us given c.in_ok-added.added.items (c.in_ok-added.ensures ∙ ap (types_added (use_in us) [] 0) c.hosts-hosts.ensures)

pub first_added-first-requires : goal.first_added-first-requires
first_added-first-requires c = nullary_few c.args.linked.now c.links.ensures.shape
