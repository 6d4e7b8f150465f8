use Rattle.std.proofs.Common.{◌<◌, ◌^◌, ◌∙◌, List, length, map, sym, ap, subst, arith}
use Rattle.std.proofs.lemmas.List.{length-map}
use Rattle.wasm_form.specs.declared.module.Module.{Module}
use Rattle.dyl_link.specs.host_table.Names.{host_name_of}
use Rattle.dyl_addresses.specs.declared.lists.Space.TheVariants.{Types}
use Rattle.dyl_addresses.specs.Lists.{size_in, numbers_end}
use Rattle.dyl_addresses.specs.Sets.{module_of}
use Rattle.dyl_addresses.proofs.Ends.{space_ends}
use Rattle.dyl_addresses.proofs.Whole.{of_modules}
use Rattle.merge_index.proofs.FewNumbers.{hosts_few, ends_few, totals_few}
use Rattle.merge_index.proofs.Whole.{kept_is}
use Rattle.merge_index.proofs.numbers.kept.Goals as goal

pub overflow_cast-hosts : goal.overflow_cast-hosts
overflow_cast-hosts c =
    let few = hosts_few c.args.linked.now c.links.ensures.shape in
    let same = ap length c.hosts.ensures in
    omega (arith, length-map c.hosts.result.now host_name_of)

pub total-first_stub-requires : goal.total-first_stub-requires
total-first_stub-requires c =
    totals_few c.args.linked.now c.links.ensures.shape (length c.hosts.result.now) c.members-members.result.now
    (sym (length-map c.hosts.result.now host_name_of) ∙ ap length c.hosts.ensures) c.members-members.ensures

pub all_stubs_end-first_phase-requires : goal.all_stubs_end-first_phase-requires
all_stubs_end-first_phase-requires c =
    let few = ends_few c.args.linked.now c.links.ensures.shape (length c.hosts.result.now) c.total-first_stub.result c.members-members.result.now c.args.named.now
    (sym (length-map c.hosts.result.now host_name_of) ∙ ap length c.hosts.ensures) c.members-members.ensures c.requires c.total-first_stub.ensures in
    omega arith

pub loader_where-loader-requires : goal.loader_where-loader-requires
loader_where-loader-requires c =
    let few = ends_few c.args.linked.now c.links.ensures.shape (length c.hosts.result.now) c.total-first_stub.result c.members-members.result.now c.args.named.now
    (sym (length-map c.hosts.result.now host_name_of) ∙ ap length c.hosts.ensures) c.members-members.ensures c.requires c.total-first_stub.ensures in
    let is = c.all_stubs_end-first_phase.ensures in
    omega arith

pub numbered-requires : goal.numbered-requires
numbered-requires c =
    totals_few c.args.linked.now c.links.ensures.shape (length c.hosts.result.now) c.members-members.result.now
    (sym (length-map c.hosts.result.now host_name_of) ∙ ap length c.hosts.ensures) c.members-members.ensures

pub numbered-requires-2 : goal.numbered-requires-2
numbered-requires-2 c =
    let L = c.args.linked.now in
    subst (λ (ws : List Module). numbers_end (size_in Types) 0 ws < 2 ^ 32) (sym (of_modules L c.members-members.result.now c.members-members.ensures))
    (space_ends L c.links.ensures.shape Types 0 (omega arith))

pub returns-clause-kept : goal.returns-clause-kept
returns-clause-kept c =
    let L = c.args.linked.now in
    let xs = c.members-members.result.now in
    kept_is L c.args.named.now c.in_ok-addresses.addresses (length c.hosts.result.now) (map module_of xs)
    (sym (length-map c.hosts.result.now host_name_of) ∙ ap length c.hosts.ensures) (of_modules L xs c.members-members.ensures)
    c.in_ok-owns.owns.items c.in_ok-imported.imported.items c.total-first_stub.result c.all_stubs_end-first_phase.result c.loader_where-loader.result
    c.in_ok-functions.functions.items c.in_ok-types.types.items
    (record { owns = c.as_slice.result.now; imported = c.as_slice-2.result.now; loader = c.loader_where-loader.result })
    c.in_ok-owns.ensures c.in_ok-imported.ensures c.total-first_stub.ensures c.all_stubs_end-first_phase.ensures c.loader_where-loader.ensures
    (λ i. record { owns = c.as_slice.ensures.value i; imported = c.as_slice-2.ensures.value i; loader = c.loader_where-loader.result })
    c.in_ok-functions.ensures c.in_ok-types.ensures
