use Rattle.std.proofs.Common.{◌≡◌, length, ap, arith, map, refl, ◌++◌, ◌+◌, ◌<◌, ◌∙◌}
use Rattle.wasm_form.specs.declared.module.Module.{Module}
use Rattle.dyl_addresses.specs.Sets.{module_of}
use Rattle.dyl_addresses.proofs.Linked.{at_index}
use Rattle.merge_index.specs.Kept.{numbers_in}
use Rattle.std.specs.List.{range_with_len}
use Rattle.merge_whole.specs.Counts.{tables_by}
use Rattle.merge_whole.proofs.Joins.{member_next}
use Rattle.merge_whole.proofs.built.starts.tables.Goals as goal

pub table_count-count-requires : goal.table_count-count-requires
table_count-count-requires c =
    let x = c.member-item.result in
    let few = c.requires.short c.loop-member.member-index x (at_index c.args.members.now c.loop-member.member-index x c.loop-member-test.true c.member-item.is) in
    let imports : length c.module.result.now.imports ≡ length (module_of x).imports = ap (λ (w : Module). length w.imports) c.module.ensures.same in
    let tables : length c.module.result.now.tables ≡ length (module_of x).tables = ap (λ (w : Module). length w.tables) c.module.ensures.same in
    omega arith

pub loop-member-preserved : goal.loop-member-preserved
loop-member-preserved c =
    let n = numbers_in c.args.n.now in
    let lt : c.loop-member.member-index < length c.args.members.now = omega (arith, c.loop-member-test.true) in
    record {
      put = member_next (tables_by n) c.args.members.now c.loop-member.member-index c.member-item.result lt c.member-item.is
          c.loop-member.m (c.loop-member.m + 1) refl c.loop-member.list.items _ _ _ c.module.ensures.same
          (c.in_ok-put_tables.ensures ∙ ap (λ k. c.loop-member.list.items ++ map (n.table c.loop-member.m) (range_with_len 0 k)) c.table_count-count.ensures)
          c.loop-member.invariant.put;
      at = ap (λ i. i + 1) c.loop-member.invariant.at;
    }
