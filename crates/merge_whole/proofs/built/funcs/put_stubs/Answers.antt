use Rattle.std.proofs.Common.{◌<◌, ◌∙◌, length, ap, arith, refl, ◌++◌, ◌+◌}
use Rattle.wasm_form.specs.declared.module.Module.{Module}
use Rattle.merge_whole.proofs.HostUses.{types_short}
use Rattle.merge_index.specs.Kept.{numbers_in}
use Rattle.spec_reading.specs.spec_binary.IndexSpaces.{functions_in, imports_of}
use Rattle.merge_whole.specs.Built.{stubs_at, stub_types_of}
use Rattle.merge_whole.proofs.Joins.{member_next}
use Rattle.merge_whole.proofs.built.funcs.put_stubs.Goals as goal

pub put_stub_types-requires : goal.put_stub_types-requires
put_stub_types-requires c =
    let imports = ap length c.items.ensures in
    let same = ap (λ (w : Module). length w.imports) c.module.ensures.same in
    let short = c.module.ensures.formed.imports.0 in
    let few : length c.items.result.now < 4294967296 = omega arith in
    types_short c.items.result.now c.as_slice.result.now (c.as_slice.ensures.value ∙ c.in_ok-types.ensures) few

pub loop-member-preserved : goal.loop-member-preserved
loop-member-preserved c =
    let n = numbers_in c.args.n.now in
    let lt : c.loop-member.member-index < length c.args.members.now = omega (arith, c.loop-member-test.true) in
    record {
      put = member_next (stub_types_of c.args.linked.now n) c.args.members.now c.loop-member.member-index c.member-item.result lt c.member-item.is
          c.loop-member.m (c.loop-member.m + 1) refl c.loop-member.to.items _ _ _ c.module.ensures.same
          (c.in_ok-put_stub_types.ensures ∙ ap (λ ts. c.loop-member.to.items ++ stubs_at c.args.linked.now c.loop-member.m (n.ty c.loop-member.m) 0 ts) (c.as_slice.ensures.value ∙ c.in_ok-types.ensures ∙ ap (imports_of functions_in) c.items.ensures))
          c.loop-member.invariant.put;
      at = ap (λ i. i + 1) c.loop-member.invariant.at;
    }
