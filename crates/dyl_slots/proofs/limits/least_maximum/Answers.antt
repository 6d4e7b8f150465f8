use Rattle.std.proofs.Common.{◌<◌, ◌+◌, ◌∙◌, List, length, drop, map, ap, arith}
use Rattle.std.specs.List.{flat_map}
use Rattle.wasm_form.specs.declared.module.Import.{Import}
use Rattle.wasm_form.specs.declared.module.Module.{Module}
use Rattle.spec_loading.specs.spec_linking.Plans.{least_of, maxima, table_limits, limits_in}
use Rattle.dyl_imports.specs.dyl_search.Gathers.{member_of}
use Rattle.dyl_slots.proofs.Maxima.{next_member}
use Rattle.dyl_slots.proofs.limits.least_maximum.Goals as goal

pub loop-member-preserved : goal.loop-member-preserved
loop-member-preserved c =
    let members = c.args.members.now in
    let i = c.loop-member.member-index in
    let inside : i < length members = omega arith in
    let imports = c.items.ensures ∙ ap (λ (m : Module). m.imports) c.module.ensures.same in
    let least = c.with_imports-least.ensures ∙ ap (λ (is : List Import). least_of c.loop-member.least (maxima (flat_map table_limits is))) imports in
    ap (λ b. least_of b (maxima (limits_in table_limits (map member_of (drop (i + 1) members))))) least
    ∙ next_member c.loop-member.least members i c.member-item.result inside c.member-item.is
    ∙ c.loop-member.invariant
