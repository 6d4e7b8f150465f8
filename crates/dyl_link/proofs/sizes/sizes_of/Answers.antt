use Rattle.std.proofs.Common.{◌≡◌, ◌∙◌, ◌≤◌, ◌+◌, ◌*◌, ◌/◌, ap, map, arith}
use Rattle.spec_loading.specs.spec_linking.Plans.{limits_in, memory_limits, table_limits, least_of, maxima}
use Rattle.dyl_slots.specs.dyl_search.Gathers.{member_of}
use Rattle.dyl_link.specs.Bounds.{all_limits}
use Rattle.dyl_link.proofs.Greatest.{bounds_from, least_within}
use Rattle.dyl_link.proofs.sizes.sizes_of.Goals as goal

pub returns-clause-sizes : goal.returns-clause-sizes
returns-clause-sizes c =
    let members = map member_of c.args.set.now.members in
    let memory = c.bounds_of-memory.ensures
    ∙ ap (λ ms. all_limits (record { min = 0; max = c.args.o.now.pages }) (limits_in memory_limits (map member_of ms))) c.items.ensures
    ∙ bounds_from c.args.o.now.pages (limits_in memory_limits members) in
    let table = c.bounds_of-table.ensures
    ∙ ap (λ ms. all_limits (record { min = 0; max = 983040 }) (limits_in table_limits (map member_of ms))) c.items-2.ensures
    ∙ bounds_from 983040 (limits_in table_limits members) in
    (λ i. record { stack = (c.args.o.now.stack + 15) / 16 * 16; pages_min = (memory i).min; pages_max = (memory i).max; table_min = (table i).min; table_max = (table i).max })

pub returns-clause-pages : goal.returns-clause-pages
returns-clause-pages c =
    let ls = limits_in memory_limits (map member_of c.items.result.now) in
    let most : c.bounds_of-memory.result.max ≡ least_of c.args.o.now.pages (maxima ls) = ap (λ b. b.max) (c.bounds_of-memory.ensures ∙ bounds_from c.args.o.now.pages ls) in
    let within : least_of c.args.o.now.pages (maxima ls) ≤ c.args.o.now.pages = least_within c.args.o.now.pages (maxima ls) in
    omega arith

pub returns-clause-entries : goal.returns-clause-entries
returns-clause-entries c =
    let ls = limits_in table_limits (map member_of c.items-2.result.now) in
    let most : c.bounds_of-table.result.max ≡ least_of 983040 (maxima ls) = ap (λ b. b.max) (c.bounds_of-table.ensures ∙ bounds_from 983040 ls) in
    let within : least_of 983040 (maxima ls) ≤ 983040 = least_within 983040 (maxima ls) in
    omega arith
