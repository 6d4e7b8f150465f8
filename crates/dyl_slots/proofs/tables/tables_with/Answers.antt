use Rattle.std.proofs.Common.{◌+◌, ◌++◌, ◌∙◌, List, map, sym, ap, ap₂}
use Rattle.wasm_form.specs.declared.runtime.Ref.TheVariants.{Loader, Host}
use Rattle.spec_loading.specs.spec_linking.Sets.{Member}
use Rattle.spec_loading.specs.spec_linking.Plans.{Plan, least_of, maxima, table_limits, limits_in}
use Rattle.spec_loading.specs.spec_linking.Slots.{outside_refs}
use Rattle.dyl_imports.specs.dyl_search.Gathers.{member_of}
use Rattle.dyl_slots.specs.Wanted.{AreSlots}
use Rattle.dyl_slots.proofs.OutsidePlaces.{outside_same}
use Rattle.dyl_slots.proofs.tables.tables_with.Goals as goal

pub returns : goal.returns
returns c = λ L placed are wanted same.
    let slots : AreSlots L c.in_ok-slots.slots = c.in_ok-slots.ensures.exact L (c.table_end.ensures ∙ ap (λ (p : Plan). p.table_end) placed) wanted in
    record {
      count = slots.count;
      members = slots.members;
      slots = slots.slots;
      cells = c.in_ok-cells.ensures L placed are slots;
      outside = c.in_ok-outside.ensures ∙ ap₂ (λ calls hosts. map Loader calls ++ map Host hosts) wanted.calls wanted.hosts ∙ sym (outside_same (outside_refs L));
      entries = same;
      most = c.least_maximum-table_max.ensures
          ∙ ap₂ (λ n (ms : List Member). least_of n (maxima (limits_in table_limits ms))) (ap (λ n. n + 65536) same) (ap (map member_of) c.members.ensures ∙ sym are.known.over.members);
    }
