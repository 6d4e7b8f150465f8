use Rattle.std.proofs.Common.{ap, refl, length}
use Rattle.dyl_search.proofs.step.next_member.Goals as goal

pub returns-in-Ok-clause-made : goal.returns-in-Ok-clause-made
returns-in-Ok-clause-made c =
    let named = c.in-Ok.ensures.named in
    record {
      asked = named.asked;
      at = named.at;
      name = named.is;
      path = refl;
      size = ap length c.as_slice.ensures.value;
      dylink = refl;
      checked = refl;
      needed = named.needed_are;
    }
