use Rattle.std.proofs.Common.{◌∙◌, length, ap, ap₂}
use Rattle.dyl_slots.specs.Found.{slot_in}
use Rattle.dyl_slots.proofs.AllTables.{cells_are}
use Rattle.dyl_slots.proofs.given.cells_with.Goals as goal

pub returns : goal.returns
returns c = λ L placed are slots.
    cells_are L c.in_ok-cells.cells.items
    (c.in_ok-cells.ensures.exact L (record { imports = are; plan = placed; slots = λ r. ap₂ (λ ms hs. slot_in ms hs c.args.slots.now.loader r) c.deref.ensures.value c.deref-2.ensures.value ∙ slots.slots r }) are.known.over.members)
    (c.in_ok-cells.ensures.count ∙ ap length c.deref.ensures.value ∙ slots.count)
