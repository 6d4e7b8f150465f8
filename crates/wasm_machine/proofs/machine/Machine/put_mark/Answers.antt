use Rattle.std.proofs.Common.{◌∙◌, ap, sym}
use Rattle.wasm_machine.specs.declared.machine.Machine.TheInside.{Inside}
use Rattle.wasm_machine.proofs.Marking.{on_ok, marked_joined, parked_joined}
use Rattle.wasm_machine.proofs.machine.Machine.put_mark.Goals as goal
use Rattle.wasm_machine.proofs.machine.Machine.put_mark.Goals.{then-is_live+else-is_err-2, else-is_live}

pub invariant_of-self-2 : goal.invariant_of-self-2
invariant_of-self-2 c =
    let spare = on_ok c.spare.result _ (sym c.is_err.ensures.value ∙ c.if-is_err.false) c.spare.ensures.spare in
    let put = on_ok c.mark.result _ (sym c.is_err-2.ensures.value ∙ c.if-is_err-3.false) c.mark.ensures in
    elim c.if-is_live.branch [
      | then-is_live+else-is_err-2 w ↦ (let push = on_ok w.push.result _ (sym w.is_err-then-is_live.ensures.value ∙ w.if-is_err-2.false) w.push.ensures in
          let at = ap (λ (i : Inside). i.callers) w.self-inside-is in
          let top = ap (λ (i : Inside). i.top) w.self-inside-is in
          record {
            joined = rw top (parked_joined c.self.inside.callers w.push.new.self c.mark.new.self c.self.inside.top c.spare.new.self w.park-place.new.self w.park-place.result c.args.tag c.self.invariant.joined c.spare.ensures.same spare (sym c.is_live.ensures ∙ w.if-is_live.true) w.park-place.ensures push (rw at at put));
            awaited = tt;
          })
      | else-is_live w ↦ (let at = ap (λ (i : Inside). i.callers) w.self-inside-is in
          let top = ap (λ (i : Inside). i.top) w.self-inside-is in
          record {
            joined = rw top (marked_joined c.self.inside.callers c.mark.new.self c.self.inside.top c.spare.new.self c.args.tag c.self.invariant.joined c.spare.ensures.same spare (sym c.is_live.ensures ∙ w.if-is_live.false) (rw at at put));
            awaited = tt;
          })
    ]
