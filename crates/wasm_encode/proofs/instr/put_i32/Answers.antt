use Rattle.std.proofs.Common.{rules, SFits, w32, subst}
use Rattle.std.proofs.lemmas.Int.{to_z-of_z}
use Rattle.spec_reading.specs.spec_binary.Number.{SpellsSigned, IsShortest, Appends}
use Rattle.spec_reading.proofs.of_spec_binary.Joined.{on_ok, appends_after}
use Rattle.wasm_encode.proofs.instr.put_i32.Goals as goal

pub returns : goal.returns
returns c =
    let fits : SFits w32 c.args.number = search rules in
    let same = to_z-of_z w32 c.args.number fits in
    on_ok c.put_s32.result
    (λ p. appends_after 0x41 _ c.push.new.self.items _ c.in_ok-push.ensures.items (subst (λ z. Appends (IsShortest (SpellsSigned 32 z)) c.push.new.self.items c.put_s32.new.to.items) same p)) c.put_s32.ensures.ok
