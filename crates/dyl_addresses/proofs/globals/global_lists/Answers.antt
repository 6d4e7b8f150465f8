use Rattle.std.proofs.Common.{◌<◌, ◌^◌, sym, subst}
use Rattle.wasm_form.specs.declared.module.Module.{Module}
use Rattle.dyl_addresses.specs.Globals.{globals_end}
use Rattle.dyl_addresses.proofs.Ends.{room_for_globals}
use Rattle.dyl_addresses.proofs.globals.global_lists.Goals as goal

pub global_list-requires : goal.global_list-requires
global_list-requires c =
    let room = room_for_globals c.args.members.now c.loop-member.member-index c.member-item.result c.loop-member-test.true c.member-item.is
    c.loop-member.next _ c.loop-member.invariant.end c.requires in
    subst (λ (w : Module). globals_end c.loop-member.next w < 2 ^ 32) (sym c.module.ensures.same) room
