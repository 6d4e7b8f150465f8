use Rattle.std.proofs.Common.{ap, refl, length}
use Rattle.wasm_machine.proofs.Asking.{leaving, leaves_joined, leaves_live, told_host, over_host, told_loader, over_loader, loader_spare, loader_small, calling_outside, calling_range, calling_arguments}
use Rattle.wasm_machine.proofs.Sound.{names_there, all_held}
use Rattle.wasm_machine.proofs.machine.Machine.ask.Goals as goal

pub outside_call-call-requires : goal.outside_call-call-requires
outside_call-call-requires g c =
    λ k. ((refl, tt), (calling_outside (g.V.View.seen c.args.view.now).fixed (g.V.View.seen c.args.view.now).units c.self.inside.callers c.self.inside.top c.self.inside.standing c.args.self.now c.self.view_is c.self.invariant.joined c.requires.outside, (names_there (g.V.View.seen c.args.view.now).fixed c.requires.over.view, (all_held (g.V.View.seen c.args.view.now).fixed (g.V.View.seen c.args.view.now).units c.requires.over.view c.requires.over.units, calling_range (g.V.View.seen c.args.view.now).fixed (g.V.View.seen c.args.view.now).units c.self.inside.callers c.self.inside.top c.self.inside.standing c.args.self.now c.self.view_is c.self.invariant.joined c.requires.outside (g.V.View.seen c.args.view.now).memory c.requires.over))))

pub leave-requires-clause-arguments : goal.leave-requires-clause-arguments
leave-requires-clause-arguments g c =
    calling_arguments (g.V.View.seen c.args.view.now).fixed (g.V.View.seen c.args.view.now).units c.self.inside.callers c.self.inside.top c.self.inside.standing c.args.self.now c.self.view_is c.self.invariant.joined c.requires.outside (g.V.View.seen c.args.view.now).memory c.outside_call-call.result c.type_of-ty.result.now c.items-params.result.now c.requires.over c.outside_call-call.ensures c.type_of-ty.ensures c.items-params.ensures

pub argument-requires : goal.argument-requires
argument-requires g c =
    let l = leaving (g.V.View.seen c.args.view.now).fixed (g.V.View.seen c.args.view.now).units (g.V.View.seen c.args.view.now).memory c.self.inside.callers c.self.inside.top c.leave.new.top c.self.inside.standing c.args.self.now c.outside_call-call.result c.type_of-ty.result.now c.items-params.result.now c.in-Ok.args.items c.self.invariant.joined c.self.view_is c.requires.outside c.outside_call-call.ensures c.type_of-ty.ensures c.items-params.ensures (calling_arguments (g.V.View.seen c.args.view.now).fixed (g.V.View.seen c.args.view.now).units c.self.inside.callers c.self.inside.top c.self.inside.standing c.args.self.now c.self.view_is c.self.invariant.joined c.requires.outside (g.V.View.seen c.args.view.now).memory c.outside_call-call.result c.type_of-ty.result.now c.items-params.result.now c.requires.over c.outside_call-call.ensures c.type_of-ty.ensures c.items-params.ensures) c.in-Ok.ensures.args c.in-Ok.ensures.left in
    rw c.deref.ensures.value (loader_small l c.in-Loader.which c.in-Loader.is)

pub argument-requires-in-Loader : goal.argument-requires-in-Loader
argument-requires-in-Loader g c =
    let l = leaving (g.V.View.seen c.args.view.now).fixed (g.V.View.seen c.args.view.now).units (g.V.View.seen c.args.view.now).memory c.self.inside.callers c.self.inside.top c.leave.new.top c.self.inside.standing c.args.self.now c.outside_call-call.result c.type_of-ty.result.now c.items-params.result.now c.in-Ok.args.items c.self.invariant.joined c.self.view_is c.requires.outside c.outside_call-call.ensures c.type_of-ty.ensures c.items-params.ensures (calling_arguments (g.V.View.seen c.args.view.now).fixed (g.V.View.seen c.args.view.now).units c.self.inside.callers c.self.inside.top c.self.inside.standing c.args.self.now c.self.view_is c.self.invariant.joined c.requires.outside (g.V.View.seen c.args.view.now).memory c.outside_call-call.result c.type_of-ty.result.now c.items-params.result.now c.requires.over c.outside_call-call.ensures c.type_of-ty.ensures c.items-params.ensures) c.in-Ok.ensures.args c.in-Ok.ensures.left in
    rw c.deref-in-Loader.ensures.value (loader_small l c.in-Loader.which c.in-Loader.is)

pub invariant_of-self-in-Host : goal.invariant_of-self-in-Host
invariant_of-self-in-Host g c =
    let l = leaving (g.V.View.seen c.args.view.now).fixed (g.V.View.seen c.args.view.now).units (g.V.View.seen c.args.view.now).memory c.self.inside.callers c.self.inside.top c.leave.new.top c.self.inside.standing c.args.self.now c.outside_call-call.result c.type_of-ty.result.now c.items-params.result.now c.in-Ok.args.items c.self.invariant.joined c.self.view_is c.requires.outside c.outside_call-call.ensures c.type_of-ty.ensures c.items-params.ensures (calling_arguments (g.V.View.seen c.args.view.now).fixed (g.V.View.seen c.args.view.now).units c.self.inside.callers c.self.inside.top c.self.inside.standing c.args.self.now c.self.view_is c.self.invariant.joined c.requires.outside (g.V.View.seen c.args.view.now).memory c.outside_call-call.result c.type_of-ty.result.now c.items-params.result.now c.requires.over c.outside_call-call.ensures c.type_of-ty.ensures c.items-params.ensures) c.in-Ok.ensures.args c.in-Ok.ensures.left in
    record { joined = leaves_joined l; awaited = λ e. c.in-Ok.ensures.spare }

pub invariant_of-self-in-Loader-1 : goal.invariant_of-self-in-Loader-1
invariant_of-self-in-Loader-1 g c =
    let l = leaving (g.V.View.seen c.args.view.now).fixed (g.V.View.seen c.args.view.now).units (g.V.View.seen c.args.view.now).memory c.self.inside.callers c.self.inside.top c.leave.new.top c.self.inside.standing c.args.self.now c.outside_call-call.result c.type_of-ty.result.now c.items-params.result.now c.in-Ok.args.items c.self.invariant.joined c.self.view_is c.requires.outside c.outside_call-call.ensures c.type_of-ty.ensures c.items-params.ensures (calling_arguments (g.V.View.seen c.args.view.now).fixed (g.V.View.seen c.args.view.now).units c.self.inside.callers c.self.inside.top c.self.inside.standing c.args.self.now c.self.view_is c.self.invariant.joined c.requires.outside (g.V.View.seen c.args.view.now).memory c.outside_call-call.result c.type_of-ty.result.now c.items-params.result.now c.requires.over c.outside_call-call.ensures c.type_of-ty.ensures c.items-params.ensures) c.in-Ok.ensures.args c.in-Ok.ensures.left in
    let spare = rw c.items-count.ensures at c.in-Ok.ensures.spare in
    record { joined = leaves_joined l; awaited = (leaves_live l, loader_spare l c.in-Loader.which c.in-Loader.is spare) }

pub returns-in-Host-clause-told : goal.returns-in-Host-clause-told
returns-in-Host-clause-told g c =
    let l = leaving (g.V.View.seen c.args.view.now).fixed (g.V.View.seen c.args.view.now).units (g.V.View.seen c.args.view.now).memory c.self.inside.callers c.self.inside.top c.leave.new.top c.self.inside.standing c.args.self.now c.outside_call-call.result c.type_of-ty.result.now c.items-params.result.now c.in-Ok.args.items c.self.invariant.joined c.self.view_is c.requires.outside c.outside_call-call.ensures c.type_of-ty.ensures c.items-params.ensures (calling_arguments (g.V.View.seen c.args.view.now).fixed (g.V.View.seen c.args.view.now).units c.self.inside.callers c.self.inside.top c.self.inside.standing c.args.self.now c.self.view_is c.self.invariant.joined c.requires.outside (g.V.View.seen c.args.view.now).memory c.outside_call-call.result c.type_of-ty.result.now c.items-params.result.now c.requires.over c.outside_call-call.ensures c.type_of-ty.ensures c.items-params.ensures) c.in-Ok.ensures.args c.in-Ok.ensures.left in
    told_host l c.in-Host.entry c.in-Host.is _ c.of.result c.of.ensures

pub returns-in-Host-clause-over : goal.returns-in-Host-clause-over
returns-in-Host-clause-over g c =
    let l = leaving (g.V.View.seen c.args.view.now).fixed (g.V.View.seen c.args.view.now).units (g.V.View.seen c.args.view.now).memory c.self.inside.callers c.self.inside.top c.leave.new.top c.self.inside.standing c.args.self.now c.outside_call-call.result c.type_of-ty.result.now c.items-params.result.now c.in-Ok.args.items c.self.invariant.joined c.self.view_is c.requires.outside c.outside_call-call.ensures c.type_of-ty.ensures c.items-params.ensures (calling_arguments (g.V.View.seen c.args.view.now).fixed (g.V.View.seen c.args.view.now).units c.self.inside.callers c.self.inside.top c.self.inside.standing c.args.self.now c.self.view_is c.self.invariant.joined c.requires.outside (g.V.View.seen c.args.view.now).memory c.outside_call-call.result c.type_of-ty.result.now c.items-params.result.now c.requires.over c.outside_call-call.ensures c.type_of-ty.ensures c.items-params.ensures) c.in-Ok.ensures.args c.in-Ok.ensures.left in
    over_host l c.in-Host.entry c.in-Host.is _ (ap length c.items-count.ensures) c.requires.over

pub returns-in-Loader-clause-told : goal.returns-in-Loader-clause-told
returns-in-Loader-clause-told g c =
    let l = leaving (g.V.View.seen c.args.view.now).fixed (g.V.View.seen c.args.view.now).units (g.V.View.seen c.args.view.now).memory c.self.inside.callers c.self.inside.top c.leave.new.top c.self.inside.standing c.args.self.now c.outside_call-call.result c.type_of-ty.result.now c.items-params.result.now c.in-Ok.args.items c.self.invariant.joined c.self.view_is c.requires.outside c.outside_call-call.ensures c.type_of-ty.ensures c.items-params.ensures (calling_arguments (g.V.View.seen c.args.view.now).fixed (g.V.View.seen c.args.view.now).units c.self.inside.callers c.self.inside.top c.self.inside.standing c.args.self.now c.self.view_is c.self.invariant.joined c.requires.outside (g.V.View.seen c.args.view.now).memory c.outside_call-call.result c.type_of-ty.result.now c.items-params.result.now c.requires.over c.outside_call-call.ensures c.type_of-ty.ensures c.items-params.ensures) c.in-Ok.ensures.args c.in-Ok.ensures.left in
    let first = rw c.deref.ensures.value at c.argument.ensures in
    let second = rw c.deref-in-Loader.ensures.value at c.argument-in-Loader.ensures in
    told_loader l c.in-Loader.which c.in-Loader.is c.argument.result c.argument-in-Loader.result first second

pub returns-in-Loader-clause-over : goal.returns-in-Loader-clause-over
returns-in-Loader-clause-over g c =
    let l = leaving (g.V.View.seen c.args.view.now).fixed (g.V.View.seen c.args.view.now).units (g.V.View.seen c.args.view.now).memory c.self.inside.callers c.self.inside.top c.leave.new.top c.self.inside.standing c.args.self.now c.outside_call-call.result c.type_of-ty.result.now c.items-params.result.now c.in-Ok.args.items c.self.invariant.joined c.self.view_is c.requires.outside c.outside_call-call.ensures c.type_of-ty.ensures c.items-params.ensures (calling_arguments (g.V.View.seen c.args.view.now).fixed (g.V.View.seen c.args.view.now).units c.self.inside.callers c.self.inside.top c.self.inside.standing c.args.self.now c.self.view_is c.self.invariant.joined c.requires.outside (g.V.View.seen c.args.view.now).memory c.outside_call-call.result c.type_of-ty.result.now c.items-params.result.now c.requires.over c.outside_call-call.ensures c.type_of-ty.ensures c.items-params.ensures) c.in-Ok.ensures.args c.in-Ok.ensures.left in
    over_loader l c.in-Loader.which c.in-Loader.is c.requires.over
