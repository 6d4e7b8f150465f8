use Rattle.std.proofs.Common.{arith, sym}
use Rattle.wasm_single.proofs.Imports.{functions_alone}
use Rattle.wasm_single.proofs.Openings.{met_of, hosts_are_counted, core_is, origin_is}
use Rattle.wasm_single.proofs.single.Single.load.Goals as goal

pub entry_of-requires : goal.entry_of-requires
entry_of-requires c =
    let m = c.args.checked.now in
    let met = met_of c.module-m.result.now m c.args.names.now c.items.result.now c.in_ok-hosts.hosts c.module-m.ensures.same c.items.ensures c.in_ok-hosts.ensures in
    omega (arith, hosts_are_counted m c.args.names.now c.in_ok-hosts.hosts met, c.in_ok-hosts.hosts.ok.0)

pub open-requires : goal.open-requires
open-requires c =
    let m = c.args.checked.now in
    let met = met_of c.module-m.result.now m c.args.names.now c.items.result.now c.in_ok-hosts.hosts c.module-m.ensures.same c.items.ensures c.in_ok-hosts.ensures in
    functions_alone m c.args.names.now m.imports met.0

pub new-requires-2-clause-sound : goal.new-requires-2-clause-sound
new-requires-2-clause-sound c =
    let m = c.args.checked.now in
    let met = met_of c.module-m.result.now m c.args.names.now c.items.result.now c.in_ok-hosts.hosts c.module-m.ensures.same c.items.ensures c.in_ok-hosts.ensures in
    rw (c.new.ensures, c.module-m.ensures.same)
    (core_is c.args.checked c.in-Some.entry c.in-Ok.instance (sym c.in-Some.ensures) c.in-Ok.ensures c.args.names.now met.0 c.module-m.ensures.formed c.module-m.ensures.valid c.requires.numbers (rw c.module-m.ensures.same at c.holds_bytes.ensures) c.checked_code_is_typed.ensures.sound c.modules_open_soundly.ensures)

pub new-requires-2-clause-origin : goal.new-requires-2-clause-origin
new-requires-2-clause-origin c = origin_is c.args.checked.now c.in-Some.entry c.in-Ok.instance (sym c.in-Some.ensures) c.in-Ok.ensures
