-- What is asked is the call that the run waits for.
use Rattle.std.proofs.Common.{subst, sym}
use Rattle.dyl_link.specs.host_table.Names.{host_name_of, HaveIntegers}
use Rattle.dyl_store.specs.Stores.{set_course}
use Rattle.host_calls.specs.Embedders.{names_of, embedder}
use Rattle.wasm_exec.proofs.Sets.{are_declared}
use Rattle.slice_exec.proofs.Calling.{must_wait, asked_within, there, arguments_fit, call_gives}
use Rattle.slice_exec.proofs.answering.ask.Goals as goal

pub unreachable-requires : goal.unreachable-requires
unreachable-requires g c =
    let q = c.requires in
    let told = must_wait (set_course c.args.store.now.linked) c.args.store.now.run c.state.result.now (c.state.ensures.tells q.found) q.waiting in
    c.in_default.not-Waits told.0 told.1

pub host_at-host-requires : goal.host_at-host-requires
host_at-host-requires g c =
    let tells = rw c.in-Waits.is at (c.state.ensures.tells c.requires.found) in
    asked_within c.args.store.now.linked c.hosts.result.now c.hosts.ensures c.in-Waits.asked c.args.store.now.run tells

pub ask-requires-clause-bound : goal.ask-requires-clause-bound
ask-requires-clause-bound g c =
    let tells = rw c.in-Waits.is at (c.state.ensures.tells c.requires.found) in
    let at = there c.args.store.now.linked c.hosts.result.now c.hosts.ensures c.in-Waits.asked c.args.store.now.run tells c.host_at-host.result.now c.host_at-host.ensures in
    c.requires.bound c.in-Waits.asked.entry (host_name_of c.host_at-host.result.now) at

pub ask-requires-clause-declared : goal.ask-requires-clause-declared
ask-requires-clause-declared g c =
    let L = c.args.store.now.linked in
    let tells = rw c.in-Waits.is at (c.state.ensures.tells c.requires.found) in
    let at = there L c.hosts.result.now c.hosts.ensures c.in-Waits.asked c.args.store.now.run tells c.host_at-host.result.now c.host_at-host.ensures in
    (are_declared L (names_of c.args.hosts.now.table.now) (subst HaveIntegers (sym c.requires.names) c.requires.integers) c.links.ensures.links c.requires.names c.in-Waits.asked.entry (host_name_of c.host_at-host.result.now) at).0

pub ask-requires-clause-arguments : goal.ask-requires-clause-arguments
ask-requires-clause-arguments g c =
    let L = c.args.store.now.linked in
    let tells = rw c.in-Waits.is at (c.state.ensures.tells c.requires.found) in
    let h = c.host_at-host.result.now in
    let at = there L c.hosts.result.now c.hosts.ensures c.in-Waits.asked c.args.store.now.run tells h c.host_at-host.ensures in
    let integers = (are_declared L (names_of c.args.hosts.now.table.now) (subst HaveIntegers (sym c.requires.names) c.requires.integers) c.links.ensures.links c.requires.names c.in-Waits.asked.entry (host_name_of h) at).1 in
    arguments_fit L c.hosts.result.now c.hosts.ensures c.in-Waits.asked c.args.store.now.run tells h c.host_at-host.ensures (rw c.in-Waits.is at (c.state.ensures.arguments c.requires.found)) integers

pub returns : goal.returns
returns g c =
    let tells = rw c.in-Waits.is at (c.state.ensures.tells c.requires.found) in
    call_gives c.args.store.now.linked c.hosts.result.now c.hosts.ensures c.in-Waits.asked c.args.store.now.run tells c.host_at-host.result.now c.host_at-host.ensures
    (embedder c.args.hosts.now) c.memory.result.now c.ask.result _ _ (c.memory.ensures c.requires.found) c.ask.ensures.asked c.ask.ensures.fits
