use Rattle.std.proofs.Common.{arith, sym, subst, ◌≡◌}
use Rattle.std.specs.Prelude.{IfOk}
use Rattle.spec_hosts.specs.Calls as calls
use Rattle.host_wasi.specs.Wants.{wanted_by}
use Rattle.host_wasi.proofs.Vectors.{buffers_count}
use Rattle.host_wasi.proofs.Moves.{read_refused}
use Rattle.host_wasi.proofs.buffers.fd_read.Goals as goal

pub returns-in-Some : goal.returns-in-Some
returns-in-Some c =
    subst (λ (x : calls.Wanted). IfOk c.refuse-in-Some.result (λ w. wanted_by w ≡ x))
    (sym (read_refused c.args.memory.now c.args.vectors c.args.n c.args.out c.args.fd c.in-Some.errno c.in-Some.ensures c.if-fd-ne0.false))
    c.refuse-in-Some.ensures

pub read_in-requires : goal.read_in-requires
read_in-requires c =
    omega (arith, buffers_count c.args.memory.now c.args.vectors c.args.n c.in_ok-buffers.buffers.items c.in_ok-buffers.ensures, c.in_default.ensures.few)
