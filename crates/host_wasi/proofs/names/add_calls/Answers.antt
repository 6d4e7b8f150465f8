use Rattle.std.proofs.Common.{ap, ◌∙◌}
use Rattle.spec_hosts.specs.spec_runtime.Names.{with_rest}
use Rattle.spec_hosts.specs.Calls.{wasi_name}
use Rattle.host_wasi.specs.declared.calls.TheConstants.{CALLS}
use Rattle.host_wasi.specs.declared.calls.Call.TheVariants.{ArgsSizesGet}
use Rattle.host_wasi.proofs.NamedCalls.{with_names_next, with_names_done}
use Rattle.host_wasi.proofs.names.add_calls.Goals as goal

pub loop-call-preserved : goal.loop-call-preserved
loop-call-preserved c =
    with_names_next _ _ CALLS c.loop-call.call-index ArgsSizesGet _ _ c.loop-call-test.true c.name.ensures c.in_ok-ty.ensures c.in_ok-declare.ensures.ok ∙ c.loop-call.invariant

pub returns : goal.returns
returns c = c.in_ok-declare_rest.ensures.ok ∙ ap (λ n. with_rest n wasi_name) (with_names_done c.loop-call.names _ CALLS c.loop-call.call-index c.loop-call-test.false c.loop-call.invariant)
