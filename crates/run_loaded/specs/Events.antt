-- What came of a step.
-- Serves the contracts of this crate, which follow Ends of `spec_hosts`.
use Rattle.std.specs.Prelude.{Option, Some, None}
use Rattle.spec_hosts.specs.wasm_form.declared.runtime.Asked.{Asked}
use Rattle.spec_hosts.specs.declared.ran.RunEnd.{RunEnd}
use Rattle.spec_hosts.specs.declared.ran.RunEnd.TheVariants as end
use Rattle.wasm_machine.specs.declared.event.Event.{Event}
use Rattle.wasm_machine.specs.declared.event.Event.TheVariants as event

-- the end that it is; a call of the loader and a mark are never told
abbrev pub end_by : Event → Option RunEnd
end_by event.Returned = Some end.Return
end_by (event.Trapped why) = Some (end.Trap why)
end_by (event.Exited code) = Some (end.Exit code)
end_by event.Deep = Some end.DepthLimit
end_by _ = None

-- the host call that it waits for
abbrev pub asked_by : Event → Option Asked
asked_by (event.Waits asked) = Some asked
asked_by _ = None
