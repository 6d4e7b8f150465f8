-- What the table of WASI's calls allows, whatever the devices held.
-- This profile: docs/FORMATS.md, "WASI calls".
use Rattle.spec_runtime.specs.wasm_form.declared.runtime.Answer.{Answer}
use Rattle.spec_hosts.specs.Devices.{Devices}
use Rattle.spec_hosts.specs.Calls.{Wanted}
use Rattle.spec_hosts.specs.Hosted.{IsAnswered}

-- some devices answer so what is wanted
abbrev pub Allows : Wanted → Answer → Type 0
Allows wanted answer = (old : Devices) × (new : Devices) × IsAnswered wanted answer old new
