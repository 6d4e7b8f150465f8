-- What answers the host calls of a run: WASI, and then a host table.
-- This profile: docs/DECISIONS.md, "The parts of a machine".
use Rattle.std.specs.Prelude.{ℕ, List, Result}
use Rattle.spec_hosts.specs.wasm_form.declared.memory.Memory.{Memory}
use Rattle.spec_hosts.specs.wasm_form.declared.runtime.Answer.{Answer}
use Rattle.spec_hosts.specs.wasm_form.declared.runtime.Asked.{Asked}
use Rattle.spec_hosts.specs.spec_runtime.Memories.{MemoryInstance}
use Rattle.spec_hosts.specs.spec_runtime.Names.{HostNames}
use Rattle.spec_hosts.specs.spec_runtime.Hosts.{HostCall}
use Rattle.spec_hosts.specs.Devices.{Devices}
use Rattle.spec_hosts.specs.Hosted.{Embedder, CallComesTo}
use Rattle.spec_hosts.specs.Laws.{run_names}
use Rattle.host_table.specs.declared.entry.HostTable.{HostTable}
use Rattle.host_table.specs.declared.host.HostName.{HostName}
use Rattle.host_table.specs.Names.{host_name_of}
use Rattle.host_table.specs.Table.{functions_of}
use Rattle.host_calls.specs.declared.hosts.Hosts.{Hosts}
use Rattle.host_calls.specs.Replies.{AnswersCall}

module _ {X : Type 0} {F : X → Type 0} {g : _} where
  -- the names of WASI, and then those of a table
  abbrev pub names_of : HostTable X F g → HostNames
  names_of table = run_names (functions_of table)

  -- what the callbacks of a table may answer
  abbrev pub answers_of : HostTable X F g → HostCall → MemoryInstance → Answer → Type 0
  answers_of table = AnswersCall (λ b args size r. g.post (b.vtable, b.value) (args, (size, tt)) r) table

  -- for a program with these arguments, of which the first one is its name
  abbrev pub embedder_of : List (List ℕ) → HostTable X F g → Embedder
  embedder_of arguments table = record { names = names_of table; arguments = arguments; callback = answers_of table }

  -- for the program and the table of a run
  abbrev pub embedder : Hosts X F g → Embedder
  embedder hosts = embedder_of hosts.wasi hosts.table.now

-- what is called
abbrev pub call_of : HostName → Asked → HostCall
call_of host asked = record { host = host_name_of host; args = asked.args }

-- what came of a call over a memory
abbrev pub Asks : Embedder → HostName → Asked → MemoryInstance → Result Answer Memory → Devices → Devices → Type 0
Asks embedder host asked memory result old new = CallComesTo embedder (call_of host asked, memory) result old new
