-- What a call wants, as the code keeps it.
-- Serves the contracts of this crate, which follow Calls of `spec_hosts`.
use Rattle.std.specs.Prelude.{ℕ, ◌+◌, ◌/◌, ◌<◌, List, ◌++◌, length, map, take, Option, IfSome, IsTrue}
use Rattle.spec_hosts.specs.spec_runtime.Memories.{little}
use Rattle.spec_hosts.specs.spec_runtime.Hosts.{numbers_fit}
use Rattle.spec_hosts.specs.Calls as calls
use Rattle.host_wasi.specs.declared.calls.Call.{Call}
use Rattle.host_wasi.specs.declared.calls.Call.TheVariants as call
use Rattle.host_wasi.specs.declared.want.Buffer.{Buffer}
use Rattle.host_wasi.specs.declared.want.Want.{Want}
use Rattle.host_wasi.specs.declared.want.Want.TheVariants as want

abbrev pub meant : Call → calls.WasiCall
meant call.ArgsSizesGet = calls.ArgsSizesGet
meant call.ArgsGet = calls.ArgsGet
meant call.EnvironSizesGet = calls.EnvironSizesGet
meant call.EnvironGet = calls.EnvironGet
meant call.FdWrite = calls.FdWrite
meant call.FdRead = calls.FdRead
meant call.FdClose = calls.FdClose
meant call.FdSeek = calls.FdSeek
meant call.FdFdstatGet = calls.FdFdstatGet
meant call.FdPrestatGet = calls.FdPrestatGet
meant call.FdPrestatDirName = calls.FdPrestatDirName
meant call.ClockTimeGet = calls.ClockTimeGet
meant call.RandomGet = calls.RandomGet
meant call.ProcExit = calls.ProcExit

-- the arguments fit the type of a call, if there is one
abbrev pub FitWhere : Option calls.WasiCall → List ℕ → Type 0
FitWhere call args = IfSome call (λ c. IsTrue (numbers_fit (calls.params_of c) args))

-- the arguments fit the type of the name, where it is that of a call
abbrev pub ArgumentsFit : List ℕ → List ℕ → Type 0
ArgumentsFit name args = FitWhere (calls.call_named name) args

abbrev pub pairs : List Buffer → List (ℕ × ℕ)
pairs buffers = map (λ b. (b.at, b.len)) buffers

abbrev pub wanted_by : Want → calls.Wanted
wanted_by (want.Says answer) = calls.Says answer
wanted_by (want.PutsOut bytes out) = calls.PutsOut bytes (calls.success (calls.word_at out (length bytes)))
wanted_by (want.PutsError bytes out) = calls.PutsError bytes (calls.success (calls.word_at out (length bytes)))
wanted_by (want.Takes most buffers out) = calls.Takes most (λ bytes. calls.success (calls.filled (pairs buffers) bytes ++ calls.word_at out (length bytes)))
wanted_by (want.Times out) = calls.Times (λ t. calls.success (calls.bytes_at out (little 8 t)))
wanted_by (want.Draws at len) = calls.Draws ((len + 7) / 8) (λ words. calls.success (calls.bytes_at at (take len (calls.word_bytes words))))

-- a take asks for a byte at least
abbrev pub Asks : Want → Type 0
Asks (want.Takes most buffers out) = 0 < most
Asks _ = Unit {0}
