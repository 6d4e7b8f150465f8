-- The calls of WASI preview 1: their names and types, what they test, and what they want of the outside.
-- What they answer here: docs/FORMATS.md, "WASI calls".
use Rattle.std.specs.Prelude.{ℕ, zero, suc, ◌+◌, ◌*◌, ◌/◌, List, [], ◌∷◌, ◌++◌, length, map, take, drop, replicate, sum, min, nat_eq, nat_lt, nat_le, Bool, true, false, ◌||◌, not, Option, Some, None, bytes_eq, codes, if◌then◌else◌}
use Rattle.std.specs.List.{list_all, flat_map}
use Rattle.spec_runtime.specs.wasm_form.declared.types.ValType.{ValType}
use Rattle.spec_runtime.specs.wasm_form.declared.types.ValType.TheVariants.{I32, I64}
use Rattle.spec_runtime.specs.wasm_form.declared.types.FuncType.{FuncType}
use Rattle.spec_runtime.specs.wasm_form.declared.runtime.Write.{Write}
use Rattle.spec_runtime.specs.wasm_form.declared.runtime.Answer.{Answer}
use Rattle.spec_runtime.specs.wasm_form.declared.runtime.Answer.TheVariants.{Reply, Exit}
use Rattle.spec_runtime.specs.Memories.{MemoryInstance, little, little_value}
use Rattle.spec_runtime.specs.Names.{HostName, HostNames, with_names, with_rest}

abbrev pub wasi_name : List ℕ
wasi_name = codes "wasi_snapshot_preview1"

pub data WasiCall : Type 0 where
  ArgsSizesGet ArgsGet EnvironSizesGet EnvironGet FdWrite FdRead FdClose FdSeek FdFdstatGet FdPrestatGet FdPrestatDirName ClockTimeGet RandomGet ProcExit : WasiCall

abbrev pub name_of : WasiCall → List ℕ
name_of ArgsSizesGet = codes "args_sizes_get"
name_of ArgsGet = codes "args_get"
name_of EnvironSizesGet = codes "environ_sizes_get"
name_of EnvironGet = codes "environ_get"
name_of FdWrite = codes "fd_write"
name_of FdRead = codes "fd_read"
name_of FdClose = codes "fd_close"
name_of FdSeek = codes "fd_seek"
name_of FdFdstatGet = codes "fd_fdstat_get"
name_of FdPrestatGet = codes "fd_prestat_get"
name_of FdPrestatDirName = codes "fd_prestat_dir_name"
name_of ClockTimeGet = codes "clock_time_get"
name_of RandomGet = codes "random_get"
name_of ProcExit = codes "proc_exit"

abbrev pub params_of : WasiCall → List ValType
params_of ArgsSizesGet = I32 ∷ I32 ∷ []
params_of ArgsGet = I32 ∷ I32 ∷ []
params_of EnvironSizesGet = I32 ∷ I32 ∷ []
params_of EnvironGet = I32 ∷ I32 ∷ []
params_of FdWrite = I32 ∷ I32 ∷ I32 ∷ I32 ∷ []
params_of FdRead = I32 ∷ I32 ∷ I32 ∷ I32 ∷ []
params_of FdClose = I32 ∷ []
params_of FdSeek = I32 ∷ I64 ∷ I32 ∷ I32 ∷ []
params_of FdFdstatGet = I32 ∷ I32 ∷ []
params_of FdPrestatGet = I32 ∷ I32 ∷ []
params_of FdPrestatDirName = I32 ∷ I32 ∷ I32 ∷ []
params_of ClockTimeGet = I32 ∷ I64 ∷ I32 ∷ []
params_of RandomGet = I32 ∷ I32 ∷ []
params_of ProcExit = I32 ∷ []

abbrev pub results_of : WasiCall → List ValType
results_of ProcExit = []
results_of _ = I32 ∷ []

abbrev pub all_calls : List WasiCall
all_calls = ArgsSizesGet ∷ ArgsGet ∷ EnvironSizesGet ∷ EnvironGet ∷ FdWrite ∷ FdRead ∷ FdClose ∷ FdSeek ∷ FdFdstatGet ∷ FdPrestatGet ∷ FdPrestatDirName ∷ ClockTimeGet ∷ RandomGet ∷ ProcExit ∷ []

abbrev pub type_of_call : WasiCall → FuncType
type_of_call c = record { params = params_of c; results = results_of c }

abbrev pub host_name_of : WasiCall → HostName
host_name_of c = record { module_name = wasi_name; name = name_of c; ty = type_of_call c }

-- the calls are declared, and then every other name of their module
abbrev pub with_wasi : HostNames → HostNames
with_wasi names = with_rest (with_names names (map host_name_of all_calls)) wasi_name

abbrev pub first_named : List ℕ → List WasiCall → Option WasiCall
first_named name [] = None
first_named name (c ∷ cs) = if bytes_eq name (name_of c) then Some c else first_named name cs

abbrev pub call_named : List ℕ → Option WasiCall
call_named name = first_named name all_calls

-- ---- errnos

abbrev pub badf : ℕ
badf = 8

abbrev pub fault : ℕ
fault = 21

abbrev pub inval : ℕ
inval = 28

abbrev pub io : ℕ
io = 29

abbrev pub nosys : ℕ
nosys = 52

abbrev pub spipe : ℕ
spipe = 70

abbrev pub refused : ℕ → Answer
refused errno = Reply (errno ∷ []) []

-- a write of no bytes is left out
abbrev pub bytes_at : ℕ → List ℕ → List Write
bytes_at at [] = []
bytes_at at (b ∷ bytes) = record { at = at; bytes = b ∷ bytes } ∷ []

abbrev pub word_at : ℕ → ℕ → List Write
word_at at n = record { at = at; bytes = little 4 n } ∷ []

abbrev pub success : List Write → Answer
success writes = Reply (0 ∷ []) writes

-- ---- what a call wants

-- An answer at once; or one use of the outside, and the answer where that succeeds. So many random words are drawn one by one.
pub data Wanted : Type 0 where
  Says : Answer → Wanted
  PutsOut : List ℕ → Answer → Wanted
  PutsError : List ℕ → Answer → Wanted
  Takes : ℕ → (List ℕ → Answer) → Wanted
  Times : (ℕ → Answer) → Wanted
  Draws : ℕ → (List ℕ → Answer) → Wanted

-- go on, or answer an errno
abbrev pub unless : Bool → ℕ → Wanted → Wanted
unless true errno go = Says (refused errno)
unless false errno go = go

-- the start plus the length is at most the memory's size
abbrev pub is_in : MemoryInstance → ℕ → ℕ → Bool
is_in memory at len = nat_le (at + len) (length memory.bytes)

abbrev pub is_past : MemoryInstance → ℕ → ℕ → Bool
is_past memory at len = not (is_in memory at len)

-- ---- arguments of the program: texts, each with a zero byte after it

abbrev pub with_zero : List ℕ → List ℕ
with_zero text = text ++ 0 ∷ []

abbrev pub texts_size : List (List ℕ) → ℕ
texts_size texts = sum (map (λ t. length t + 1) texts)

abbrev pub sizes_wanted : List (List ℕ) → MemoryInstance → ℕ → ℕ → Wanted
sizes_wanted texts memory count size =
    unless (is_past memory count 4) fault (unless (is_past memory size 4) fault (Says (success (word_at count (length texts) ++ word_at size (texts_size texts)))))

-- the pointers to texts that lie one after the other from a place on
abbrev pub pointers_at : ℕ → ℕ → List (List ℕ) → List Write
pointers_at at place [] = []
pointers_at at place (t ∷ ts) = word_at at place ++ pointers_at (at + 4) (place + (length t + 1)) ts

abbrev pub texts_at : ℕ → List (List ℕ) → List Write
texts_at place [] = []
texts_at place (t ∷ ts) = bytes_at place (with_zero t) ++ texts_at (place + (length t + 1)) ts

abbrev pub texts_wanted : List (List ℕ) → MemoryInstance → ℕ → ℕ → Wanted
texts_wanted texts memory argv buf =
    unless (is_past memory argv (4 * length texts)) fault (unless (is_past memory buf (texts_size texts)) fault (Says (success (pointers_at argv buf texts ++ texts_at buf texts))))

-- ---- vectors: pairs of a pointer and a length

abbrev pub number_at : MemoryInstance → ℕ → ℕ
number_at memory at = little_value (take 4 (drop at memory.bytes))

abbrev pub vectors_at : MemoryInstance → ℕ → ℕ → List (ℕ × ℕ)
vectors_at memory at zero = []
vectors_at memory at (suc n) = (number_at memory at, number_at memory (at + 4)) ∷ vectors_at memory (at + 8) n

abbrev pub are_in : MemoryInstance → List (ℕ × ℕ) → Bool
are_in memory buffers = list_all (λ b. is_in memory b.0 b.1) buffers

abbrev pub most_vectors : ℕ
most_vectors = 1024

-- the most bytes that one call moves
abbrev pub most_bytes : ℕ
most_bytes = 65536

-- go on with the buffers of vectors, which are tested in order
abbrev pub with_buffers : MemoryInstance → ℕ → ℕ → ℕ → (List (ℕ × ℕ) → Wanted) → Wanted
with_buffers memory vectors n out go =
    unless (nat_lt most_vectors n) inval
    (unless (is_past memory vectors (8 * n)) fault
    (unless (not (are_in memory (vectors_at memory vectors n))) fault
    (unless (is_past memory out 4) fault
    (go (vectors_at memory vectors n)))))

-- the bytes of buffers, joined
abbrev pub joined : MemoryInstance → List (ℕ × ℕ) → List ℕ
joined memory buffers = flat_map (λ b. take b.1 (drop b.0 memory.bytes)) buffers

abbrev pub written_out : ℕ → ℕ → List ℕ → Wanted
written_out fd out [] = Says (success (word_at out 0))
written_out fd out (b ∷ bytes) =
    if nat_eq fd 1 then PutsOut (b ∷ bytes) (success (word_at out (length (b ∷ bytes)))) else PutsError (b ∷ bytes) (success (word_at out (length (b ∷ bytes))))

abbrev pub write_wanted : MemoryInstance → ℕ → ℕ → ℕ → ℕ → Wanted
write_wanted memory fd vectors n out =
    unless (not (nat_eq fd 1 || nat_eq fd 2)) badf (with_buffers memory vectors n out (λ buffers. written_out fd out (take most_bytes (joined memory buffers))))

abbrev pub sizes : List (ℕ × ℕ) → ℕ
sizes buffers = sum (map (λ b. b.1) buffers)

-- bytes put into buffers, in order
abbrev pub filled : List (ℕ × ℕ) → List ℕ → List Write
filled [] bytes = []
filled (b ∷ bs) bytes = bytes_at b.0 (take b.1 bytes) ++ filled bs (drop b.1 bytes)

abbrev pub read_in : ℕ → List (ℕ × ℕ) → ℕ → Wanted
read_in out buffers zero = Says (success (word_at out 0))
read_in out buffers (suc n) = Takes (min (suc n) most_bytes) (λ bytes. success (filled buffers bytes ++ word_at out (length bytes)))

abbrev pub read_wanted : MemoryInstance → ℕ → ℕ → ℕ → ℕ → Wanted
read_wanted memory fd vectors n out = unless (not (nat_eq fd 0)) badf (with_buffers memory vectors n out (λ buffers. read_in out buffers (sizes buffers)))

-- ---- descriptors

abbrev pub is_open : ℕ → Bool
is_open fd = nat_lt fd 3

-- a character device: what may be done with it, by the descriptor
abbrev pub rights : ℕ → ℕ
rights zero = 2
rights (suc n) = 64

abbrev pub fdstat : ℕ → List ℕ
fdstat fd = 2 ∷ replicate 7 0 ++ little 8 (rights fd) ++ little 8 0

abbrev pub fdstat_wanted : MemoryInstance → ℕ → ℕ → Wanted
fdstat_wanted memory fd out = unless (not (is_open fd)) badf (unless (is_past memory out 24) fault (Says (success (bytes_at out (fdstat fd)))))

-- ---- the clock and random words

abbrev pub time_wanted : MemoryInstance → ℕ → ℕ → Wanted
time_wanted memory id out = unless (not (nat_lt id 2)) inval (unless (is_past memory out 8) fault (Times (λ t. success (bytes_at out (little 8 t)))))

-- words by their bytes, the lowest first
abbrev pub word_bytes : List ℕ → List ℕ
word_bytes words = flat_map (little 8) words

abbrev pub random_wanted : MemoryInstance → ℕ → ℕ → Wanted
random_wanted memory buf len =
    unless (is_past memory buf len) fault (unless (nat_lt most_bytes len) inval (Draws ((len + 7) / 8) (λ words. success (bytes_at buf (take len (word_bytes words))))))

-- ---- a call

-- what a call wants, with the arguments of the program and its own
abbrev pub wanted_of : List (List ℕ) → MemoryInstance → WasiCall → List ℕ → Wanted
wanted_of texts memory ArgsSizesGet (count ∷ size ∷ []) = sizes_wanted texts memory count size
wanted_of texts memory ArgsGet (argv ∷ buf ∷ []) = texts_wanted texts memory argv buf
wanted_of texts memory EnvironSizesGet (count ∷ size ∷ []) = sizes_wanted [] memory count size
wanted_of texts memory EnvironGet (environ ∷ buf ∷ []) = Says (success [])
wanted_of texts memory FdWrite (fd ∷ vectors ∷ n ∷ out ∷ []) = write_wanted memory fd vectors n out
wanted_of texts memory FdRead (fd ∷ vectors ∷ n ∷ out ∷ []) = read_wanted memory fd vectors n out
wanted_of texts memory FdClose (fd ∷ []) = unless (not (is_open fd)) badf (Says (success []))
wanted_of texts memory FdSeek (fd ∷ offset ∷ whence ∷ out ∷ []) = unless (not (is_open fd)) badf (Says (refused spipe))
wanted_of texts memory FdFdstatGet (fd ∷ out ∷ []) = fdstat_wanted memory fd out
wanted_of texts memory FdPrestatGet (fd ∷ out ∷ []) = Says (refused badf)
wanted_of texts memory FdPrestatDirName (fd ∷ path ∷ n ∷ []) = Says (refused badf)
wanted_of texts memory ClockTimeGet (id ∷ precision ∷ out ∷ []) = time_wanted memory id out
wanted_of texts memory RandomGet (buf ∷ len ∷ []) = random_wanted memory buf len
wanted_of texts memory ProcExit (code ∷ []) = Says (Exit code)
wanted_of texts memory _ args = Says (refused nosys)

-- the same of a name that may be that of a call; any other is not there
abbrev pub wanted_where : List (List ℕ) → MemoryInstance → Option WasiCall → List ℕ → Wanted
wanted_where texts memory None args = Says (refused nosys)
wanted_where texts memory (Some c) args = wanted_of texts memory c args

abbrev pub wanted : List (List ℕ) → MemoryInstance → List ℕ → List ℕ → Wanted
wanted texts memory name args = wanted_where texts memory (call_named name) args
