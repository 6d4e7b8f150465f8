-- A take that is wanted asks for a byte at least.
use Rattle.std.proofs.Common.{arith, ◌≡◌, ℕ, zero, suc, ◌<◌, List, [], ◌∷◌, sym, subst, Bool, true, false, Result}
use Rattle.std.specs.Prelude.{IfOk, if◌then◌else◌, not, ◌||◌, take, nat_eq}
use Rattle.std.proofs.lemmas.Result.{IfOk-weaker}
use Rattle.spec_hosts.specs.wasm_form.declared.Memory.{Memory}
use Rattle.spec_hosts.specs.spec_runtime.Memories.{MemoryInstance}
use Rattle.spec_hosts.specs.Calls as calls
use Rattle.host_wasi.specs.Wants.{wanted_by, Asks}
use Rattle.host_wasi.specs.declared.want.Want.{Want}
use Rattle.host_wasi.proofs.Moves.{reads, writes}
use Rattle.host_wasi.specs.declared.want.Want.TheVariants as want

abbrev AsksFor : calls.Wanted → Type 0
AsksFor (calls.Takes most go) = 0 < most
AsksFor _ = Unit {0}

unless-asks : (b : Bool) (errno : ℕ) (go : calls.Wanted) → AsksFor go → AsksFor (calls.unless b errno go)
unless-asks true errno go h = tt
unless-asks false errno go h = h

either-asks : (b : Bool) (x y : calls.Wanted) → AsksFor x → AsksFor y → AsksFor (if b then x else y)
either-asks true x y h k = h
either-asks false x y h k = k

written_out-asks : (fd out : ℕ) (bytes : List ℕ) → AsksFor (calls.written_out fd out bytes)
written_out-asks fd out [] = tt
written_out-asks fd out (b ∷ bytes) = either-asks (nat_eq fd 1) _ _ tt tt

read_in-asks : (out : ℕ) (buffers : List (ℕ × ℕ)) (n : ℕ) → AsksFor (calls.read_in out buffers n)
read_in-asks out buffers zero = tt
read_in-asks out buffers (suc n) = omega arith

with_buffers-asks : (memory : MemoryInstance) (vectors n out : ℕ) (go : List (ℕ × ℕ) → calls.Wanted) → ((buffers : List (ℕ × ℕ)) → AsksFor (go buffers)) → AsksFor (calls.with_buffers memory vectors n out go)
with_buffers-asks memory vectors n out go h = search (unless-asks, h)

wanted_of-asks : (texts : List (List ℕ)) (memory : MemoryInstance) (c : calls.WasiCall) (args : List ℕ) → AsksFor (calls.wanted_of texts memory c args)
wanted_of-asks texts memory calls.ArgsSizesGet (count ∷ size ∷ []) = search unless-asks
wanted_of-asks texts memory calls.ArgsGet (argv ∷ buf ∷ []) = search unless-asks
wanted_of-asks texts memory calls.EnvironSizesGet (count ∷ size ∷ []) = search unless-asks
wanted_of-asks texts memory calls.EnvironGet (environ ∷ buf ∷ []) = tt
wanted_of-asks texts memory calls.FdWrite (fd ∷ vectors ∷ n ∷ out ∷ []) =
    unless-asks (not (nat_eq fd 1 || nat_eq fd 2)) calls.badf (calls.with_buffers memory vectors n out (writes memory fd out))
    (with_buffers-asks memory vectors n out (writes memory fd out) (λ buffers. written_out-asks fd out (take calls.most_bytes (calls.joined memory buffers))))
wanted_of-asks texts memory calls.FdRead (fd ∷ vectors ∷ n ∷ out ∷ []) =
    unless-asks (not (nat_eq fd 0)) calls.badf (calls.with_buffers memory vectors n out (reads out))
    (with_buffers-asks memory vectors n out (reads out) (λ buffers. read_in-asks out buffers (calls.sizes buffers)))
wanted_of-asks texts memory calls.FdClose (fd ∷ []) = search unless-asks
wanted_of-asks texts memory calls.FdSeek (fd ∷ offset ∷ whence ∷ out ∷ []) = search unless-asks
wanted_of-asks texts memory calls.FdFdstatGet (fd ∷ out ∷ []) = search unless-asks
wanted_of-asks texts memory calls.FdPrestatGet (fd ∷ out ∷ []) = tt
wanted_of-asks texts memory calls.FdPrestatDirName (fd ∷ path ∷ n ∷ []) = tt
wanted_of-asks texts memory calls.ClockTimeGet (id ∷ precision ∷ out ∷ []) = search unless-asks
wanted_of-asks texts memory calls.RandomGet (buf ∷ len ∷ []) = search unless-asks
wanted_of-asks texts memory calls.ProcExit (code ∷ []) = tt
wanted_of-asks texts memory _ args = tt

asks_by : (w : Want) → AsksFor (wanted_by w) → Asks w
asks_by (want.Takes most buffers out) h = h
asks_by _ h = tt

pub asks : (texts : List (List ℕ)) (memory : MemoryInstance) (c : calls.WasiCall) (args : List ℕ) (r : Result Want Memory) → IfOk r (λ w. wanted_by w ≡ calls.wanted_of texts memory c args) → IfOk r Asks
asks texts memory c args r = IfOk-weaker r (λ w. wanted_by w ≡ calls.wanted_of texts memory c args) Asks (λ w e. asks_by w (subst AsksFor (sym e) (wanted_of-asks texts memory c args)))
