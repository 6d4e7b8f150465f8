-- A call that moves bytes, where its vectors are not as they have to be.
use Rattle.std.proofs.Common.{arith, ◌≡◌, ℕ, List, take, refl, ◌∙◌, Bool, true}
use Rattle.std.specs.Prelude.{◌⊎◌, ◌||◌, not, nat_eq}
use Rattle.std.proofs.lemmas.Bool.Decides.{nat_tests}
use Rattle.spec_hosts.specs.spec_runtime.Memories.{MemoryInstance}
use Rattle.spec_hosts.specs.Calls as calls
use Rattle.host_wasi.specs.Buffers.{IsRefused}

-- what is done with the buffers
abbrev pub reads : ℕ → List (ℕ × ℕ) → calls.Wanted
reads out buffers = calls.read_in out buffers (calls.sizes buffers)

abbrev pub writes : MemoryInstance → ℕ → ℕ → List (ℕ × ℕ) → calls.Wanted
writes memory fd out buffers = calls.written_out fd out (take calls.most_bytes (calls.joined memory buffers))

unless_not : (b : Bool) (errno : ℕ) (go : calls.Wanted) → b ≡ true → calls.unless (not b) errno go ≡ go
unless_not b errno go e = rw e refl

module _ (memory : MemoryInstance) (vectors n out fd errno : ℕ) (h : IsRefused memory vectors n out errno) where
  pub read_refused : fd ≡ 0 → calls.read_wanted memory fd vectors n out ≡ calls.Says (calls.refused errno)
  read_refused e = rw e (h (reads out))

  pub write_refused : (fd ≡ 1) ⊎ (fd ≡ 2) → calls.write_wanted memory fd vectors n out ≡ calls.Says (calls.refused errno)
  write_refused e =
      let writable : (nat_eq fd 1 || nat_eq fd 2) ≡ true = grind (arith, nat_tests) in
      unless_not (nat_eq fd 1 || nat_eq fd 2) calls.badf (calls.with_buffers memory vectors n out (writes memory fd out)) writable ∙ h (writes memory fd out)
