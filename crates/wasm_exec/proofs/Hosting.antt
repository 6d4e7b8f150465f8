-- Host calls one after the other.
use Rattle.std.proofs.Common.{List, [], ◌∷◌, ◌++◌, Result, Ok, Err, OnOk, refl, subst}
use Rattle.spec_hosts.specs.wasm_form.declared.runtime.Answer.{Answer}
use Rattle.spec_hosts.specs.spec_runtime.Memories.{MemoryInstance}
use Rattle.spec_hosts.specs.spec_runtime.Hosts.{HostCall}
use Rattle.spec_hosts.specs.Devices.{Devices}
use Rattle.spec_hosts.specs.Hosted.{Embedder, IsHosted, Hosted}

-- what holds anyway holds at a result
pub at_result : {T E : Type 0} {P : Type 0} (r : Result T E) → P → OnOk r P
at_result (Ok x) p = p
at_result (Err why) p = tt

module _ (embedder : Embedder) where
  -- one call more
  pub hosted_last : (cs : List (HostCall × MemoryInstance)) (given : List Answer) (e : HostCall × MemoryInstance) (a : Answer) (old middle new : Devices)
      → Hosted embedder cs given old middle → IsHosted embedder e a middle new → Hosted embedder (cs ++ e ∷ []) (given ++ a ∷ []) old new
  hosted_last [] [] e a old middle new before last = (new, subst (λ o. IsHosted embedder e a o new) before last, refl)
  hosted_last (c ∷ cs) (b ∷ bs) e a old middle new before last = (before.0, before.1, hosted_last cs bs e a before.0 middle new before.2 last)
  hosted_last [] (b ∷ bs) e a old middle new before last = absurd before
  hosted_last (c ∷ cs) [] e a old middle new before last = absurd before
