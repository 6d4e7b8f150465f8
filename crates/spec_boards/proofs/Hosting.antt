-- One call more that was answered on a board is one more in what all calls did to the devices.
use Rattle.std.proofs.Common.{List, [], ◌∷◌, ◌++◌, refl, subst}
use Rattle.std.proofs.lemmas.List.{map-append}
use Rattle.spec_hosts.specs.wasm_form.declared.runtime.Answer.{Answer}
use Rattle.spec_hosts.specs.spec_runtime.Memories.{MemoryInstance}
use Rattle.spec_hosts.specs.spec_runtime.Hosts.{HostCall}
use Rattle.spec_hosts.specs.Devices.{Devices}
use Rattle.spec_hosts.specs.Hosted.{Embedder, IsHosted, Hosted}
use Rattle.spec_boards.specs.Boards.{Served, calls_of, answers_of}

module _ (embedder : Embedder) where
  hosted_last : (cs : List (HostCall × MemoryInstance)) (given : List Answer) (e : HostCall × MemoryInstance) (a : Answer) (old middle new : Devices)
      → Hosted embedder cs given old middle → IsHosted embedder e a middle new → Hosted embedder (cs ++ e ∷ []) (given ++ a ∷ []) old new
  hosted_last [] [] e a old middle new before last = (new, subst (λ o. IsHosted embedder e a o new) before last, refl)
  hosted_last (c ∷ cs) (d ∷ ds) e a old middle new before last = (before.0, before.1, hosted_last cs ds e a before.0 middle new before.2 last)
  hosted_last [] (d ∷ ds) e a old middle new before last = absurd before
  hosted_last (c ∷ cs) [] e a old middle new before last = absurd before

  pub served_hosted : (served : List Served) (x : Served) (begun middle now : Devices)
      → Hosted embedder (calls_of served) (answers_of served) begun middle → IsHosted embedder x.call x.answer middle now
      → Hosted embedder (calls_of (served ++ x ∷ [])) (answers_of (served ++ x ∷ [])) begun now
  served_hosted served x begun middle now before last =
      rw (map-append (λ (y : Served). y.call) served (x ∷ []), map-append (λ (y : Served). y.answer) served (x ∷ []))
      (hosted_last (calls_of served) (answers_of served) x.call x.answer begun middle now before last)
