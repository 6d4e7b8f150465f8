-- What was answered was begun.
use Rattle.std.proofs.Common.{◌≡◌, ℕ, zero, suc, List, [], ◌∷◌, ◌++◌, Result, Ok, Err, inl, inr}
use Rattle.dyl_outside.specs.declared.fault.IoFault.{IoFault}
use Rattle.dyl_outside.specs.declared.fault.IoFault.TheVariants.{Failed, Memory}
use Rattle.dyl_outside.specs.Ambient.{AmbientState}
use Rattle.spec_runtime.specs.wasm_form.declared.runtime.Answer.{Answer}
use Rattle.spec_hosts.specs.Devices.{Devices}
use Rattle.spec_hosts.specs.Calls as calls
use Rattle.spec_hosts.specs.Hosted.{Draws, DrawsSome, AfterWord, IsAnswered, MayBegin}

pub none_drawn : (n : ℕ) (old new : AmbientState) → new ≡ old → DrawsSome n old new
none_drawn zero old new same = same
none_drawn (suc n) old new same = inl same

after_word : (n : ℕ) (more : ℕ → AmbientState → Type 0) (answer : Answer) (middle new : AmbientState) (result : Result ℕ IoFault)
    → ((word : ℕ) → more word middle → DrawsSome n middle new) → AfterWord more answer middle new result → DrawsSome n middle new
after_word n more answer middle new (Ok word) some after = some word after
after_word n more answer middle new (Err Failed) some after = none_drawn n middle new after.1
after_word n more answer middle new (Err Memory) some after = absurd after

some_drawn : (n : ℕ) (words : List ℕ) (go : List ℕ → Answer) (answer : Answer) (old new : AmbientState) → Draws n words go answer old new → DrawsSome n old new
some_drawn zero words go answer old new drawn = drawn.1
some_drawn (suc n) words go answer old new drawn =
    inr (drawn.0, drawn.1, drawn.2, after_word n (λ word clock. Draws n (words ++ word ∷ []) go answer clock new) answer drawn.1 new drawn.0 (λ word later. some_drawn n (words ++ word ∷ []) go answer drawn.1 new later) drawn.3)

pub answered_begun : (wanted : calls.Wanted) (answer : Answer) (old new : Devices) → IsAnswered wanted answer old new → MayBegin wanted old new
answered_begun (calls.Says said) answer old new h = inr h.1
answered_begun (calls.PutsOut bytes said) answer old new h = inr (h.0, h.1, h.2, h.3)
answered_begun (calls.PutsError bytes said) answer old new h = inr (h.0, h.1, h.2, h.3)
answered_begun (calls.Takes most go) answer old new h = inr (h.0, h.1, h.2, h.3)
answered_begun (calls.Times go) answer old new h = inr (h.0, h.1, h.2, h.3)
answered_begun (calls.Draws n go) answer old new h = inr (h.0, some_drawn n [] go answer old.ambient h.0 h.1, h.2)
