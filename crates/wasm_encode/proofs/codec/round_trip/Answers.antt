use Rattle.std.proofs.Common.{◌≡◌, ◌⊎◌, ℕ, Result, Ok, Err, Vec, Global, inl, inr, refl}
use Rattle.wasm_form.specs.declared.module.Module.{Module}
use Rattle.wasm_encode.specs.declared.fault.EncodeFault.{EncodeFault}
use Rattle.wasm_encode.specs.declared.fault.EncodeFault.TheVariants as encode
use Rattle.wasm_encode.proofs.codec.round_trip.Goals as goal

-- bytes are no fault
written : {X : Type 0} (encoded : Result (Vec ℕ Global) EncodeFault) (bytes : Vec ℕ Global) (id : ℕ) → encoded ≡ Ok bytes
    → (encoded ≡ Err (encode.SectionSize id)) ⊎ (encoded ≡ Err encode.Memory) → X
written encoded bytes id e (inl f) = absurd cc
written encoded bytes id e (inr f) = absurd cc

-- the number that is told of one fault is that of the other
told : (encoded : Result (Vec ℕ Global) EncodeFault) (result : Result Module EncodeFault) (shown named id : ℕ) → encoded ≡ Err (encode.SectionSize named)
    → shown ≡ named → result ≡ Err (encode.SectionSize shown) → (encoded ≡ Err (encode.SectionSize id)) ⊎ (encoded ≡ Err encode.Memory)
    → (result ≡ Err (encode.SectionSize id)) ⊎ (result ≡ Err encode.Memory)
told encoded result shown named id e s r (inl f) = inl cc
told encoded result shown named id e s r (inr f) = absurd cc

pub returns-in-Ok-read_again-clause-only_too_long : goal.returns-in-Ok-read_again-clause-only_too_long
returns-in-Ok-read_again-clause-only_too_long c = λ id long. written c.encode.result c.in-Ok.bytes id c.in-Ok.is (c.encode.ensures.only_too_long id long)

pub returns-in-Err-SectionSize-clause-only_too_long : goal.returns-in-Err-SectionSize-clause-only_too_long
returns-in-Err-SectionSize-clause-only_too_long c = λ id long.
    let is = c.in-Err-SectionSize.is in
    let named = c.in-Err-SectionSize.field-0-is in
    told c.encode.result _ _ c.in-Err-SectionSize.id id (cc) c.in-Err-SectionSize.id-is refl (c.encode.ensures.only_too_long id long)
