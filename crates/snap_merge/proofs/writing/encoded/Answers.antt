use Rattle.std.proofs.Common.{◌≡◌, ◌⊎◌, ℕ, Result, Ok, Err, Vec, Global, inl, inr}
use Rattle.spec_snapshots.specs.declared.fault.SnapFault.{SnapFault}
use Rattle.spec_snapshots.specs.declared.fault.SnapFault.TheVariants as faults
use Rattle.wasm_encode.specs.declared.fault.EncodeFault.{EncodeFault}
use Rattle.wasm_encode.specs.declared.fault.EncodeFault.TheVariants as encode
use Rattle.snap_merge.proofs.writing.encoded.Goals as goal

abbrev Encoded : Type 0
Encoded = Result (Vec ℕ Global) EncodeFault

abbrev Snapped : Type 0
Snapped = Result (Vec ℕ Global) SnapFault

-- a fault of the encoder is one of a snapshot
spelled : (bytes : Vec ℕ Global) (id : ℕ) → (◌≡◌ {A = Encoded} (Ok bytes) (Err (encode.SectionSize id))) ⊎ (◌≡◌ {A = Encoded} (Ok bytes) (Err encode.Memory))
    → (◌≡◌ {A = Snapped} (Ok bytes) (Err (faults.SectionSize id))) ⊎ (◌≡◌ {A = Snapped} (Ok bytes) (Err faults.Memory))
spelled bytes id (inl e) = absurd cc
spelled bytes id (inr e) = absurd cc

passed : (f : EncodeFault) (k : ℕ) → f ≡ encode.SectionSize k → (id : ℕ)
    → (◌≡◌ {A = Encoded} (Err f) (Err (encode.SectionSize id))) ⊎ (◌≡◌ {A = Encoded} (Err f) (Err encode.Memory))
    → (◌≡◌ {A = Snapped} (Err (faults.SectionSize k)) (Err (faults.SectionSize id))) ⊎ (◌≡◌ {A = Snapped} (Err (faults.SectionSize k)) (Err faults.Memory))
passed f k is id (inl e) = inl cc
passed f k is id (inr e) = absurd cc

pub returns-in-Ok-clause-only_long : goal.returns-in-Ok-clause-only_long
returns-in-Ok-clause-only_long c = λ id too. spelled c.in-Ok.bytes id (c.in-Ok.ensures.only_too_long id too)

pub returns-then-is_much-clause-only_long : goal.returns-then-is_much-clause-only_long
returns-then-is_much-clause-only_long c = λ id too.
    passed c.in-Err-SectionSize.field-0 c.in-Err-SectionSize.id c.in-Err-SectionSize.field-0-is id (c.in-Err-SectionSize.ensures.only_too_long id too)
