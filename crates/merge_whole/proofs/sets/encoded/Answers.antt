use Rattle.std.proofs.Common.{◌≡◌, ◌⊎◌, ℕ, Result, Ok, Err, Vec, Global, inl, inr}
use Rattle.spec_merging.specs.declared.fault.MergeFault.{MergeFault}
use Rattle.spec_merging.specs.declared.fault.MergeFault.TheVariants as faults
use Rattle.wasm_encode.specs.declared.fault.EncodeFault.{EncodeFault}
use Rattle.wasm_encode.specs.declared.fault.EncodeFault.TheVariants as encode
use Rattle.merge_whole.proofs.Joins.{few_members}
use Rattle.merge_whole.proofs.sets.encoded.Goals as goal

abbrev Encoded : Type 0
Encoded = Result (Vec ℕ Global) EncodeFault

abbrev Merged : Type 0
Merged = Result (Vec ℕ Global) MergeFault

-- a fault of the encoder is that of the merger
written : (bytes : Vec ℕ Global) (id : ℕ) → (◌≡◌ {A = Encoded} (Ok bytes) (Err (encode.SectionSize id))) ⊎ (◌≡◌ {A = Encoded} (Ok bytes) (Err encode.Memory))
    → (◌≡◌ {A = Merged} (Ok bytes) (Err (faults.SectionSize id))) ⊎ (◌≡◌ {A = Merged} (Ok bytes) (Err faults.Memory))
written bytes id (inl e) = absurd cc
written bytes id (inr e) = absurd cc

passed : (f : EncodeFault) (k : ℕ) → f ≡ encode.SectionSize k → (id : ℕ)
    → (◌≡◌ {A = Encoded} (Err f) (Err (encode.SectionSize id))) ⊎ (◌≡◌ {A = Encoded} (Err f) (Err encode.Memory))
    → (◌≡◌ {A = Merged} (Err (faults.SectionSize k)) (Err (faults.SectionSize id))) ⊎ (◌≡◌ {A = Merged} (Err (faults.SectionSize k)) (Err faults.Memory))
passed f k is id (inl e) = inl cc
passed f k is id (inr e) = absurd cc

pub returns-in-Ok-clause-only_long : goal.returns-in-Ok-clause-only_long
returns-in-Ok-clause-only_long c = λ id too. written c.in-Ok.bytes id (c.in-Ok.ensures.only_too_long id too)

pub returns-then-is_big-clause-only_long : goal.returns-then-is_big-clause-only_long
returns-then-is_big-clause-only_long c = λ id too.
    passed c.in-Err-SectionSize.field-0 c.in-Err-SectionSize.id c.in-Err-SectionSize.field-0-is id (c.in-Err-SectionSize.ensures.only_too_long id too)

pub is_big-requires : goal.is_big-requires
is_big-requires c = few_members c.args.linked.now c.links.ensures.shape c.members.result.now c.members.ensures
