-- What is so of each member of a set: it is well formed and valid.
use Rattle.std.proofs.Common.{◌≡◌, ℕ, List, length, Some, None, Result, Ok, refl, subst, slice_get}
use Rattle.spec_reading.specs.wasm_form.declared.module.Module.{Module}
use Rattle.spec_reading.specs.spec_binary.WellFormed.{IsWellFormed}
use Rattle.spec_reading.specs.spec_binary.DecodeAnswers.{DecodeAnswer, spelled}
use Rattle.spec_reading.specs.spec_binary.declared.fault.DecodeFault.{DecodeFault}
use Rattle.spec_loading.specs.spec_linking.Sets.{Member}
use Rattle.spec_loading.specs.spec_linking.Gathering.{IsMember, IsSet}
use Rattle.spec_loading.specs.spec_linking.LinkedSets.{LinkedSet, wasm_of}
use Rattle.spec_loading.specs.spec_validation.Faults.{fault}
use Rattle.spec_loading.proofs.of_spec_safety.Lookups.{went_on, holds_at}
use Rattle.spec_reading.proofs.FormedSections.{spelled_formed}

decoded_formed : (bytes : List ℕ) (r : Result Module DecodeFault) → DecodeAnswer bytes r → (m : Module) → r ≡ Ok m → IsWellFormed m
decoded_formed bytes _ (spelled {m = n} text within counts) m e = (let same : n ≡ m = cc in subst IsWellFormed same (spelled_formed n bytes text within counts))
decoded_formed bytes _ _ m e = absurd cc

pub member_formed : (m : Member) → IsMember m → IsWellFormed m.wasm
member_formed m is = decoded_formed is.bytes (Ok m.wasm) is.read.told m.wasm refl

-- a member's module is valid, well formed, and has as many bodies as functions
pub record IsSound (wasm : Module) : Type 0 where
  pub valid : fault wasm ≡ None
  pub formed : IsWellFormed wasm
  pub bodies : length wasm.codes ≡ length wasm.funcs

pub member_sound : (m : Member) → IsMember m → IsSound m.wasm
member_sound m is = (let formed = member_formed m is in record { valid = is.read.valid; formed = formed; bodies = formed.counts.bodies })

pub is_sound : (L : LinkedSet) (m : ℕ) (wasm : Module) → IsSet L.set → wasm_of L m ≡ Some wasm → IsSound wasm
is_sound L m wasm set e =
    let found = went_on (slice_get L.set.members m) (λ (y : Member). Some y.wasm) wasm e in
    let same : found.0.wasm ≡ wasm = (let h = found.2 in cc) in
    subst IsSound same (member_sound found.0 (holds_at IsMember L.set.members m found.0 set.members found.1))
