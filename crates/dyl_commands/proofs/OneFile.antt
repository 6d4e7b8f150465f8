-- There is one thing to say of the file at a path.
use Rattle.std.proofs.Common.{◌≡◌, ◌⊎◌, ℕ, List, Result, Ok, Err, refl, sym, ap, ◌∙◌, subst, inl, inr}
use Rattle.wasm_form.specs.declared.module.Module.{Module}
use Rattle.spec_reading.specs.spec_binary.declared.fault.DecodeFault.{DecodeFault}
use Rattle.spec_reading.specs.spec_binary.DecodeAnswers.{DecodeAnswer}
use Rattle.spec_loading.specs.spec_linking.declared.fault.SetFault.{SetFault}
use Rattle.spec_loading.specs.spec_linking.declared.fault.SetFault.TheVariants.{Missing, Decode, Check, SetSize}
use Rattle.spec_loading.specs.spec_linking.Sets.{Files, main_name}
use Rattle.spec_loading.specs.spec_linking.Laws.{OneAnswer}
use Rattle.dyl_commands.specs.OneFile.{OfModule, OfBytes, OfFile}
use Rattle.dyl_commands.proofs.AtPaths.{There, one_there}

module _ (one_answer : OneAnswer) where
  -- ---- of a module

  one_of_module : (wasm : Module) (a b : Result Module SetFault) → OfModule wasm a → OfModule wasm b → a ≡ b
  one_of_module wasm (Ok x) (Ok y) h k = ap Ok (h.0 ∙ sym k.0)
  one_of_module wasm (Ok x) (Err (Check member fault)) h k = absurd (let none = h.1 in let some = k.1 in cc)
  one_of_module wasm (Ok x) _ h k = absurd k
  one_of_module wasm (Err (Check member fault)) (Ok y) h k = absurd (let some = h.1 in let none = k.1 in cc)
  one_of_module wasm (Err (Check member fault)) (Err (Check number other)) h k =
      let one = h.1 in
      let two = k.1 in
      let faults : fault ≡ other = cc in
      let members : member ≡ number = h.0 ∙ sym k.0 in
      ap (λ n. Err (Check n fault)) members ∙ ap (λ f. Err (Check number f)) faults
  one_of_module wasm (Err (Check member fault)) _ h k = absurd k
  one_of_module wasm _ b h k = absurd h

  -- ---- of bytes

  module _ (bytes : List ℕ) where
    -- they spell no module, or one of which this is to say
    abbrev Seen : Result Module SetFault → Type 0
    Seen said = ((fault : DecodeFault) × DecodeAnswer bytes (Err fault) × (said ≡ Err (Decode 0 fault))) ⊎ ((wasm : Module) × DecodeAnswer bytes (Ok wasm) × OfModule wasm said)

    seen : (said : Result Module SetFault) → OfBytes bytes said → Seen said
    seen (Err (Decode member fault)) h = inl (fault, h.1, ap (λ n. Err (Decode n fault)) h.0)
    seen _ h = inr h

    one_seen : (a b : Result Module SetFault) → Seen a → Seen b → a ≡ b
    one_seen a b (inl h) (inl k) =
        let same = one_answer bytes (Err h.0) (Err k.0) h.1 k.1 in
        let faults : h.0 ≡ k.0 = cc in
        h.2 ∙ ap (λ f. Err (Decode 0 f)) faults ∙ sym k.2
    one_seen a b (inl h) (inr k) = absurd (let same = one_answer bytes (Err h.0) (Ok k.0) h.1 k.1 in cc)
    one_seen a b (inr h) (inl k) = absurd (let same = one_answer bytes (Ok h.0) (Err k.0) h.1 k.1 in cc)
    one_seen a b (inr h) (inr k) =
        let same = one_answer bytes (Ok h.0) (Ok k.0) h.1 k.1 in
        let modules : k.0 ≡ h.0 = cc in
        one_of_module h.0 a b h.2 (subst (λ wasm. OfModule wasm b) modules k.2)

    one_of_bytes : (a b : Result Module SetFault) → OfBytes bytes a → OfBytes bytes b → a ≡ b
    one_of_bytes a b h k = one_seen a b (seen a h) (seen b k)

  -- ---- of a file

  module _ (path : List ℕ) where
    there : (files : Files) (said : Result Module SetFault) → OfFile files path said → There (Err (Missing (main_name path))) (Err SetSize) OfBytes (files path) said
    there files (Err (Missing name)) h = inl (h.0, ap (λ n. Err (Missing n)) h.1)
    there files (Err SetSize) h = inr (inl (h, refl))
    there files _ h = inr (inr h)

    pub one_of_file : (files : Files) (a b : Result Module SetFault) → OfFile files path a → OfFile files path b → a ≡ b
    one_of_file files a b h k = one_there (Err (Missing (main_name path))) (Err SetSize) OfBytes one_of_bytes (files path) a b (there files a h) (there files b k)
