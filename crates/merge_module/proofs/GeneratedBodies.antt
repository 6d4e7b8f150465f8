-- Whatever holds of bodies that can be written, and are supported, holds of each that the merger adds.
use Rattle.std.proofs.Common.{◌≡◌, ℕ, ◌+◌, List, [], ◌∷◌, ◌++◌, arith, subst}
use Rattle.std.specs.List.{All}
use Rattle.std.proofs.lemmas.List.Elements.{All-nil, All-cons, All-append}
use Rattle.std.proofs.lemmas.Option.{slice_get_within}
use Rattle.spec_reading.specs.wasm_form.declared.module.Code.{Code}
use Rattle.spec_reading.specs.wasm_form.declared.module.Module.{Module}
use Rattle.spec_reading.specs.wasm_form.declared.runtime.LoaderCall.TheVariants.{Dlopen, Dlsym, Dlclose, Dlerror}
use Rattle.spec_loading.specs.spec_linking.Sets.{Member}
use Rattle.spec_loading.specs.spec_linking.Gathering.{IsSet}
use Rattle.spec_loading.specs.spec_linking.LinkedSets.{LinkedSet}
use Rattle.spec_loading.specs.declared.task.Phase.TheVariants.{Place, Start, Relocate, Construct}
use Rattle.spec_loading.specs.Members.{from_members}
use Rattle.merge_match.specs.Renumbering.{Numbers}
use Rattle.merge_start.specs.Words.{Starts, phase_code, entry_code, open_code}
use Rattle.merge_dl.specs.Words.{Finders, length_body, find_body, call_body}
use Rattle.merge_index.specs.Numbering.{stubs_of}
use Rattle.merge_module.specs.MergedModule.{with_loader, trap_code, stub_codes, plain_code, phase_codes, finders_of, open_codes, find_codes, call_codes, loader_codes}
use Rattle.merge_module.proofs.WithLoader.{with_all}
use Rattle.merge_module.proofs.MergedSpaces.{generated_codes}
use Rattle.merge_module.proofs.Faultless.{all_of}
use Rattle.merge_module.proofs.FormedModule.{always}
use Rattle.merge_module.proofs.Pieces.{IsBody}
use Rattle.merge_module.proofs.GeneratedCode.{phase_body, entry_body, open_body, trap_body}
use Rattle.merge_find.specs.Shape.{SearchIsSmall}
use Rattle.merge_module.proofs.LoaderCode.{length_written, find_written, call_written, exports_few}

module _ (P : Code → Type 0) (holds : (size : ℕ) (c : Code) → IsBody size c → P c) where
  one : {size : ℕ} {c : Code} → IsBody size c → P c
  one {size} {c} is = holds size c is

  pub stubs_all : (L : LinkedSet) (m : ℕ) (wasm : Module) → All P (stub_codes L m wasm)
  stubs_all L m wasm = always P (λ f. trap_code) (λ f. one trap_body) (stubs_of L m wasm)

  module _ (small : SearchIsSmall) (L : LinkedSet) (set : IsSet L.set) (n : Numbers) (x : Starts) where
    abbrev members : List Member
    members = L.set.members

    abbrev d : Finders
    d = finders_of L x

    phases_all : (m : ℕ) (wasm : Module) → All P (phase_codes L n x m wasm)
    phases_all m wasm =
        let place = plain_code (phase_code L n x m wasm Place) in
        let start = plain_code (phase_code L n x m wasm Start) in
        let relocate = plain_code (phase_code L n x m wasm Relocate) in
        let construct = plain_code (phase_code L n x m wasm Construct) in
        All-cons P place (start ∷ relocate ∷ construct ∷ []) (one (phase_body L n x m wasm Place))
        (All-cons P start (relocate ∷ construct ∷ []) (one (phase_body L n x m wasm Start))
        (All-cons P relocate (construct ∷ []) (one (phase_body L n x m wasm Relocate))
        (All-cons P construct [] (one (phase_body L n x m wasm Construct)) (All-nil P))))

    opens_all : All P (open_codes L n x)
    opens_all =
        all_of P (λ m wasm. plain_code (open_code L n x m) ∷ []) 0 members (λ j y at.
        let place : j ≡ 0 + j = omega arith in
        let lt = slice_get_within members j y at in
        subst (λ m. All P (plain_code (open_code L n x m) ∷ [])) place (All-cons P (plain_code (open_code L n x j)) [] (one (open_body L n x set j lt)) (All-nil P)))

    calls_all : All P (call_codes L x)
    calls_all =
        All-cons P (call_body L x d Dlopen) (call_body L x d Dlsym ∷ call_body L x d Dlclose ∷ call_body L x d Dlerror ∷ []) (one (call_written small L set x d Dlopen))
        (All-cons P (call_body L x d Dlsym) (call_body L x d Dlclose ∷ call_body L x d Dlerror ∷ []) (one (call_written small L set x d Dlsym))
        (All-cons P (call_body L x d Dlclose) (call_body L x d Dlerror ∷ []) (one (call_written small L set x d Dlclose))
        (All-cons P (call_body L x d Dlerror) [] (one (call_written small L set x d Dlerror)) (All-nil P))))

    loader_all : All P (loader_codes L n x)
    loader_all =
        All-append P (open_codes L n x) (length_body ∷ (find_codes L ++ call_codes L x)) opens_all
        (All-cons P length_body (find_codes L ++ call_codes L x) (one length_written)
        (All-append P (find_codes L) (call_codes L x)
        (all_of P (λ m wasm. find_body L m wasm ∷ []) 0 members (λ j y at. All-cons P (find_body L (0 + j) y.wasm) [] (one (find_written small L (0 + j) y.wasm (exports_few L set j y at))) (All-nil P))) calls_all))

    pub generated_all : All P (generated_codes L n x)
    generated_all =
        let last = plain_code (entry_code L n x) in
        let loader = with_loader L (loader_codes L n x) in
        All-append P (from_members (phase_codes L n x) 0 members) (loader ++ last ∷ []) (all_of P (phase_codes L n x) 0 members (λ j y at. phases_all (0 + j) y.wasm))
        (All-append P loader (last ∷ []) (with_all L P (loader_codes L n x) (λ used. loader_all)) (All-cons P last [] (one (entry_body L n x set)) (All-nil P)))
