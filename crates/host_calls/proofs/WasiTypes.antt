-- What the declared type of a name of WASI says of its arguments and answers; what came of a call by its binding.
use Rattle.std.proofs.Common.{◌≡◌, ℕ, true, false, List, Option, Some, None, Result, Ok, Err, IfOk, IsTrue, refl, sym, subst}
use Rattle.std.specs.Str.{bytes_eq}
use Rattle.std.proofs.lemmas.Slice.Eq.{bytes_eq-Decides}
use Rattle.spec_hosts.specs.wasm_form.declared.memory.Memory.{Memory}
use Rattle.spec_hosts.specs.wasm_form.declared.types.FuncType.{FuncType}
use Rattle.spec_hosts.specs.wasm_form.declared.runtime.Answer.{Answer}
use Rattle.spec_hosts.specs.spec_runtime.Names.{HostName, Fits, host_match}
use Rattle.spec_hosts.specs.spec_runtime.Memories.{MemoryInstance}
use Rattle.spec_hosts.specs.spec_runtime.Hosts.{HostCall, numbers_fit, fits_results}
use Rattle.spec_hosts.specs.Calls.{WasiCall, wasi_name, call_named, wanted_where}
use Rattle.spec_hosts.specs.Devices.{Devices}
use Rattle.spec_hosts.specs.Hosted.{Embedder, IsAnswered, MayBegin, ComesTo, OneOf, is_wasi, wants, CallComesTo}
use Rattle.spec_hosts.specs.Laws.{run_names, IsTypeWhere, IsWasiType, WasiGoesFirst, WasiAnswersFit}
use Rattle.host_wasi.specs.Wants.{FitWhere}

pub wasi_type : WasiGoesFirst → (table : List HostName) (from name : List ℕ) (ty : FuncType) → bytes_eq from wasi_name ≡ true → host_match (run_names table) from name ty ≡ Fits → IsWasiType name ty
wasi_type law table from name ty wasi fits = law table name ty (subst (λ f. host_match (run_names table) f name ty ≡ Fits) ((bytes_eq-Decides from wasi_name).0 wasi) fits)

fit_where : (call : Option WasiCall) (ty : FuncType) (args : List ℕ) → IsTypeWhere call ty → IsTrue (numbers_fit ty.params args) → FitWhere call args
fit_where None ty args typed fit = tt
fit_where (Some c) ty args typed fit = subst (λ (t : FuncType). IsTrue (numbers_fit t.params args)) typed fit

-- the arguments of a call fit its type
pub wasi_arguments : (call : Option WasiCall) (name : List ℕ) (ty : FuncType) (args : List ℕ) → call ≡ call_named name → IsWasiType name ty → IsTrue (numbers_fit ty.params args) → FitWhere call args
wasi_arguments call name ty args named typed fit = fit_where call ty args (subst (λ c. IsTypeWhere c ty) (sym named) typed) fit

-- what is answered to a call of a name fits its type
pub wasi_fits : WasiAnswersFit → (texts : List (List ℕ)) (memory : MemoryInstance) (call : Option WasiCall) (name : List ℕ) (ty : FuncType) (args : List ℕ) (old new : Devices) → call ≡ call_named name
    → IsWasiType name ty → IsTrue (numbers_fit ty.params args) → (r : Result Answer Memory) → ComesTo (wanted_where texts memory call args) r old new → IfOk r (λ a. IsTrue (fits_results ty.results memory a))
wasi_fits law texts memory call name ty args old new named typed fit (Ok a) answered =
    law texts memory name ty args a old new typed fit (subst (λ c. IsAnswered (wanted_where texts memory c args) a old new) named answered)
wasi_fits law texts memory call name ty args old new named typed fit (Err why) begun = tt

module _ (embedder : Embedder) (call : HostCall) (memory : MemoryInstance) where
  asked_wasi : (r : Result Answer Memory) (old new : Devices) → is_wasi call ≡ true → ComesTo (wants embedder call memory) r old new → CallComesTo embedder (call, memory) r old new
  asked_wasi (Ok a) old new wasi answered = subst (λ b. OneOf b (IsAnswered (wants embedder call memory) a old new) (embedder.callback call memory a × (new ≡ old))) (sym wasi) answered
  asked_wasi (Err why) old new wasi begun = subst (λ b. OneOf b (MayBegin (wants embedder call memory) old new) (new ≡ old)) (sym wasi) begun

  -- what came of a call of WASI
  pub wasi_asked : (named : Option WasiCall) (r : Result Answer Memory) (old new : Devices) → is_wasi call ≡ true → named ≡ call_named call.host.name
      → ComesTo (wanted_where embedder.arguments memory named call.args) r old new → CallComesTo embedder (call, memory) r old new
  wasi_asked named r old new wasi same comes = asked_wasi r old new wasi (subst (λ c. ComesTo (wanted_where embedder.arguments memory c call.args) r old new) same comes)

  -- what came of another call, which leaves the devices
  pub table_asked : (r : Result Answer Memory) (d : Devices) → is_wasi call ≡ false → IfOk r (λ a. embedder.callback call memory a) → CallComesTo embedder (call, memory) r d d
  table_asked (Ok a) d other answered = subst (λ b. OneOf b (IsAnswered (wants embedder call memory) a d d) (embedder.callback call memory a × (d ≡ d))) (sym other) (answered, refl)
  table_asked (Err why) d other answered = subst (λ b. OneOf b (MayBegin (wants embedder call memory) d d) (d ≡ d)) (sym other) refl
