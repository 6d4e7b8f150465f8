-- When the code of the functions of the loader is well typed (WebAssembly Core 2.0, section 3.3): the module has what the code names.
use Rattle.std.specs.Prelude.{◌≡◌, ℕ, ◌+◌, ◌<◌, ◌≤◌, ◌++◌, length, Some, true}
use Rattle.wasm_form.specs.declared.types.ValType.TheVariants.{I32}
use Rattle.wasm_form.specs.declared.types.GlobalType.{GlobalType}
use Rattle.wasm_form.specs.declared.types.FuncType.{FuncType}
use Rattle.wasm_form.specs.declared.module.Code.{Code}
use Rattle.wasm_form.specs.declared.module.Module.{Module}
use Rattle.wasm_form.specs.declared.runtime.LoaderCall.{LoaderCall}
use Rattle.spec_loading.specs.spec_binary.Indices.{declared_locals}
use Rattle.spec_loading.specs.spec_validation.Context.{Context}
use Rattle.spec_loading.specs.spec_validation.Typing.{height}
use Rattle.spec_loading.specs.spec_execution.Views.{loader_type}
use Rattle.spec_loading.specs.spec_linking.Gathering.{IsSet}
use Rattle.spec_loading.specs.spec_linking.LinkedSets.{LinkedSet}
use Rattle.merge_start.specs.Words.{Starts}
use Rattle.merge_dl.specs.Words.{Finders, handle_type, unary_type, search_type, length_body, find_body, call_body}

-- where the locals and the results are those of a function of this type, its body is well typed
abbrev pub HasHeight : Context → FuncType → Code → Type 0
HasHeight c ty code = c.locals ≡ ty.params ++ declared_locals code.locals → c.results ≡ ty.results → (h : ℕ) × (height c code.body.list ≡ Some h)

abbrev pub number_type : GlobalType
number_type = record { value = I32; mutable = true }

-- what the functions of the loader name
pub record HasNamed (c : Context) (L : LinkedSet) (x : Starts) (d : Finders) : Type 0 where
  pub memory : c.memory ≡ true
  pub error : c.globals d.error ≡ Some number_type
  pub promoted : (i : ℕ) → i ≤ length L.set.members → c.globals (x.promoted + i) ≡ Some number_type
  pub guards : (m : ℕ) → m < length L.set.members → c.globals (x.guards + m) ≡ Some number_type
  pub lengths : c.functions d.length ≡ Some unary_type
  pub finds : (m : ℕ) → m < length L.set.members → c.functions (d.find m) ≡ Some search_type
  pub opens : (m : ℕ) → m < length L.set.members → c.functions (x.opening m) ≡ Some handle_type

-- The bodies are well typed: of the length of a string, of the search of a member, and of the functions of the loader.
pub record AreBodiesTyped (L : LinkedSet) (x : Starts) (d : Finders) (c : Context) : Type 0 where
  pub lengths : c.memory ≡ true → HasHeight c unary_type length_body
  pub finds : c.memory ≡ true → (m : ℕ) (wasm : Module) → HasHeight c search_type (find_body L m wasm)
  pub calls : IsSet L.set → HasNamed c L x d → (which : LoaderCall) → HasHeight c (loader_type which) (call_body L x d which)

abbrev pub LoaderIsTyped : Type 0
LoaderIsTyped = (L : LinkedSet) (x : Starts) (d : Finders) (c : Context) → AreBodiesTyped L x d c
