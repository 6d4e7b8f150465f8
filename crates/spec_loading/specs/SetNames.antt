-- What the code of the members of a linked set may name, with the types that the members give: a member's numbers lead to its own items and
-- to what its imports stand for (WebAssembly Core 2.0, section 3.1.1).
use Rattle.std.specs.Prelude.{ℕ, [], Option, Some, None, false}
use Rattle.spec_linking.specs.wasm_form.declared.module.Module.{Module}
use Rattle.spec_linking.specs.spec_validation.Context.{Context}
use Rattle.spec_linking.specs.LinkedSets.{LinkedSet, wasm_of}
use Rattle.spec_linking.specs.spec_execution.Instances.{module_context}

-- nothing
abbrev pub empty_context : Context
empty_context = record {
  types = λ n. None;
  functions = λ n. None;
  globals = λ n. None;
  tables = λ n. None;
  elems = λ n. None;
  memory = false;
  datas = 0;
  refers = λ n. false;
  locals = [];
  results = [];
}

abbrev pub names_of : Option Module → Context
names_of None = empty_context
names_of (Some wasm) = module_context wasm

abbrev pub set_names : LinkedSet → ℕ → Context
set_names L m = names_of (wasm_of L m)
