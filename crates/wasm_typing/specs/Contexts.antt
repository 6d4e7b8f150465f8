-- The context that the code of a body is checked in.
-- Serves the contracts of this crate, which follow Context of `spec_validation`.
use Rattle.std.specs.Prelude.{Bool, false, ◌++◌, slice_get, Option, Some, None}
use Rattle.wasm_form.specs.declared.types.FuncType.{FuncType}
use Rattle.spec_validation.specs.spec_binary.Options.{◌>>=◌}
use Rattle.spec_validation.specs.spec_binary.Indices.{declared_locals}
use Rattle.spec_validation.specs.Context.{Context, from_to}
use Rattle.wasm_typing.specs.declared.scope.Env.{Env}
use Rattle.wasm_typing.specs.declared.scope.Signature.{Signature}

abbrev pub is_marked : Option Bool → Bool
is_marked None = false
is_marked (Some marked) = marked

abbrev pub context_of : Env → Context
context_of env = record {
  types = slice_get env.types.now;
  functions = λ n. slice_get env.functions.now n >>= λ t. slice_get env.types.now t;
  globals = slice_get env.globals.now;
  tables = slice_get env.tables.now;
  elems = slice_get env.elems.now;
  memory = env.memory;
  datas = env.datas;
  refers = λ n. is_marked (slice_get env.refers.now n);
  locals = env.params.now ++ declared_locals env.groups.now;
  results = env.results.now;
}

abbrev pub signature_of : Signature → FuncType
signature_of s = from_to s.params.now s.results.now
