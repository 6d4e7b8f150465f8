-- The context of a body, from what is kept of the module.
use Rattle.std.proofs.Common.{arith, ◌≡◌, ℕ, Bool, List, [], ◌∷◌, ◌++◌, length, map, refl, ap, subst, ◌∙◌, Option, Some, None, Result}
use Rattle.std.specs.Prelude.{nat_lt, slice_get, option_map}
use Rattle.std.proofs.Math.Path.{fun_ext}
use Rattle.std.proofs.lemmas.Bool.{lt-ltb}
use Rattle.std.proofs.lemmas.Option.{slice_get-map}
use Rattle.wasm_form.specs.declared.types.ValType.{ValType}
use Rattle.wasm_form.specs.declared.types.FuncType.{FuncType}
use Rattle.wasm_form.specs.declared.types.Limits.{Limits}
use Rattle.wasm_form.specs.declared.types.GlobalType.{GlobalType}
use Rattle.wasm_form.specs.declared.instr.Instr.{Instr}
use Rattle.wasm_form.specs.declared.module.Group.{Group}
use Rattle.wasm_form.specs.declared.module.Code.{Code}
use Rattle.wasm_form.specs.declared.module.Module.{Module}
use Rattle.spec_execution.specs.spec_binary.Options.{◌>>=◌}
use Rattle.spec_execution.specs.spec_binary.Indices.{declared_locals, function_type}
use Rattle.spec_execution.specs.spec_binary.IndexSpaces.{function_space, table_space, memory_space, global_space}
use Rattle.spec_execution.specs.spec_validation.Context.{Context}
use Rattle.spec_execution.specs.spec_validation.Typing.{height}
use Rattle.spec_execution.specs.spec_validation.Faults.{refers, elem_of_table, type_of_elem, is_some_memory, body_context}
use Rattle.wasm_typing.specs.declared.fault.TypingFault.{TypingFault}
use Rattle.wasm_typing.specs.Answers.{Obtains}
use Rattle.wasm_check.specs.Spaces.{entry_type, entries, item_type_of}
use Rattle.wasm_check.specs.Marks.{AreMarks}
use Rattle.wasm_typing.specs.Contexts.{is_marked}

mapped : {A B : Type 0} (f : A → B) (o : Option A) → option_map f o ≡ (o >>= λ x. Some (f x))
mapped f None = refl
mapped f (Some x) = refl

-- look-ups in a list of what another one gives
looked_up : {A B : Type 0} (f : A → B) (xs : List A) → slice_get (map f xs) ≡ (λ (n : ℕ). slice_get xs n >>= λ x. Some (f x))
looked_up f xs = fun_ext (λ n. slice_get-map f xs n ∙ mapped f (slice_get xs n))

marked : (m : Module) (marks : List Bool) → AreMarks m marks → (λ (n : ℕ). is_marked (slice_get marks n)) ≡ refers m
marked m marks are = fun_ext are

-- the context of a body, but for tables, element segments and what it may refer to
abbrev with_parts : Module → FuncType → Code → (ℕ → Option ValType) → (ℕ → Option ValType) → (ℕ → Bool) → Context
with_parts m f c tables elems marks = record {
  types = slice_get m.types;
  functions = function_type m;
  globals = slice_get (global_space m);
  tables = tables;
  elems = elems;
  memory = is_some_memory (memory_space m);
  datas = length m.datas;
  refers = marks;
  locals = f.params ++ declared_locals c.locals;
  results = f.results;
}

parts_agree : (m : Module) (f : FuncType) (c : Code) (marks : List Bool) → AreMarks m marks
    → with_parts m f c (slice_get (entries (table_space m))) (slice_get (map item_type_of m.elems)) (λ n. is_marked (slice_get marks n))
    ≡ body_context m f c
parts_agree m f c marks are =
    ap (λ (t : ℕ → Option ValType). with_parts m f c t (slice_get (map item_type_of m.elems)) (λ n. is_marked (slice_get marks n)))
    (looked_up entry_type (table_space m))
    ∙ ap (λ (e : ℕ → Option ValType). with_parts m f c (λ n. slice_get (table_space m) n >>= elem_of_table) e
    (λ n. is_marked (slice_get marks n))) (looked_up item_type_of m.elems)
    ∙ ap (λ (r : ℕ → Bool). with_parts m f c (λ n. slice_get (table_space m) n >>= elem_of_table)
    (λ n. slice_get m.elems n >>= type_of_elem) r) (marked m marks are)

abbrev kept : List FuncType → List ℕ → List GlobalType → List ValType → List ValType → Bool → ℕ → List Bool → List ValType → List Group
    → List ValType → Context
kept types functions globals tables elems memory datas marks params groups results = record {
  types = slice_get types;
  functions = λ n. slice_get functions n >>= λ t. slice_get types t;
  globals = slice_get globals;
  tables = slice_get tables;
  elems = slice_get elems;
  memory = memory;
  datas = datas;
  refers = λ n. is_marked (slice_get marks n);
  locals = params ++ declared_locals groups;
  results = results;
}

pub answers_kept : (r : Result ℕ TypingFault) (m : Module) (f : FuncType) (c : Code) (types : List FuncType) (functions : List ℕ)
    (globals : List GlobalType) (tables elems : List ValType) (memory : Bool) (datas : ℕ) (marks : List Bool)
    (params : List ValType) (groups : List Group) (results : List ValType) (body : List Instr)
    → types ≡ m.types → functions ≡ function_space m → globals ≡ global_space m → tables ≡ entries (table_space m)
    → elems ≡ map item_type_of m.elems → memory ≡ is_some_memory (memory_space m)
    → datas ≡ length m.datas → AreMarks m marks → params ≡ f.params → groups ≡ c.locals → results ≡ f.results → body ≡ c.body.list
    → Obtains r (height (kept types functions globals tables elems memory datas marks params groups results) body)
    → Obtains r (height (body_context m f c) c.body.list)
answers_kept r m f c types functions globals tables elems memory datas marks params groups results body is_types is_functions is_globals
    is_tables is_elems is_memory is_datas are is_params is_groups is_results is_body h =
    let same : kept types functions globals tables elems memory datas marks params groups results ≡ body_context m f c =
    rw (is_types, is_functions, is_globals, is_tables, is_elems, is_memory, is_datas, is_params, is_groups, is_results)
    (parts_agree m f c marks are) in
    subst (λ b. Obtains r (height (body_context m f c) b)) is_body (subst (λ x. Obtains r (height x body)) same h)

pub some_memory : (ls : List Limits) → nat_lt 0 (length ls) ≡ is_some_memory ls
some_memory [] = refl
some_memory (l ∷ ls) = lt-ltb 0 (length (l ∷ ls)) (omega arith)
