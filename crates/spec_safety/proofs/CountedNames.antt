-- The code of a valid module has as many names as its index spaces have items.
use Rattle.std.proofs.Common.{◌≡◌, ℕ, Bool, true, false, List, length, Option, Some, None, refl, sym, ap, ◌∙◌}
use Rattle.std.specs.Prelude.{is_some, slice_get, nat_lt}
use Rattle.std.proofs.lemmas.Bool.{ltb-true}
use Rattle.std.proofs.lemmas.List.{length-map}
use Rattle.spec_execution.specs.wasm_form.declared.module.Module.{Module}
use Rattle.spec_execution.specs.spec_binary.Options.{◌>>=◌}
use Rattle.spec_execution.specs.spec_binary.IndexSpaces.{function_space, table_space, type_of_global, global_space}
use Rattle.spec_execution.specs.spec_validation.Faults.{fault, is_type, elem_of_table, type_of_elem}
use Rattle.spec_execution.proofs.of_spec_validation.Parts.{parts_fit, function_types}
use Rattle.spec_execution.specs.Views.{Counts}
use Rattle.spec_execution.specs.Instances.{module_counts, module_context}
use Rattle.spec_safety.specs.Laws.{IsAlone}
use Rattle.spec_safety.specs.TypedViews.{AreCounted}
use Rattle.spec_safety.proofs.Lookups.{got, passes_at}
use Rattle.spec_safety.proofs.Spaces.{numbered_in, all_functions, own_tables, own_globals}

some_at : {A : Type 0} (xs : List A) (k : ℕ) → is_some (slice_get xs k) ≡ nat_lt k (length xs)
some_at {A} xs k = go (slice_get xs k) (nat_lt k (length xs)) refl refl
  where
    go : (o : Option A) (b : Bool) → slice_get xs k ≡ o → nat_lt k (length xs) ≡ b → is_some o ≡ b
    go None false e q = refl
    go None true e q = absurd (let x = got xs k (ltb-true k (length xs) q) in let none = sym e ∙ x.1 in cc)
    go (Some x) b e q = sym (numbered_in xs k x e) ∙ q

-- what goes on from each item
some_then : {A B : Type 0} (o : Option A) (f : A → Option B) → ((a : A) → o ≡ Some a → is_some (f a) ≡ true) → is_some (o >>= f) ≡ is_some o
some_then None f h = refl
some_then (Some a) f h = h a refl

-- how many items there are in each index space
abbrev pub space_counts : Module → Counts
space_counts m = record {
  types = length m.types;
  functions = length (function_space m);
  globals = length (global_space m);
  tables = length (table_space m);
  elems = length m.elems;
  datas = length m.datas;
}

module _ (m : Module) (valid : fault m ≡ None) where
  typed_at : (f t : ℕ) → slice_get (function_space m) f ≡ Some t → is_some (slice_get m.types t) ≡ true
  typed_at f t at =
      let u = got m.types t (ltb-true t (length m.types) (passes_at (is_type m) (function_space m) f t (function_types m (parts_fit m valid)) at)) in
      ap is_some u.1

  pub names_counted : AreCounted (module_context m) (space_counts m)
  names_counted = record {
    types = some_at m.types;
    functions = λ k. some_then (slice_get (function_space m) k) (λ t. slice_get m.types t) (typed_at k) ∙ some_at (function_space m) k;
    globals = some_at (global_space m);
    tables = λ k. some_then (slice_get (table_space m) k) elem_of_table (λ t at. refl) ∙ some_at (table_space m) k;
    elems = λ k. some_then (slice_get m.elems k) type_of_elem (λ s at. refl) ∙ some_at m.elems k;
    datas = refl;
  }

-- where functions alone are imported
pub alone_counted : (m : Module) → IsAlone m → AreCounted (module_context m) (module_counts m)
alone_counted m alone =
    let functions = all_functions m.imports alone.imports in
    let all = names_counted m alone.valid in
    let globals : length (global_space m) ≡ length m.globals = ap length (own_globals m functions) ∙ length-map m.globals type_of_global in
    record {
      types = all.types;
      functions = all.functions;
      globals = λ k. all.globals k ∙ ap (nat_lt k) globals;
      tables = λ k. all.tables k ∙ ap (λ ts. nat_lt k (length ts)) (own_tables m functions);
      elems = all.elems;
      datas = refl;
    }
