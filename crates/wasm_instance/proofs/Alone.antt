-- What a module imports that imports functions alone.
use Rattle.std.proofs.Common.{arith, ◌≡◌, ◌≤◌, ℕ, length-append, true, List, [], ◌∷◌, length, refl}
use Rattle.std.specs.List.{list_all}
use Rattle.wasm_form.specs.declared.module.ImportDesc.{ImportDesc}
use Rattle.wasm_form.specs.declared.module.ImportDesc.TheVariants as imported
use Rattle.wasm_form.specs.declared.module.Import.{Import}
use Rattle.wasm_form.specs.declared.module.Module.{Module}
use Rattle.spec_safety.specs.spec_binary.IndexSpaces.{imports_of, functions_in, globals_in, tables_in}
use Rattle.spec_safety.specs.Laws.{is_function_import, imports_functions}
use Rattle.std.proofs.lemmas.Bool.{and_parts}

-- what an import of a function gives in another kind
desc_gives : {A : Type 0} (in_desc : ImportDesc → List A) (i : Import) → ((t : ℕ) → in_desc (imported.Func t) ≡ []) → is_function_import i ≡ true → in_desc i.desc ≡ []
desc_gives {A} in_desc i none = go i.desc
  where
    go : (d : ImportDesc) → is_function_import (record i { desc = d }) ≡ true → in_desc d ≡ []
    go (imported.Func t) e = none t
    go (imported.Table ty) e = absurd cc
    go (imported.Space limits) e = absurd cc
    go (imported.Global ty) e = absurd cc

imports_give : {A : Type 0} (in_desc : ImportDesc → List A) → ((t : ℕ) → in_desc (imported.Func t) ≡ []) → (is : List Import) → list_all is_function_import is ≡ true → imports_of in_desc is ≡ []
imports_give in_desc none [] e = refl
imports_give in_desc none (i ∷ is) e =
    let b = and_parts (is_function_import i) (list_all is_function_import is) e in
    rw (desc_gives in_desc i none b.0, imports_give in_desc none is b.1) refl

module _ (m : Module) (alone : imports_functions m ≡ true) where
  pub no_globals : imports_of globals_in m.imports ≡ []
  no_globals = imports_give globals_in (λ t. refl) m.imports alone

  pub no_tables : imports_of tables_in m.imports ≡ []
  no_tables = imports_give tables_in (λ t. refl) m.imports alone

  pub number_of_globals : 0 ≡ length (imports_of globals_in m.imports)
  number_of_globals = rw no_globals refl

-- at most as many functions as imports
function_at_most : (d : ImportDesc) → length (functions_in d) ≤ 1
function_at_most (imported.Func t) = omega arith
function_at_most (imported.Table ty) = omega arith
function_at_most (imported.Space limits) = omega arith
function_at_most (imported.Global ty) = omega arith

pub functions_at_most : (is : List Import) → length (imports_of functions_in is) ≤ length is
functions_at_most [] = omega arith
functions_at_most (i ∷ is) = simp length-append (omega (arith, function_at_most i.desc, functions_at_most is))
