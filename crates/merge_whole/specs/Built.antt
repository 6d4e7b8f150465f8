-- The parts of the merged module, as they are put together.
-- Serves the contracts of this crate, which follow MergedModule of `merge_module`.
use Rattle.std.specs.Prelude.{◌≡◌, ℕ, ◌+◌, List, [], ◌∷◌, ◌++◌, map, slice_get, if◌then◌else◌}
use Rattle.wasm_form.specs.declared.types.FuncType.{FuncType}
use Rattle.wasm_form.specs.declared.types.TableType.{TableType}
use Rattle.wasm_form.specs.declared.module.ImportDesc.TheVariants as imported
use Rattle.wasm_form.specs.declared.module.Import.{Import}
use Rattle.wasm_form.specs.declared.module.Code.{Code}
use Rattle.wasm_form.specs.declared.module.DataMode.TheVariants as data_mode
use Rattle.wasm_form.specs.declared.module.Data.{Data}
use Rattle.wasm_form.specs.declared.module.Module.{Module}
use Rattle.spec_reading.specs.spec_binary.IndexSpaces.{functions_in, imports_of}
use Rattle.spec_loading.specs.spec_runtime.Names.{HostName}
use Rattle.spec_loading.specs.spec_linking.Sets as sets
use Rattle.spec_loading.specs.spec_linking.LinkedSets.{LinkedSet, function_ref}
use Rattle.spec_loading.specs.Texts.{error_texts}
use Rattle.spec_loading.specs.Members.{from_members}
use Rattle.dyl_link.specs.dyl_search.declared.set.Member.{Member}
use Rattle.merge_match.specs.Renumbering.{Numbers}
use Rattle.merge_match.specs.Joined.{renumbered_code}
use Rattle.merge_start.specs.Words.{Starts, entry_code}
use Rattle.wasm_form.specs.declared.module.Part.{Part}
use Rattle.merge_index.specs.Numbering.{is_stub}
use Rattle.merge_index.specs.Lists.{code_in}
use Rattle.merge_module.specs.MergedModule.{nullary_number, generated_functions_types, plain_code, trap_code, phase_codes, with_loader, loader_codes, number_expr}
use Rattle.merge_whole.specs.Counts.{members_of}

-- what the members have, which are numbered from m on, one after the other
abbrev pub joined : {X : Type 0} → (ℕ → Module → List X) → ℕ → List Member → List X
joined of m xs = from_members of m (members_of xs)

-- ---- types and imports

abbrev pub types_of : ℕ → Module → List FuncType
types_of m wasm = wasm.types

-- those of the members, those of generated functions, and those that are added
abbrev pub types_in : LinkedSet → List FuncType → List FuncType
types_in L added = from_members types_of 0 L.set.members ++ (generated_functions_types L ++ added)

abbrev pub import_of : HostName → ℕ → Import
import_of h t = record { «module» = h.module_name; field = h.name; desc = imported.Func t }

-- ---- functions

abbrev pub funcs_of : Numbers → ℕ → Module → List ℕ
funcs_of n m wasm = map (n.ty m) wasm.funcs

-- for each stub of member m among functions of these types, numbered from f on, what there is by its type
abbrev pub stubs_at : {X : Type 0} → LinkedSet → ℕ → (ℕ → X) → ℕ → List ℕ → List X
stubs_at L m of f [] = []
stubs_at L m of f (t ∷ ts) = (if is_stub (function_ref L m f) then of t ∷ [] else []) ++ stubs_at L m of (f + 1) ts

abbrev pub imported_types : Module → List ℕ
imported_types wasm = imports_of functions_in wasm.imports

abbrev pub stub_types_of : LinkedSet → Numbers → ℕ → Module → List ℕ
stub_types_of L n m wasm = stubs_at L m (n.ty m) 0 (imported_types wasm)

-- one number for each phase of a member
abbrev pub four_of : ℕ → ℕ → Module → List ℕ
four_of t m wasm = t ∷ t ∷ t ∷ t ∷ []

-- one number for each member
abbrev pub one_of : ℕ → ℕ → Module → List ℕ
one_of t m wasm = t ∷ []

-- those of the functions of the loader and of what they call, where the types of generated functions have the numbers from t on
abbrev pub funcs_for_loader : ℕ → List sets.Member → List ℕ
funcs_for_loader t members =
    from_members (one_of (t + 1)) 0 members
    ++ (t + 2) ∷ (from_members (one_of (t + 4)) 0 members ++ (t + 3) ∷ (t + 3) ∷ (t + 2) ∷ (t + 1) ∷ [])

-- those of the phases of each member, of the loader, and of the entry function
abbrev pub generated_funcs_in : LinkedSet → List ℕ
generated_funcs_in L =
    let members = L.set.members in
    let t = nullary_number L in
    from_members (four_of t) 0 members ++ (with_loader L (funcs_for_loader t members) ++ t ∷ [])

abbrev pub funcs_in : LinkedSet → Numbers → List ℕ
funcs_in L n =
    let members = L.set.members in
    from_members (funcs_of n) 0 members ++ (from_members (stub_types_of L n) 0 members ++ generated_funcs_in L)

-- ---- bodies

-- these are the bodies of member m
abbrev pub HasBodies : LinkedSet → ℕ → List Code → Type 0
HasBodies L m codes = (b : ℕ) → code_in L m b ≡ slice_get codes b

abbrev pub bodies_of : Numbers → ℕ → Module → List Code
bodies_of n m wasm = map (renumbered_code n m) wasm.codes

abbrev pub traps_of : LinkedSet → ℕ → Module → List Code
traps_of L m wasm = stubs_at L m (λ t. trap_code) 0 (imported_types wasm)

abbrev pub code_of : Part → Code
code_of part = part.code

-- those of what is generated
abbrev pub generated_codes : LinkedSet → Numbers → Starts → List Code
generated_codes L n x =
    from_members (phase_codes L n x) 0 L.set.members ++ (with_loader L (loader_codes L n x) ++ plain_code (entry_code L n x) ∷ [])

-- ---- tables

abbrev pub tables_of : ℕ → Module → List TableType
tables_of m wasm = wasm.tables

-- ---- data segments

abbrev pub texts_at : ℕ → Data
texts_at address = record { mode = data_mode.Active 0 (number_expr address); bytes = error_texts }
