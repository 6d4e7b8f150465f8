-- The numbers that the functions of the loader name, as they are kept, and the functions that are made by them.
-- Serves the contracts of this crate, which follow Words of `merge_dl`.
use Rattle.std.specs.Prelude.{◌≡◌, ℕ, ◌+◌, ◌<◌, List, [], ◌∷◌, ◌++◌, length, slice_get, Option, Some, None}
use Rattle.wasm_form.specs.declared.module.Export.{Export}
use Rattle.wasm_form.specs.declared.module.Module.{Module}
use Rattle.wasm_form.specs.declared.instr.Instr.{Instr, Plain, Index, Access}
use Rattle.wasm_form.specs.declared.types.FuncType.{FuncType}
use Rattle.wasm_form.specs.declared.runtime.LoaderCall.{LoaderCall}
use Rattle.wasm_form.specs.declared.runtime.LoaderCall.TheVariants.{Dlopen, Dlsym, Dlclose, Dlerror}
use Rattle.spec_loading.specs.spec_execution.Views.{loader_type}
use Rattle.spec_loading.specs.spec_linking.LinkedSets.{LinkedSet}
use Rattle.spec_loading.specs.LoaderAnswers.{bad_flags_error, other_flags}
use Rattle.merge_match.specs.Parts.{nowhere, number_of}
use Rattle.merge_pieces.specs.Opcodes as op
use Rattle.merge_start.specs.Words.{Starts, number}
use Rattle.wasm_form.specs.declared.module.Part.{Part}
use Rattle.merge_dl.specs.Words.{Finders, handle_type, unary_type, binary_type, search_type, length_body, find_body, call_body, when, give_code, fault_code, is_local, tries_then, promoted_code, name_number}
use Rattle.merge_find.specs.Decisions.{Named, strings}
use Rattle.merge_find.specs.Finding.{number_code}
use Rattle.merge_dl.specs.declared.numbers.DlNumbers.{DlNumbers}

-- ---- numbers

-- They are the numbers of a set. Behind the function that gives the length of a string come those that search the members.
pub record AreDlNumbers (L : LinkedSet) (n : DlNumbers) (x : Starts) (d : Finders) : Type 0 where
  pub guards : x.guards ≡ n.guard
  pub error : d.error ≡ n.error
  pub first : d.length ≡ n.first_function
  pub find : (m : ℕ) → d.find m ≡ n.first_function + 1 + m
  pub promoted : x.promoted ≡ n.promoted
  pub opens : (m : ℕ) → m < length L.set.members → slice_get n.opens m ≡ Some (x.opening m)

-- what code of the loader's functions takes of them
abbrev pub starts_in : DlNumbers → Starts
starts_in n = record {
  guards = n.guard;
  slots = λ m. nowhere;
  phase = λ m p. nowhere;
  starting = nowhere;
  opening = λ m. number_of (slice_get n.opens m);
  promoted = n.promoted;
}

abbrev pub finders_in : DlNumbers → Finders
finders_in n = record { error = n.error; length = n.first_function; find = λ m. n.first_function + 1 + m }

-- ---- functions

-- the types of the functions of the loader, and of what they call
abbrev pub loader_types : List FuncType
loader_types = handle_type ∷ unary_type ∷ binary_type ∷ search_type ∷ []

abbrev pub length_part : Part
length_part = record { ty = unary_type; code = length_body }

abbrev pub find_part : LinkedSet → ℕ → Module → Part
find_part L m wasm = record { ty = search_type; code = find_body L m wasm }

abbrev pub find_parts : LinkedSet → ℕ → Module → List Part
find_parts L m wasm = find_part L m wasm ∷ []

abbrev pub call_part : LinkedSet → Starts → Finders → LoaderCall → Part
call_part L x d which = record { ty = loader_type which; code = call_body L x d which }

abbrev pub call_parts : LinkedSet → Starts → Finders → List Part
call_parts L x d = call_part L x d Dlopen ∷ call_part L x d Dlsym ∷ call_part L x d Dlclose ∷ call_part L x d Dlerror ∷ []

-- ---- the length of a string

-- where the byte at the address in local 1 isn't zero, the address is raised, and all is done again
abbrev pub byte_code : List Instr
byte_code =
    Index op.local_get 1 ∷ Access op.i32_load8_u 0 0
    ∷ when (Index op.local_get 1 ∷ number 1 ∷ Plain op.i32_add ∷ Index op.local_set 1 ∷ Index op.br 1 ∷ []) ∷ []

-- ---- names

-- a name that has a number, with the code of a search for it
abbrev pub found_names : Option (List ℕ × ℕ) → List Named
found_names None = []
found_names (Some x) = strings ((x.0, number_code x.1) ∷ [])

-- the name that an export of a member defines
abbrev pub export_names : LinkedSet → ℕ → Export → List Named
export_names L m e = found_names (name_number L m e)

-- ---- how dlopen and dlsym begin

-- no name is the program itself; the length of the name is in local 2; the flags are tested
abbrev pub open_begin : Finders → List Instr
open_begin d =
    Index op.local_get 0 ∷ Plain op.i32_eqz ∷ when (give_code 1)
    ∷ Index op.local_get 0 ∷ Index op.call d.length ∷ Index op.local_set 2
    ∷ Index op.local_get 1 ∷ number other_flags ∷ Plain op.i32_and ∷ when (fault_code d bad_flags_error 0) ∷ []

-- the length of the name is in local 2; for the handles 0 and 1 the startup list is searched, and then what is promoted
abbrev pub symbol_begin : LinkedSet → Starts → Finders → List Instr
symbol_begin L x d =
    Index op.local_get 1 ∷ Index op.call d.length ∷ Index op.local_set 2 ∷ Index op.local_get 0 ∷ number 2 ∷ Plain op.i32_lt_u
    ∷ when (tries_then d (promoted_code L x d) L.set.startup) ∷ []

-- ---- errors

-- where local 0 is the number of an error, the address of its text is returned, which stands so many bytes behind an address
abbrev pub text_at : ℕ → ℕ → ℕ → List Instr
text_at address e offset = is_local 0 (e + 1) ++ when (give_code (address + offset)) ∷ []

abbrev pub texts_at : ℕ → List Instr
texts_at address =
    text_at address 0 0 ++ (text_at address 1 18 ++ (text_at address 2 41 ++ (text_at address 3 59 ++ text_at address 4 81)))
