-- The code that a merged module has for the functions of the loader: the length of a string, the search among the names of a member, and
-- `dlopen`, `dlsym`, `dlclose` and `dlerror` themselves. Names stand in code alone, so nothing that a program writes changes an answer.
-- This profile: docs/FORMATS.md, "What merge writes".
use Rattle.std.specs.Prelude.{ℕ, ◌+◌, ◌^◌, List, [], ◌∷◌, ◌++◌, length, drop, not, Option, Some, unwrap_or, slice_get}
use Rattle.std.specs.List.{filter, filter_map, range_with_len}
use Rattle.wasm_form.specs.declared.types.ValType.TheVariants.{I32, I64}
use Rattle.wasm_form.specs.declared.types.FuncType.{FuncType}
use Rattle.wasm_form.specs.declared.instr.BlockType.TheVariants.{Empty}
use Rattle.wasm_form.specs.declared.instr.Instr.{Instr, Plain, Index, Loop, Access}
use Rattle.wasm_form.specs.declared.module.Group.{Group}
use Rattle.wasm_form.specs.declared.module.Code.{Code}
use Rattle.wasm_form.specs.declared.module.Export.{Export}
use Rattle.wasm_form.specs.declared.module.Module.{Module}
use Rattle.wasm_form.specs.declared.runtime.LoaderCall.{LoaderCall}
use Rattle.wasm_form.specs.declared.runtime.LoaderCall.TheVariants.{Dlopen, Dlsym, Dlclose, Dlerror}
use Rattle.spec_loading.specs.spec_binary.Options.{◌>>=◌}
use Rattle.spec_loading.specs.spec_linking.Sets.{Member, ClosedSet}
use Rattle.spec_loading.specs.spec_linking.Orders.{closure, is_among}
use Rattle.spec_loading.specs.spec_linking.Definitions.{member_definition}
use Rattle.spec_loading.specs.spec_linking.LinkedSets.{LinkedSet}
use Rattle.spec_loading.specs.spec_linking.Slots.{linked_plan, cell_number}
use Rattle.spec_loading.specs.LoaderAnswers.{bad_flags_error, no_module_error, bad_handle_error, no_symbol_error, bad_close_error, error_offsets, other_flags, not_closed, global_flag}
use Rattle.merge_pieces.specs.Opcodes as op
use Rattle.merge_start.specs.Words.{Starts, number, place_global, promote_code}
pub use Rattle.merge_find.specs.Decisions.{when, return_code}
use Rattle.merge_find.specs.Decisions.{Named, Goal, search_code, strings}
pub use Rattle.merge_find.specs.Finding.{search_type}
use Rattle.merge_find.specs.Finding.{search_body}

-- The numbers of what is added for them: the global that holds the number of the last error, or 0; the function that gives the length of a
-- string; and, for each member, the function that searches the names that it defines.
pub record Finders : Type 0 where
  pub error : ℕ
  pub length : ℕ
  pub find : ℕ → ℕ

-- ---- pieces

-- the function returns a number
abbrev pub give_code : ℕ → List Instr
give_code k = number k ∷ return_code

-- an error is kept, and the function returns a number
abbrev pub fault_code : Finders → ℕ → ℕ → List Instr
fault_code d e answer = number e ∷ Index op.global_set d.error ∷ give_code answer

-- whether a local is a number
abbrev pub is_local : ℕ → ℕ → List Instr
is_local x k = Index op.local_get x ∷ number k ∷ Plain op.i32_eq ∷ []

-- ---- the length of a string

-- Local 1 goes from the address in local 0 on to the first zero byte. A load past the end of the memory traps.
unfoldable pub length_code : List Instr
length_code =
    Index op.local_get 0 ∷ Index op.local_set 1
    ∷ Loop Empty
    (record {
      list =
          Index op.local_get 1 ∷ Access op.i32_load8_u 0 0
          ∷ when (Index op.local_get 1 ∷ number 1 ∷ Plain op.i32_add ∷ Index op.local_set 1 ∷ Index op.br 1 ∷ []) ∷ [];
    })
    ∷ Index op.local_get 1 ∷ Index op.local_get 0 ∷ Plain op.i32_sub ∷ []

-- ---- the names that a member defines

-- the slot of the function, or the address of the data, that an export of a member defines
abbrev pub name_number : LinkedSet → ℕ → Export → Option (List ℕ × ℕ)
name_number L m e = cell_number L e.name (member_definition L.set m e.name) >>= λ k. Some (e.name, k)

-- the names that a member defines, in the order of its exports, with their numbers
abbrev pub name_numbers : LinkedSet → ℕ → Module → List (List ℕ × ℕ)
name_numbers L m wasm = filter_map (name_number L m) wasm.exports

-- what a search gives where it has found a number; it gives 0 where it found none
abbrev pub found_value : ℕ → ℕ
found_value k = 2 ^ 32 + k

-- ---- dlopen: the address of the name in local 0, flags in local 1

-- The function that opens a member is called, and what it gives is returned; where the flag is set, once the closure is promoted.
abbrev pub opens_code : LinkedSet → Starts → ℕ → List Instr
opens_code L x m =
    Index op.local_get 1 ∷ number global_flag ∷ Plain op.i32_and ∷ when (Index op.call (x.opening m) ∷ (promote_code L x m ++ return_code))
    ∷ Index op.call (x.opening m) ∷ return_code

-- the names of members, numbered from m on, with what opens them
abbrev pub named_members : LinkedSet → Starts → ℕ → List Member → List Named
named_members L x m [] = []
named_members L x m (member ∷ members) = (member.name, opens_code L x m) ∷ named_members L x (m + 1) members

-- the length of the name is in local 2
abbrev pub open_goal : Finders → Goal
open_goal d = record { len = 2; missed = fault_code d no_module_error 0 }

abbrev pub members_code : LinkedSet → Starts → Finders → List Instr
members_code L x d = search_code (open_goal d) (strings (named_members L x 0 L.set.members))

unfoldable pub open_call_code : LinkedSet → Starts → Finders → List Instr
open_call_code L x d =
    Index op.local_get 0 ∷ Plain op.i32_eqz ∷ when (give_code 1)
    ∷ Index op.local_get 0 ∷ Index op.call d.length ∷ Index op.local_set 2
    ∷ Index op.local_get 1 ∷ number other_flags ∷ Plain op.i32_and ∷ when (fault_code d bad_flags_error 0)
    ∷ members_code L x d

-- ---- dlsym: a handle in local 0, the address of the name in local 1

-- a member is searched, and a number that it has is returned
abbrev pub try_code : Finders → ℕ → List Instr
try_code d m =
    Index op.local_get 1 ∷ Index op.local_get 2 ∷ Index op.call (d.find m) ∷ Index op.local_tee 3 ∷ Plain op.i64_eqz ∷ Plain op.i32_eqz
    ∷ when (Index op.local_get 3 ∷ Plain op.i32_wrap_i64 ∷ return_code) ∷ []

-- members are searched in order, and then some other code is done
abbrev pub tries_then : Finders → List Instr → List ℕ → List Instr
tries_then d last [] = last
tries_then d last (m ∷ ms) = try_code d m ++ tries_then d last ms

abbrev pub tries_code : Finders → List ℕ → List Instr
tries_code d ms = tries_then d (fault_code d no_symbol_error 0) ms

-- The place of a member among the promoted ones, counted from 0; a member that isn't promoted has the last place of all.
abbrev pub before_code : Starts → ℕ → List Instr
before_code x k = Index op.global_get (place_global x k) ∷ number 1 ∷ Plain op.i32_sub ∷ []

-- what was found goes to local 4, and its place to local 5
abbrev pub keep_code : Starts → ℕ → List Instr
keep_code x k = before_code x k ++ (Index op.local_set 5 ∷ Index op.local_get 3 ∷ Index op.local_set 4 ∷ [])

-- a member is searched, and a number that it has is kept
abbrev pub ask_code : Starts → Finders → ℕ → List Instr
ask_code x d k =
    Index op.local_get 1 ∷ Index op.local_get 2 ∷ Index op.call (d.find k) ∷ Index op.local_tee 3 ∷ Plain op.i64_eqz ∷ Plain op.i32_eqz
    ∷ when (keep_code x k) ∷ []

-- where its place is before the one in local 5
abbrev pub prefer_code : Starts → Finders → ℕ → List Instr
prefer_code x d k = before_code x k ++ (Index op.local_get 5 ∷ Plain op.i32_lt_u ∷ when (ask_code x d k) ∷ [])

abbrev pub prefers_code : Starts → Finders → List ℕ → List Instr
prefers_code x d [] = []
prefers_code x d (k ∷ ks) = prefer_code x d k ++ prefers_code x d ks

-- the members that may be promoted
abbrev pub candidates : ClosedSet → List ℕ
candidates S = filter (λ k. not (is_among k S.startup)) (range_with_len 0 (length S.members))

-- every other place is before it
abbrev pub last_place : ℕ
last_place = 4294967295

-- the number that was kept is returned, if there is one
abbrev pub preferred_code : Finders → List Instr
preferred_code d =
    Index op.local_get 4 ∷ Plain op.i64_eqz ∷ Plain op.i32_eqz ∷ when (Index op.local_get 4 ∷ Plain op.i32_wrap_i64 ∷ return_code)
    ∷ fault_code d no_symbol_error 0

-- of the promoted members that have a number, that of the first is returned
abbrev pub promoted_code : LinkedSet → Starts → Finders → List Instr
promoted_code L x d = number last_place ∷ Index op.local_set 5 ∷ (prefers_code x d (candidates L.set) ++ preferred_code d)

-- where local 0 is the handle of a member that has been placed, its closure is searched
abbrev pub handle_code : LinkedSet → Starts → Finders → ℕ → List Instr
handle_code L x d m =
    is_local 0 (m + 1)
    ++ when (Index op.global_get (x.guards + m) ∷ when (tries_code d (closure L.set m)) ∷ fault_code d bad_handle_error 0) ∷ []

-- those of members, numbered from m on
abbrev pub handles_code : LinkedSet → Starts → Finders → ℕ → List Member → List Instr
handles_code L x d m [] = []
handles_code L x d m (member ∷ members) = handle_code L x d m ++ handles_code L x d (m + 1) members

-- the members behind the main module
abbrev pub libraries : LinkedSet → List Member
libraries L = drop 1 L.set.members

unfoldable pub symbol_call_code : LinkedSet → Starts → Finders → List Instr
symbol_call_code L x d =
    Index op.local_get 1 ∷ Index op.call d.length ∷ Index op.local_set 2
    ∷ Index op.local_get 0 ∷ number 2 ∷ Plain op.i32_lt_u ∷ when (tries_then d (promoted_code L x d) L.set.startup)
    ∷ (handles_code L x d 1 (libraries L) ++ fault_code d bad_handle_error 0)

-- ---- dlclose: a handle in local 0

-- where local 0 is the handle of a member that has been placed, 0 is returned
abbrev pub close_code : Starts → ℕ → List Instr
close_code x m = is_local 0 (m + 1) ++ when (Index op.global_get (x.guards + m) ∷ when (give_code 0) ∷ []) ∷ []

abbrev pub closes_code : Starts → ℕ → List Member → List Instr
closes_code x m [] = []
closes_code x m (member ∷ members) = close_code x m ++ closes_code x (m + 1) members

unfoldable pub close_call_code : LinkedSet → Starts → Finders → List Instr
close_call_code L x d = is_local 0 1 ++ when (give_code 0) ∷ (closes_code x 1 (libraries L) ++ fault_code d bad_close_error not_closed)

-- ---- dlerror

-- where local 0 is the number of an error, the address of its text is returned
abbrev pub text_code : LinkedSet → ℕ → List Instr
text_code L e = is_local 0 (e + 1) ++ when (give_code ((linked_plan L).stack_top + unwrap_or (slice_get error_offsets e) 0)) ∷ []

unfoldable pub error_call_code : LinkedSet → Finders → List Instr
error_call_code L d =
    Index op.global_get d.error ∷ Index op.local_set 0 ∷ number 0 ∷ Index op.global_set d.error
    ∷ (text_code L 0 ++ (text_code L 1 ++ (text_code L 2 ++ (text_code L 3 ++ (text_code L 4 ++ number 0 ∷ [])))))

-- ---- functions

-- so many parameters of type i32, and a result
abbrev pub handle_type : FuncType
handle_type = record { params = []; results = I32 ∷ [] }

abbrev pub unary_type : FuncType
unary_type = record { params = I32 ∷ []; results = I32 ∷ [] }

abbrev pub binary_type : FuncType
binary_type = record { params = I32 ∷ I32 ∷ []; results = I32 ∷ [] }

abbrev pub code_with : List Group → List Instr → Code
code_with groups is = record { locals = groups; body = record { list = is } }

abbrev pub one_i32 : Group
one_i32 = record { count = 1; ty = I32 }

abbrev pub one_i64 : Group
one_i64 = record { count = 1; ty = I64 }

-- the locals of `dlsym`: the length of the name, what the last search gave, what was kept of them, and its place
abbrev pub symbol_locals : List Group
symbol_locals = one_i32 ∷ one_i64 ∷ one_i64 ∷ one_i32 ∷ []

abbrev pub length_body : Code
length_body = code_with (one_i32 ∷ []) length_code

-- the search among the names that a member defines
abbrev pub find_body : LinkedSet → ℕ → Module → Code
find_body L m wasm = search_body (name_numbers L m wasm)

abbrev pub call_body : LinkedSet → Starts → Finders → LoaderCall → Code
call_body L x d Dlopen = code_with (one_i32 ∷ []) (open_call_code L x d)
call_body L x d Dlsym = code_with symbol_locals (symbol_call_code L x d)
call_body L x d Dlclose = code_with [] (close_call_code L x d)
call_body L x d Dlerror = code_with (one_i32 ∷ []) (error_call_code L d)
