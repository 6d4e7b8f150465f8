-- The numbers in the merged module of a linked set. Functions: the host functions that it imports, then the members' own ones member by
-- member, then the stubs of imports that nothing defines, member by member, then what is generated. Types: those of the members, member by
-- member. Globals, tables and segments have their addresses in the store of the set, and what is generated comes behind these.
-- This profile: docs/FORMATS.md, "What merge writes".
use Rattle.std.specs.Prelude.{ℕ, ◌+◌, ◌-◌, ◌*◌, List, length, take, Bool, true, false, Option, Some, None, option_map, if◌then◌else◌}
use Rattle.std.specs.List.{filter, range_with_len}
use Rattle.wasm_form.specs.declared.module.Module.{Module}
use Rattle.wasm_form.specs.declared.runtime.LoaderCall.{LoaderCall}
use Rattle.wasm_form.specs.declared.runtime.LoaderCall.TheVariants.{Dlopen, Dlsym, Dlclose, Dlerror}
use Rattle.wasm_form.specs.declared.runtime.Ref.{Ref}
use Rattle.wasm_form.specs.declared.runtime.Ref.TheVariants.{Own, Loader, Host, Stub}
use Rattle.spec_loading.specs.spec_binary.IndexSpaces.{imported_count}
use Rattle.spec_loading.specs.spec_linking.LinkedSets.{LinkedSet, hosts_of, function_ref}
use Rattle.spec_loading.specs.declared.task.Phase.{Phase}
use Rattle.spec_loading.specs.Phases.{stage_of}
use Rattle.spec_loading.specs.Addresses.{sum_before, globals_size, global_address, table_address, elem_address, data_address}
use Rattle.spec_loading.specs.Members.{from_members, uses_loader}
use Rattle.merge_match.specs.Renumbering.{Numbers}
use Rattle.merge_match.specs.Parts.{nowhere, number_of}
use Rattle.merge_match.specs.Joined.{type_address, function_address}
use Rattle.merge_start.specs.Words.{Starts}
use Rattle.merge_index.specs.declared.numbers.LoaderNumbers.{LoaderNumbers}

-- ---- how much there is

-- how much all members have
abbrev pub sum_of : (Module → ℕ) → LinkedSet → ℕ
sum_of size L = sum_before size L.set.members (length L.set.members)

abbrev pub host_count : LinkedSet → ℕ
host_count L = length (hosts_of L)

-- ---- stubs

abbrev pub is_stub : Option Ref → Bool
is_stub (Some (Stub m f)) = true
is_stub (Some (Own m f)) = false
is_stub (Some (Loader which)) = false
is_stub (Some (Host e)) = false
is_stub None = false

-- the functions of member m that are stubs, of those with numbers below k
abbrev pub stubs_below : LinkedSet → ℕ → ℕ → List ℕ
stubs_below L m k = filter (λ f. is_stub (function_ref L m f)) (range_with_len 0 k)

-- those of the member, which are imports
abbrev pub stubs_of : LinkedSet → ℕ → Module → List ℕ
stubs_of L m wasm = stubs_below L m (imported_count wasm)

-- how many the members before member m have
abbrev pub stubs_before : LinkedSet → ℕ → ℕ
stubs_before L m = length (from_members (stubs_of L) 0 (take m L.set.members))

abbrev pub first_stub : LinkedSet → ℕ
first_stub L = host_count L + sum_of (λ x. length x.codes) L

abbrev pub stub_address : LinkedSet → ℕ → ℕ → Option ℕ
stub_address L m f =
    if is_stub (function_ref L m f) then Some (first_stub L + stubs_before L m + length (stubs_below L m f)) else None

-- ---- what is generated

-- the first function that is generated
abbrev pub first_phase : LinkedSet → ℕ
first_phase L = first_stub L + stubs_before L (length L.set.members)

-- the functions of the four phases of member m are the four from this one on
abbrev pub phase_number : LinkedSet → ℕ → Phase → ℕ
phase_number L m p = first_phase L + 4 * m + (stage_of p - 1)

-- Where the set uses the loader, there follow a function for each member that opens it, the one that gives the length of a string, one for
-- each member that searches its names, and the functions of the loader.
abbrev pub first_opening : LinkedSet → ℕ
first_opening L = first_phase L + 4 * length L.set.members

abbrev pub length_number : LinkedSet → ℕ
length_number L = first_opening L + length L.set.members

abbrev pub first_find : LinkedSet → ℕ
first_find L = length_number L + 1

abbrev pub first_call : LinkedSet → ℕ
first_call L = first_find L + length L.set.members

-- the place of a function of the loader among them
abbrev pub call_place : LoaderCall → ℕ
call_place Dlopen = 0
call_place Dlsym = 1
call_place Dlclose = 2
call_place Dlerror = 3

abbrev pub call_number : LinkedSet → LoaderCall → ℕ
call_number L which = if uses_loader L then first_call L + call_place which else nowhere

-- how many all of these are
abbrev pub loader_size : LinkedSet → ℕ
loader_size L = if uses_loader L then 2 * length L.set.members + 5 else 0

-- the entry function comes last
abbrev pub entry_number : LinkedSet → ℕ
entry_number L = first_opening L + loader_size L

-- their numbers, where the set uses the loader
abbrev pub loader_numbers : LinkedSet → Option LoaderNumbers
loader_numbers L =
    if uses_loader L
    then Some (record {
      first_opening = first_opening L;
      length = length_number L;
      first_find = first_find L;
      dlopen = first_call L + call_place Dlopen;
      dlsym = first_call L + call_place Dlsym;
      dlclose = first_call L + call_place Dlclose;
      dlerror = first_call L + call_place Dlerror;
    })
    else None

-- ---- functions

abbrev pub function_number : LinkedSet → Ref → ℕ
function_number L (Own m f) = number_of (function_address L (host_count L) m f)
function_number L (Loader which) = call_number L which
function_number L (Host e) = e
function_number L (Stub m f) = number_of (stub_address L m f)

-- What a member's number of a function names, by its number.
abbrev pub named_number : LinkedSet → ℕ → ℕ → ℕ
named_number L m f = number_of (option_map (function_number L) (function_ref L m f))

-- The numbers of a linked set.
abbrev pub numbers_of : LinkedSet → Numbers
numbers_of L = record {
  function = function_number L;
  named = named_number L;
  ty = λ m t. number_of (type_address L m t);
  global = λ m g. number_of (global_address L m g);
  table = λ m t. number_of (table_address L m t);
  elem = λ m e. number_of (elem_address L m e);
  segment = λ m d. number_of (data_address L m d);
}

-- Guards come behind the globals of the store, and the segments of fresh slots behind its element segments. Behind the guards comes the global
-- of the error, and then that of the number of promoted members.
abbrev pub starts_of : LinkedSet → Starts
starts_of L = record {
  guards = 1 + sum_of globals_size L;
  slots = λ m. sum_of (λ x. length x.elems) L + m;
  phase = phase_number L;
  starting = entry_number L;
  opening = λ m. first_opening L + m;
  promoted = 1 + sum_of globals_size L + length L.set.members + 1;
}
