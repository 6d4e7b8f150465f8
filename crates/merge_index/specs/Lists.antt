-- How the lists of numbers are made, member by member.
-- Serves the contracts of this crate, which follow Numbering of `merge_index`.
use Rattle.std.specs.Prelude.{ℕ, ◌+◌, ◌*◌, List, [], ◌∷◌, length, map, slice_get, Bool, Option, Some, None, if◌then◌else◌}
use Rattle.wasm_form.specs.declared.module.Code.{Code}
use Rattle.wasm_form.specs.declared.module.Module.{Module}
use Rattle.wasm_form.specs.declared.runtime.LoaderCall.TheVariants.{Dlopen, Dlsym, Dlclose, Dlerror}
use Rattle.wasm_form.specs.declared.runtime.Ref.{Ref}
use Rattle.wasm_form.specs.declared.runtime.Ref.TheVariants.{Own, Loader, Host, Stub}
use Rattle.spec_loading.specs.spec_binary.Options.{◌>>=◌}
use Rattle.spec_loading.specs.spec_binary.IndexSpaces.{imported_count}
use Rattle.spec_loading.specs.spec_linking.LinkedSets.{LinkedSet, wasm_of}
use Rattle.spec_loading.specs.Members.{uses_loader}
use Rattle.merge_index.specs.declared.functions.Known as declared
use Rattle.dyl_addresses.specs.Sets.{wasms}
use Rattle.dyl_addresses.specs.declared.lists.Space.TheVariants.{Types, Codes}
use Rattle.dyl_addresses.specs.Lists.{size_in, numbers_end, numbered}
use Rattle.dyl_addresses.specs.Kept.{KeptAddresses}
use Rattle.merge_index.specs.declared.numbers.LoaderNumbers.{LoaderNumbers}
use Rattle.merge_index.specs.Numbering.{host_count, call_place}
use Rattle.merge_index.specs.Kept.{KeptNumbers, own_from, call_in}

-- a body of member m, by its number
abbrev pub code_in : LinkedSet → ℕ → ℕ → Option Code
code_in L m body = wasm_of L m >>= λ wasm. slice_get wasm.codes body

-- ---- functions

abbrev pub stub_size : Ref → ℕ
stub_size (Own m f) = 0
stub_size (Loader which) = 0
stub_size (Host e) = 0
stub_size (Stub m f) = 1

-- What stands for functions whatever their member: the numbers of those that each member defines, how many each imports, and the numbers
-- of the functions of the loader.
pub record Known : Type 0 where
  pub owns : List (List ℕ)
  pub imported : List ℕ
  pub loader : Option LoaderNumbers

abbrev pub known_of : declared.Known → Known
known_of k = record { owns = k.owns.now; imported = k.imported.now; loader = k.loader }

-- that of a function of the run, where a stub has this one
abbrev pub ref_number : Known → ℕ → Ref → ℕ
ref_number k stub (Own m f) = own_from k.owns m (slice_get k.imported m) f
ref_number k stub (Loader which) = call_in k.loader which
ref_number k stub (Host e) = e
ref_number k stub (Stub m f) = stub

-- those of the functions that a member names, where stubs have their numbers from one on
abbrev pub named_from : Known → ℕ → List Ref → List ℕ
named_from k stub [] = []
named_from k stub (r ∷ rs) = ref_number k stub r ∷ named_from k (stub + stub_size r) rs

-- the number after those of their stubs
abbrev pub stubs_end : ℕ → List Ref → ℕ
stubs_end stub [] = stub
stubs_end stub (r ∷ rs) = stubs_end (stub + stub_size r) rs

-- those of each member
abbrev pub named_lists : Known → ℕ → List (List Ref) → List (List ℕ)
named_lists k stub [] = []
named_lists k stub (x ∷ xs) = named_from k stub x ∷ named_lists k (stubs_end stub x) xs

abbrev pub all_stubs_end : ℕ → List (List Ref) → ℕ
all_stubs_end stub [] = stub
all_stubs_end stub (x ∷ xs) = all_stubs_end (stubs_end stub x) xs

-- What there is for the functions of the loader comes behind the phases of so many members, which begin with a number.
abbrev pub loader_behind : ℕ → ℕ → LoaderNumbers
loader_behind first count =
    let opening = first + 4 * count in
    let find = opening + count + 1 in
    let call = find + count in
    record {
      first_opening = opening;
      length = opening + count;
      first_find = find;
      dlopen = call + call_place Dlopen;
      dlsym = call + call_place Dlsym;
      dlclose = call + call_place Dlclose;
      dlerror = call + call_place Dlerror;
    }

-- it is there where the set uses the loader
abbrev pub loader_where : Bool → ℕ → ℕ → Option LoaderNumbers
loader_where uses first count = if uses then Some (loader_behind first count) else None

-- ---- the whole

-- What is kept of the numbers of a set with so many host functions, by the modules of its members and the functions that these name, by
-- whether it uses the loader, and by the addresses of what its members have.
abbrev pub kept_with : ℕ → List Module → List (List Ref) → Bool → KeptAddresses → KeptNumbers
kept_with hosts wasms refs uses addresses =
    let owns = numbered (size_in Codes) hosts wasms in
    let imported = map imported_count wasms in
    let first = numbers_end (size_in Codes) hosts wasms in
    let generated = all_stubs_end first refs in
    let loader = loader_where uses generated (length wasms) in
    record {
      functions = named_lists (record { owns = owns; imported = imported; loader = loader }) first refs;
      owns = owns;
      imported = imported;
      first_stub = first;
      first_phase = generated;
      loader = loader;
      types = numbered (size_in Types) 0 wasms;
      addresses = addresses;
    }

abbrev pub kept_of : LinkedSet → List (List Ref) → KeptAddresses → KeptNumbers
kept_of L refs addresses = kept_with (host_count L) (wasms L.set.members) refs (uses_loader L) addresses
