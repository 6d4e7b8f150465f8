-- What is kept of the numbers of a linked set, and the numbers that this stands for.
-- Serves the contracts of this crate, which follow Numbering of `merge_index`.
use Rattle.std.specs.Prelude.{ℕ, ◌-◌, List, slice_get, nat_lt, nat_le, ◌&&◌, Option, Some, None, if◌then◌else◌}
use Rattle.wasm_form.specs.declared.runtime.LoaderCall.{LoaderCall}
use Rattle.wasm_form.specs.declared.runtime.LoaderCall.TheVariants.{Dlopen, Dlsym, Dlclose, Dlerror}
use Rattle.wasm_form.specs.declared.runtime.Ref.{Ref}
use Rattle.wasm_form.specs.declared.runtime.Ref.TheVariants.{Own, Loader, Host, Stub}
use Rattle.merge_match.specs.Renumbering.{Numbers}
use Rattle.dyl_addresses.specs.Kept.{KeptAddresses, kept_global, kept_table, kept_elem, kept_data}
use Rattle.merge_match.specs.Parts.{nowhere, number_of}
pub use Rattle.merge_pieces.specs.Numbers.{number_at}
use Rattle.merge_index.specs.declared.numbers.LoaderNumbers.{LoaderNumbers}

-- Of each member, by its own numbers, the numbers of the functions that these name, and of its types, and the addresses of its globals,
-- tables and segments. The functions that it defines have numbers of their own, behind the ones that it imports; stubs have theirs from one
-- on, up to the first function that is generated. The functions of the loader have numbers where the set uses them.
pub record KeptNumbers : Type 0 where
  pub functions : List (List ℕ)
  pub owns : List (List ℕ)
  pub imported : List ℕ
  pub first_stub : ℕ
  pub first_phase : ℕ
  pub loader : Option LoaderNumbers
  pub types : List (List ℕ)
  pub addresses : KeptAddresses

-- the number of a function of member m, by the numbers of those that each member defines, where so many are imported
abbrev pub own_from : List (List ℕ) → ℕ → Option ℕ → ℕ → ℕ
own_from owns m None f = nowhere
own_from owns m (Some imported) f = if nat_lt f imported then nowhere else number_at owns m (f - imported)

-- the number of a stub, by that of the function that its number names, where the stubs have those from one on, up to another
abbrev pub stub_number : ℕ → ℕ → ℕ → ℕ
stub_number first end named = if nat_le first named && nat_lt named end then named else nowhere

abbrev pub call_of : LoaderNumbers → LoaderCall → ℕ
call_of n Dlopen = n.dlopen
call_of n Dlsym = n.dlsym
call_of n Dlclose = n.dlclose
call_of n Dlerror = n.dlerror

-- the number of a function of the loader
abbrev pub call_in : Option LoaderNumbers → LoaderCall → ℕ
call_in None which = nowhere
call_in (Some n) which = call_of n which

abbrev pub function_in : KeptNumbers → Ref → ℕ
function_in k (Own m f) = own_from k.owns m (slice_get k.imported m) f
function_in k (Loader which) = call_in k.loader which
function_in k (Host e) = e
function_in k (Stub m f) = stub_number k.first_stub k.first_phase (number_at k.functions m f)

abbrev pub numbers_in : KeptNumbers → Numbers
numbers_in k = record {
  function = function_in k;
  named = number_at k.functions;
  ty = number_at k.types;
  global = λ m g. number_of (kept_global k.addresses m g);
  table = λ m t. number_of (kept_table k.addresses m t);
  elem = λ m e. number_of (kept_elem k.addresses m e);
  segment = λ m d. number_of (kept_data k.addresses m d);
}
