-- The functions of the loader and of the host among references, each once.
-- Serves the contracts of this crate, which follow Slots of `spec_linking`.
use Rattle.std.specs.Prelude.{ℕ, List, [], ◌∷◌, ◌++◌, map, if◌then◌else◌}
use Rattle.std.specs.List.{filter, list_any}
use Rattle.wasm_form.specs.declared.runtime.LoaderCall.{LoaderCall}
use Rattle.wasm_form.specs.declared.runtime.LoaderCall.TheVariants.{Dlopen, Dlsym, Dlclose, Dlerror}
use Rattle.wasm_form.specs.declared.runtime.Ref.{Ref}
use Rattle.wasm_form.specs.declared.runtime.Ref.TheVariants.{Loader, Host}
use Rattle.spec_loading.specs.spec_linking.Orders.{with_number, with_numbers}
use Rattle.spec_loading.specs.spec_linking.Slots.{same_ref}

abbrev pub all_calls : List LoaderCall
all_calls = Dlopen ∷ Dlsym ∷ Dlclose ∷ Dlerror ∷ []

-- the calls of the loader among references, in this order
abbrev pub calls_in : List Ref → List LoaderCall
calls_in refs = filter (λ call. list_any (same_ref (Loader call)) refs) all_calls

abbrev pub host_numbers : List Ref → List ℕ
host_numbers [] = []
host_numbers (Host n ∷ rs) = n ∷ host_numbers rs
host_numbers (r ∷ rs) = host_numbers rs

-- the host functions among references, each once, as it comes first
abbrev pub hosts_in : List Ref → List ℕ
hosts_in refs = with_numbers [] (host_numbers refs)

abbrev pub outside_in : List Ref → List Ref
outside_in refs = map Loader (calls_in refs) ++ map Host (hosts_in refs)

-- one call of the loader, where it is among references
abbrev pub call_in : List Ref → LoaderCall → List LoaderCall
call_in refs call = if list_any (same_ref (Loader call)) refs then call ∷ [] else []

-- one host function more, unless it is known
abbrev pub with_host_in : List ℕ → Ref → List ℕ
with_host_in known (Host n) = with_number known n
with_host_in known r = known
