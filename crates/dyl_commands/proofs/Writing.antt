-- The main module of a generated set can write: WASI has `fd_write`, whatever a host table has.
use Rattle.std.proofs.Common.{◌≡◌, ℕ, Bool, true, false, cond, List, [], ◌∷◌, refl, ap}
use Rattle.std.specs.Prelude.{codes}
use Rattle.std.specs.Str.{bytes_eq}
use Rattle.spec_hosts.specs.spec_runtime.Names.{HostName, HostModule, no_names, host_module, module_match, change_module, with_function, with_names}
use Rattle.spec_hosts.specs.Calls.{wasi_name, with_wasi}
use Rattle.spec_hosts.specs.Laws.{run_names}
use Rattle.dyl_gen.specs.Generated.{four_numbers}
use Rattle.dyl_gen.specs.Laws.{CanWrite}

-- what WASI declares of its module, which is every name
abbrev whole : HostModule
whole = host_module (with_wasi no_names) wasi_name

abbrev Modules : Type 0
Modules = List (List ℕ × HostModule)

-- more declarations leave it
abbrev Stays : List HostName → Modules → Type 0
Stays hs ms = host_module (with_names (record { modules = (wasi_name, whole) ∷ ms }) hs) wasi_name ≡ whole

one_more : (h : HostName) (hs : List HostName) (ms : Modules) → ((others : Modules) → Stays hs others) → (b : Bool)
    → host_module (with_names (record { modules = cond b ((wasi_name, whole) ∷ ms) ((wasi_name, whole) ∷ change_module (with_function h.name h.ty) h.module_name ms) }) hs) wasi_name ≡ whole
one_more h hs ms others true = others ms
one_more h hs ms others false = others (change_module (with_function h.name h.ty) h.module_name ms)

stays : (hs : List HostName) (ms : Modules) → Stays hs ms
stays [] ms = refl
stays (h ∷ hs) ms = one_more h hs ms (λ others. stays hs others) (bytes_eq h.module_name wasi_name)

pub can_write : (table : List HostName) → CanWrite (run_names table)
can_write table = ap (λ m. module_match m (codes "fd_write") four_numbers) (stays table [])
