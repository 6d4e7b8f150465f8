-- What host names hold, as the meanings see it.
-- Serves the contracts of this crate, which follow Names of `spec_runtime`.
use Rattle.std.specs.Prelude.{◌≡◌, ℕ, List, map, String, string_bytes, Bool, IsTrue, ◌&&◌, if◌then◌else◌}
use Rattle.std.specs.List.{All}
use Rattle.std.specs.Str.{bytes_eq}
use Rattle.spec_runtime.specs.wasm_form.declared.types.FuncType.{FuncType}
use Rattle.spec_runtime.specs.Names as names
use Rattle.host_table.specs.declared.host.HostName.{HostName}
use Rattle.host_table.specs.declared.module.HostMatch.{HostMatch}
use Rattle.host_table.specs.declared.module.HostMatch.TheVariants.{Unknown, Fits, OtherType}

-- entries with the bytes of their texts
abbrev pub by_text : {Z X : Type 0} → List (String Z × X) → List (List ℕ × X)
by_text es = map (λ e. (string_bytes e.0, e.1)) es

-- the type of each entry has integers alone
abbrev pub TypesHaveIntegers : {K : Type 0} → List (K × FuncType) → Type 0
TypesHaveIntegers es = All (λ e. IsTrue (names.has_integers e.1)) es

-- the type of each function of each module has integers alone
abbrev pub ModulesHaveIntegers : {K : Type 0} → List (K × names.HostModule) → Type 0
ModulesHaveIntegers ms = All (λ m. TypesHaveIntegers m.1.functions) ms

-- what is declared has integers alone
abbrev pub HaveIntegers : names.HostNames → Type 0
HaveIntegers declared = (from name : List ℕ) (ty : FuncType) → names.host_match declared from name ty ≡ names.Fits → IsTrue (names.has_integers ty)

abbrev pub match_of : HostMatch → names.HostMatch
match_of Unknown = names.Unknown
match_of Fits = names.Fits
match_of OtherType = names.OtherType

-- a host function, by its module, its name and its type
abbrev pub host_name_of : HostName → names.HostName
host_name_of h = record { module_name = h.module; name = h.name; ty = h.ty }

abbrev pub fits_where : Bool → names.HostMatch
fits_where covered = if covered then names.Fits else names.OtherType

-- whether a host function is that of a module and a name
abbrev pub is_called : List ℕ → List ℕ → names.HostName → Bool
is_called from name h = bytes_eq h.module_name from && bytes_eq h.name name
