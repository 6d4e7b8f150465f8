-- The set that is linked, and what is numbered there.
-- Serves the contracts of this crate, which follow LinkedSets of `spec_linking`.
use Rattle.std.specs.Prelude.{ℕ, length, unwrap_or, Some, IsTrue}
use Rattle.spec_loading.specs.spec_binary.Options.{◌>>=◌}
use Rattle.spec_loading.specs.spec_binary.IndexSpaces.{function_space}
use Rattle.spec_loading.specs.spec_validation.Faults.{is_function_supported}
use Rattle.spec_loading.specs.spec_runtime.Names.{HostName, HostNames}
use Rattle.spec_loading.specs.spec_linking.Plans as plans
use Rattle.spec_loading.specs.spec_linking.Definitions.{imported_globals}
use Rattle.spec_loading.specs.spec_linking.LinkedSets.{LinkedSet, wasm_of}
use Rattle.dyl_slots.specs.dyl_search.declared.set.ClosedSet as declared
use Rattle.dyl_slots.specs.dyl_search.Gathers.{set_of}
use Rattle.dyl_link.specs.declared.options.LinkOptions.{LinkOptions}

abbrev pub options_of : LinkOptions → plans.LinkOptions
options_of o = record { stack = o.stack; pages = o.pages; no_duplicates = o.no_duplicates }

-- a set, how it is linked, and the host functions that are declared
abbrev pub linked_set : declared.ClosedSet → LinkOptions → HostNames → LinkedSet
linked_set S o names = record { set = set_of S; options = options_of o; names = names }

-- a host function of types that modules may use
abbrev pub IsSupported : HostName → Type 0
IsSupported h = IsTrue (is_function_supported h.ty)

-- how many functions a member numbers, and how many globals it imports
abbrev pub functions_in : LinkedSet → ℕ → ℕ
functions_in L m = unwrap_or (wasm_of L m >>= λ wasm. Some (length (function_space wasm))) 0

abbrev pub imported_globals_in : LinkedSet → ℕ → ℕ
imported_globals_in L m = unwrap_or (wasm_of L m >>= λ wasm. Some (imported_globals wasm)) 0
