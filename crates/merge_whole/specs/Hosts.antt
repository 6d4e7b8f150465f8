-- The types of host functions: which numbers imported functions give them, and where types are added.
-- Serves the contracts of this crate, which follow MergedModule of `merge_module`.
use Rattle.std.specs.Prelude.{ℕ, ◌+◌, List, [], ◌∷◌, nat_eq, slice_index_or, Option, Some, None, if◌then◌else◌}
use Rattle.wasm_form.specs.declared.types.FuncType.{FuncType}
use Rattle.wasm_form.specs.declared.runtime.Ref.{Ref}
use Rattle.wasm_form.specs.declared.runtime.Ref.TheVariants.{Own, Loader, Host, Stub}
use Rattle.spec_loading.specs.spec_linking.Definitions.{or_other}
use Rattle.spec_loading.specs.spec_linking.Sets.{Member}
use Rattle.spec_loading.specs.spec_linking.LinkedSets.{LinkedSet, function_ref}
use Rattle.merge_match.specs.Renumbering.{Numbers}
use Rattle.merge_module.specs.MergedModule.{type_number}
use Rattle.merge_whole.specs.Built.{imported_types}

-- the host function that a reference is to, if it is to one
abbrev pub host_of : Option Ref → Option ℕ
host_of (Some (Host e)) = Some e
host_of (Some (Own m f)) = None
host_of (Some (Loader which)) = None
host_of (Some (Stub m f)) = None
host_of None = None

-- the number that this host function, of a type with number t, gives host function e
abbrev pub given_to : Option ℕ → ℕ → ℕ → Option ℕ
given_to (Some h) t e = if nat_eq h e then Some t else None
given_to None t e = None

-- the first number that functions of member m, which are numbered from f on, give host function e, by their types
abbrev pub given_at : LinkedSet → ℕ → (ℕ → ℕ) → ℕ → List ℕ → ℕ → Option ℕ
given_at L m of f [] e = None
given_at L m of f (t ∷ ts) e = or_other (given_to (host_of (function_ref L m f)) (of t) e) (given_at L m of (f + 1) ts e)

-- the first that functions give which members import, numbered from m on
abbrev pub given_from : LinkedSet → Numbers → ℕ → List Member → ℕ → Option ℕ
given_from L n m [] e = None
given_from L n m (x ∷ xs) e = or_other (given_at L m (n.ty m) 0 (imported_types x.wasm) e) (given_from L n (m + 1) xs e)

-- what is listed for a host function
abbrev pub use_in : List (Option ℕ) → ℕ → Option ℕ
use_in uses e = slice_index_or uses e None

-- the number of the type of a host function, by what is listed and the types that are added, which have their numbers from one on
abbrev pub number_by : ℕ → List FuncType → List (Option ℕ) → ℕ → FuncType → ℕ
number_by first added uses e ty = type_number first added (use_in uses e) ty
