-- What is kept of members: the names that each notes as weak, and how many functions it has.
-- Serves the contracts of this crate, which follow Definitions of `spec_linking`.
use Rattle.std.specs.Prelude.{◌≡◌, ℕ, List, [], ◌∷◌, map, length, slice_get, Bool, false, Option, None, Some, ◌&&◌, ◌%◌, nat_eq}
use Rattle.spec_loading.specs.spec_binary.IndexSpaces.{function_space}
use Rattle.spec_loading.specs.spec_linking.Records.{ImportNote}
use Rattle.spec_loading.specs.spec_linking.Sets.{Member}
use Rattle.spec_loading.specs.spec_linking.Definitions.{is_one_of, env_name, got_mem_name, got_func_name}
use Rattle.spec_loading.specs.spec_linking.LinkedSets.{is_weak_in}

-- a note of one of the three modules says that its field is weak
abbrev pub is_weak_entry : ImportNote → Bool
is_weak_entry n = is_one_of n.from_module (env_name ∷ got_mem_name ∷ got_func_name ∷ []) && nat_eq (n.flags % 4) 1

abbrev pub is_among_names : List ℕ → Option (List (List ℕ)) → Bool
is_among_names name None = false
is_among_names name (Some names) = is_one_of name names

-- whether a name is weak for member m
abbrev pub weak_in : List (List (List ℕ)) → ℕ → List ℕ → Bool
weak_in weak m name = is_among_names name (slice_get weak m)

-- they are the names that the members note as weak
abbrev pub AreWeakOf : List Member → List (List (List ℕ)) → Type 0
AreWeakOf members weak = (m : ℕ) (name : List ℕ) → weak_in weak m name ≡ is_weak_in (slice_get members m) name

-- how many functions each member has
abbrev pub function_counts : List Member → List ℕ
function_counts members = map (λ m. length (function_space m.wasm)) members
