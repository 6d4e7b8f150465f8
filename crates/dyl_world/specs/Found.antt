-- How members and names are found.
-- Serves the contracts of this crate, which follow LoaderAnswers of `spec_loading`.
use Rattle.std.specs.Prelude.{◌≡◌, ℕ, List, Bool, None, bytes_eq, All}
use Rattle.spec_loading.specs.spec_binary.Exports.{exported_as}
use Rattle.spec_loading.specs.spec_linking.Definitions.{Definition, LoaderFunction, HeapBase, HeapEnd, MemberFunction, MemberData, HostFunction, WeakSymbol, Undefined}
use Rattle.dyl_link.specs.dyl_search.declared.set.Member.{Member}

abbrev pub is_named : List ℕ → Member → Bool
is_named name m = bytes_eq name m.name

-- no member exports anything under a name
abbrev pub IsWithout : List ℕ → Member → Type 0
IsWithout name m = exported_as name m.checked.exports ≡ None

abbrev pub AreWithout : List ℕ → List Member → Type 0
AreWithout name members = All (IsWithout name) members

-- a definition is a member's function or data, or there is none
abbrev pub IsFound : Definition → Type 0
IsFound (LoaderFunction call) = ⊥
IsFound HeapBase = ⊥
IsFound HeapEnd = ⊥
IsFound (MemberFunction k g) = Unit {0}
IsFound (MemberData k place) = Unit {0}
IsFound HostFunction = ⊥
IsFound WeakSymbol = ⊥
IsFound Undefined = Unit {0}
