-- Names that are defined twice, by the definitions of names.
-- Serves the contracts of this crate, which follow Links of `spec_linking`.
use Rattle.std.specs.Prelude.{ℕ, List, [], ◌∷◌, Option, None, Some}
use Rattle.wasm_form.specs.declared.module.Export.{Export}
use Rattle.spec_loading.specs.spec_linking.Sets.{ClosedSet}
use Rattle.spec_loading.specs.spec_linking.Definitions.{Definition, MemberFunction, MemberData, searched}
use Rattle.spec_loading.specs.spec_linking.Links.{Finding, second_of}

-- the member that a definition is of
abbrev pub member_in : Definition → Option ℕ
member_in (MemberFunction k f) = Some k
member_in (MemberData k place) = Some k
member_in _ = None

abbrev pub where_defined : ℕ → List ℕ → Option ℕ → Option ℕ → Finding
where_defined m name None first = None
where_defined m name (Some k) first = second_of m name first

-- a name that member m defines, and that one of the earlier members defines
abbrev pub duplicate_by : ClosedSet → List ℕ → ℕ → Export → Finding
duplicate_by S earlier m e = where_defined m e.name (member_in (searched S (m ∷ []) e.name)) (member_in (searched S earlier e.name))
