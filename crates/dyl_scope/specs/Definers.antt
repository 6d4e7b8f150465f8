-- The members that define a name, by the names of all members.
-- Serves the contracts of this crate, which follow Definitions of `spec_linking`.
use Rattle.std.specs.Prelude.{ℕ, ◌+◌, List, [], ◌∷◌, map, unwrap_or, String, string_bytes, if◌then◌else◌}
use Rattle.std.specs.Map.{lookup}
use Rattle.std.specs.Str.{bytes_eq}
use Rattle.spec_linking.specs.Orders.{with_number}
use Rattle.dyl_scope.specs.Names.{Defined, definition_value}
use Rattle.dyl_scope.specs.declared.maker.Told.{Told}
pub use Rattle.dyl_names.specs.First.{AreOnly}

-- names, by their bytes, each with members that define it
abbrev pub Definers : Type 0
Definers = List (List ℕ × List ℕ)

-- entries with the bytes of their texts
abbrev pub by_text : {Z : Type 0} → List (String Z × List ℕ) → Definers
by_text es = map (λ e. (string_bytes e.0, e.1)) es

-- the members that define a name
abbrev pub definers_of : Definers → List ℕ → List ℕ
definers_of ds name = unwrap_or (lookup (bytes_eq name) ds) []

-- a member more for a name
abbrev pub with_definer : List ℕ → ℕ → Definers → Definers
with_definer name m [] = (name, m ∷ []) ∷ []
with_definer name m (d ∷ ds) = if bytes_eq name d.0 then (d.0, with_number d.1 m) ∷ ds else d ∷ with_definer name m ds

-- a member that has these definitions
abbrev pub with_definers : ℕ → Defined → Definers → Definers
with_definers m [] ds = ds
with_definers m (x ∷ xs) ds = with_definers m xs (with_definer x.0 m ds)

-- members, of which the first has number m
abbrev pub with_told : ℕ → List Told → Definers → Definers
with_told m [] ds = ds
with_told m (t ∷ ts) ds = with_told (m + 1) ts (with_definers m (map definition_value t.definitions) ds)

-- no other members than those that are noted for a name define it
abbrev pub AreDefiners : List Defined → Definers → Type 0
AreDefiners names ds = (name : List ℕ) → AreOnly names (definers_of ds name) name
