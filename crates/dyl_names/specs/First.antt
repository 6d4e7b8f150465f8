-- The definition of a name by the first of some members that defines it.
-- Serves the contracts of this crate, which follow Definitions of `spec_linking`.
use Rattle.std.specs.Prelude.{◌≡◌, ℕ, List, [], ◌∷◌, false, slice_get, None}
use Rattle.std.specs.Map.{lookup}
use Rattle.std.specs.Str.{bytes_eq}
use Rattle.spec_linking.specs.spec_binary.Options.{◌>>=◌}
use Rattle.spec_linking.specs.Orders.{is_among}
use Rattle.spec_linking.specs.Definitions as defined
use Rattle.dyl_names.specs.Names.{Defined}
use Rattle.dyl_names.specs.declared.def.Def.{Def}
use Rattle.dyl_names.specs.declared.def.Def.TheVariants as def

-- a definition, as the meaning sees it
abbrev pub meaning_of : Def → defined.Definition
meaning_of (def.Loader call) = defined.LoaderFunction call
meaning_of def.HeapBase = defined.HeapBase
meaning_of def.HeapEnd = defined.HeapEnd
meaning_of (def.Function m f) = defined.MemberFunction m f
meaning_of (def.Datum m place) = defined.MemberData m place
meaning_of (def.Host n) = defined.HostFunction
meaning_of def.Weak = defined.WeakSymbol
meaning_of def.Nothing = defined.Undefined

-- it isn't a host function
abbrev pub IsInside : Def → Type 0
IsInside d = (n : ℕ) → d ≡ def.Host n → ⊥

-- ---- by the names that the members define, the definition of a name by a member

abbrev pub by_member : List Defined → ℕ → List ℕ → defined.Definition
by_member names m name = defined.defined_by m (slice_get names m >>= lookup (bytes_eq name))

-- and by the first of some members that defines it
abbrev pub by_first : List Defined → List ℕ → List ℕ → defined.Definition
by_first names [] name = defined.Undefined
by_first names (m ∷ ms) name = defined.or_defined (by_member names m name) (by_first names ms name)

-- no other members than these define a name
abbrev pub AreOnly : List Defined → List ℕ → List ℕ → Type 0
AreOnly names definers name = (m : ℕ) → is_among m definers ≡ false → (slice_get names m >>= lookup (bytes_eq name)) ≡ None
