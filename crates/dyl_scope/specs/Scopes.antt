-- The definition of a name, by what is kept of a set.
-- Serves the contracts of this crate, which follow Definitions of `spec_linking`.
use Rattle.std.specs.Prelude.{◌≡◌, ℕ, ◌<◌, unwrap_or, List, [], length, map, Bool, Option, None, slice_get, All}
use Rattle.std.specs.Map.{lookup}
use Rattle.std.specs.Str.{bytes_eq}
use Rattle.wasm_form.specs.declared.module.Module.{Module}
use Rattle.spec_linking.specs.spec_binary.Options.{◌>>=◌}
use Rattle.spec_linking.specs.spec_validation.Faults.{fault}
use Rattle.spec_linking.specs.Sets.{Member, ClosedSet}
use Rattle.spec_linking.specs.Orders.{closure, post_order, with_numbers}
use Rattle.spec_linking.specs.Definitions as defined
use Rattle.dyl_scope.specs.Names.{Defined, defined_in, definition_value}
use Rattle.dyl_scope.specs.declared.maker.Told as declared
pub use Rattle.dyl_names.specs.First.{meaning_of, IsInside, by_member, by_first}

-- ---- what is told of a member: what its exports define, and the numbers of the members that it needs, each once

pub record Told : Type 0 where
  pub definitions : Defined
  pub needed : List ℕ

abbrev pub told_by : Module → List ℕ → Told
told_by wasm needed = record { definitions = defined_in wasm wasm.exports; needed = with_numbers [] needed }

abbrev pub told_of : Member → Told
told_of m = told_by m.wasm m.needed

abbrev pub told_value : declared.Told → Told
told_value t = record { definitions = map definition_value t.definitions; needed = t.needed }

-- the module of a member has no fault
abbrev pub IsValid : Member → Type 0
IsValid m = fault m.wasm ≡ None

-- This was told of the members of a set, in order: of each its module, which has no fault, and the members that it needs. The startup list
-- is the closure of the first member. Whatever is told of modules without a fault is told so of a set.
pub record IsTold (S : ClosedSet) (told : List Told) : Type 0 where
  pub members : told ≡ map told_of S.members
  pub valid : All IsValid S.members
  pub startup : S.startup ≡ closure S 0
  pub some : 0 < length S.members

-- ---- what is kept of a set: the names that each member defines, its closure and its post-order

pub record Scopes : Type 0 where
  pub names : List Defined
  pub closures : List (List ℕ)
  pub orders : List (List ℕ)

abbrev pub list_at : List (List ℕ) → ℕ → List ℕ
list_at lists m = unwrap_or (slice_get lists m) []

-- what a member defines a name as
abbrev pub symbol_in : ClosedSet → ℕ → List ℕ → Option defined.Symbol
symbol_in S m name = slice_get S.members m >>= λ member. defined.symbol_of member.wasm name

-- they are those of a set, whose startup list is the closure of its first member
pub record AreOf (S : ClosedSet) (s : Scopes) : Type 0 where
  pub names : (m : ℕ) (name : List ℕ) → (slice_get s.names m >>= lookup (bytes_eq name)) ≡ symbol_in S m name
  pub count : length s.names ≡ length S.members
  pub closures : (m : ℕ) → m < length S.members → list_at s.closures m ≡ closure S m
  pub orders : (m : ℕ) → m < length S.members → list_at s.orders m ≡ post_order S m
  pub startup : S.startup ≡ closure S 0
  pub some : 0 < length S.members

-- ---- by the names that the members define, the definition of a name

-- in a scope: in the startup list, or else in the closure of the member
abbrev pub in_scope : List Defined → List ℕ → List ℕ → List ℕ → defined.Definition
in_scope names startup closure name = defined.or_defined (by_first names startup name) (by_first names closure name)

-- the host's, where there is one, or else nothing where it is weak
abbrev pub outside : Bool → Bool → defined.Definition
outside declared weak = defined.or_defined (defined.where_so declared defined.HostFunction) (defined.where_so weak defined.WeakSymbol)

abbrev pub resolved_in : Scopes → ℕ → List ℕ → Bool → Bool → defined.Definition
resolved_in s m name declared weak =
    defined.or_defined (defined.named_in defined.loader_names name)
    (defined.or_defined (in_scope s.names (list_at s.closures 0) (list_at s.closures m) name) (outside declared weak))
