-- Distinct things have distinct numbers, and two numbers of globals or tables are one exactly where they lead to one place.
-- Part of the statement of laws: docs/LAWS.md, "Laws of the parts".
use Rattle.std.specs.Prelude.{◌≡◌, ℕ, ◌<◌, ◌≤◌, ◌↔◌, Option, Some, true}
use Rattle.wasm_form.specs.declared.runtime.Ref.{Ref}
use Rattle.wasm_form.specs.declared.runtime.Ref.TheVariants.{Own, Loader, Host, Stub}
use Rattle.spec_loading.specs.spec_linking.LinkedSets.{LinkedSet}
use Rattle.spec_loading.specs.Addresses.{global_address, table_address, elem_address, data_address}
use Rattle.spec_loading.specs.Members.{uses_loader}
use Rattle.merge_match.specs.Renumbering.{Numbers}
use Rattle.merge_match.specs.Joined.{type_address, function_address}
use Rattle.merge_index.specs.Numbering.{host_count, stub_address, first_phase, first_call, numbers_of}

abbrev pub IsThere : Option ℕ → Type 0
IsThere o = (a : ℕ) × (o ≡ Some a)

-- A function of the run that the merged module has. The functions of the loader are there where the set uses them.
abbrev pub HasNumber : LinkedSet → Ref → Type 0
HasNumber L (Own m f) = IsThere (function_address L (host_count L) m f)
HasNumber L (Loader which) = uses_loader L ≡ true
HasNumber L (Host e) = e < host_count L
HasNumber L (Stub m f) = IsThere (stub_address L m f)

abbrev pub FunctionsAreDistinct : Type 0
FunctionsAreDistinct = (L : LinkedSet) (r q : Ref) → HasNumber L r → HasNumber L q → (numbers_of L).function r ≡ (numbers_of L).function q → r ≡ q

-- All that is generated comes behind the functions of members, of the host and the stubs, and the functions of the loader behind what they call.
abbrev IsBeside : LinkedSet → Ref → Type 0
IsBeside L (Loader which) = first_call L ≤ (numbers_of L).function (Loader which)
IsBeside L (Own m f) = (numbers_of L).function (Own m f) < first_phase L
IsBeside L (Host e) = (numbers_of L).function (Host e) < first_phase L
IsBeside L (Stub m f) = (numbers_of L).function (Stub m f) < first_phase L

abbrev pub GeneratedIsBeside : Type 0
GeneratedIsBeside = (L : LinkedSet) (r : Ref) → HasNumber L r → IsBeside L r

-- items of members have addresses of their own: where two have one number, they are one
abbrev AreApart : (LinkedSet → ℕ → ℕ → Option ℕ) → (Numbers → ℕ → ℕ → ℕ) → Type 0
AreApart address number = (L : LinkedSet) (m k i j : ℕ) → IsThere (address L m i) → IsThere (address L k j)
    → number (numbers_of L) m i ≡ number (numbers_of L) k j → (m ≡ k) × (i ≡ j)

abbrev pub TypesAreDistinct : Type 0
TypesAreDistinct = AreApart type_address (λ n. n.ty)

abbrev pub SegmentsAreDistinct : Type 0
SegmentsAreDistinct = AreApart elem_address (λ n. n.elem) × AreApart data_address (λ n. n.segment)

abbrev AreByPlace : (LinkedSet → ℕ → ℕ → Option ℕ) → (Numbers → ℕ → ℕ → ℕ) → Type 0
AreByPlace address number = (L : LinkedSet) (m k i j a b : ℕ) → address L m i ≡ Some a → address L k j ≡ Some b
    → (number (numbers_of L) m i ≡ number (numbers_of L) k j) ↔ (a ≡ b)

abbrev pub PlacesHaveNumbers : Type 0
PlacesHaveNumbers = AreByPlace global_address (λ n. n.global) × AreByPlace table_address (λ n. n.table)
