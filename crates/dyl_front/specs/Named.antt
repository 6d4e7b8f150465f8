-- The names of a member's functions, by the places of exports.
-- Serves the contracts of this crate, which follow Listing of `dyl_front`.
use Rattle.std.specs.Prelude.{◌≡◌, ◌<◌, ℕ, List, [], length, Bool, false, nat_eq, Option, Some, None, unwrap_or, slice_get, slice_index_or}
use Rattle.std.specs.List.{position_from}
use Rattle.std.specs.Option.{option_map}
use Rattle.spec_merging.specs.wasm_form.declared.module.Export.{Export}
use Rattle.spec_traces.specs.spec_hosts.spec_binary.Options.{◌>>=◌}
use Rattle.spec_linking.specs.Sets.{Member}
use Rattle.dyl_front.specs.Listing.{is_name_of}

-- the exports of a member
abbrev pub exports_in : Option Member → List Export
exports_in None = []
exports_in (Some member) = member.wasm.exports

-- the name of an export at a place
abbrev pub name_placed : List Export → Option ℕ → List ℕ
name_placed exports place = unwrap_or (option_map (λ e. e.name) (place >>= slice_get exports)) []

-- it is this number
abbrev pub is_same_number : ℕ → Option ℕ → Bool
is_same_number f None = false
is_same_number f (Some g) = nat_eq g f

-- of functions by their numbers, the places of the first exports that define names as them
abbrev pub AreFirst : List (Option ℕ) → List Export → Type 0
AreFirst firsts exports = (f : ℕ) → f < length firsts → slice_index_or firsts f None ≡ position_from (is_name_of f) 0 exports
