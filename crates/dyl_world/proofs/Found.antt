-- What is found in members is a member's function or data, or nothing; and what is found in some, or else in others.
use Rattle.std.proofs.Common.{◌≡◌, ℕ, List, [], ◌∷◌, ◌++◌, Option, Some, None, slice_get, refl, sym, ap, ◌∙◌}
use Rattle.spec_loading.specs.spec_binary.Options.{◌>>=◌}
use Rattle.spec_loading.specs.spec_linking.Sets.{ClosedSet}
use Rattle.spec_loading.specs.spec_linking.Definitions.{Definition, Undefined, Symbol, FunctionSymbol, DataSymbol, or_defined, defined_by, symbol_of, member_definition, searched}
use Rattle.dyl_link.specs.dyl_names.declared.def.Def.{Def}
use Rattle.dyl_link.specs.dyl_names.declared.def.Def.TheVariants as def
use Rattle.dyl_link.specs.dyl_scope.Scopes.{meaning_of}
use Rattle.dyl_world.specs.Found.{IsFound}

found_or : (m : ℕ) (o : Option Symbol) (S : ClosedSet) (ms name : List ℕ) → IsFound (searched S ms name) → IsFound (or_defined (defined_by m o) (searched S ms name))
found_or m None S ms name later = later
found_or m (Some (FunctionSymbol f)) S ms name later = tt
found_or m (Some (DataSymbol place)) S ms name later = tt

pub found_searched : (S : ClosedSet) (ms name : List ℕ) → IsFound (searched S ms name)
found_searched S [] name = tt
found_searched S (m ∷ ms) name = found_or m (slice_get S.members m >>= λ member. symbol_of member.wasm name) S ms name (found_searched S ms name)

or_later : (d a b c : Definition) → a ≡ or_defined b c → or_defined d a ≡ or_defined (or_defined d b) c
or_later Undefined a b c e = e
or_later _ a b c e = refl

searched_append : (S : ClosedSet) (xs ys name : List ℕ) → searched S (xs ++ ys) name ≡ or_defined (searched S xs name) (searched S ys name)
searched_append S [] ys name = refl
searched_append S (m ∷ xs) ys name =
    or_later (member_definition S m name) (searched S (xs ++ ys) name) (searched S xs name) (searched S ys name) (searched_append S xs ys name)

module _ (S : ClosedSet) (xs ys name : List ℕ) where
  -- what the first of some members defines a name as
  pub found_first : (d : Def) → (d ≡ def.Nothing → ⊥) → meaning_of d ≡ searched S xs name → meaning_of d ≡ searched S (xs ++ ys) name
  found_first d some is = alone d some ∙ ap (λ (x : Definition). or_defined x (searched S ys name)) is ∙ sym (searched_append S xs ys name)
    where
      alone : (x : Def) → (x ≡ def.Nothing → ⊥) → meaning_of x ≡ or_defined (meaning_of x) (searched S ys name)
      alone def.Nothing other = absurd (other refl)
      alone (def.Loader call) other = refl
      alone def.HeapBase other = refl
      alone def.HeapEnd other = refl
      alone (def.Function m f) other = refl
      alone (def.Datum m place) other = refl
      alone (def.Host n) other = refl
      alone def.Weak other = refl

  -- or, where they don't, what the first of others does
  pub found_later : (d : Definition) → Undefined ≡ searched S xs name → d ≡ searched S ys name → d ≡ searched S (xs ++ ys) name
  found_later d none is = is ∙ ap (λ (x : Definition). or_defined x (searched S ys name)) none ∙ sym (searched_append S xs ys name)
