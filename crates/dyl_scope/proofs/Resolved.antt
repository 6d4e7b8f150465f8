-- What is found by what is kept of a set is the definition in the set.
use Rattle.std.proofs.Common.{◌≡◌, ℕ, ◌<◌, Bool, true, false, List, [], ◌∷◌, ◌++◌, length, refl, ap, ap₂, sym, ◌∙◌, nat_eq, arith}
use Rattle.std.specs.Prelude.{not}
use Rattle.std.specs.List.{filter}
use Rattle.std.proofs.lemmas.Bool.Decides.{nat_tests}
use Rattle.spec_linking.specs.Sets.{ClosedSet}
use Rattle.spec_linking.specs.Orders.{is_among, closure, scope}
use Rattle.spec_linking.specs.Definitions as defined
use Rattle.dyl_scope.specs.Names.{Defined}
use Rattle.dyl_scope.specs.Scopes.{Scopes, AreOf, by_member, by_first, in_scope, resolved_in, outside, list_at}

or_assoc : (a b c : defined.Definition) → defined.or_defined (defined.or_defined a b) c ≡ defined.or_defined a (defined.or_defined b c)
or_assoc defined.Undefined b c = refl
or_assoc _ b c = refl

or_parts : (a b : defined.Definition) → defined.or_defined a b ≡ defined.Undefined → (a ≡ defined.Undefined) × (b ≡ defined.Undefined)
or_parts defined.Undefined b h = (refl, h)
or_parts _ b h = absurd cc

-- the same, unless the first is something
or_where : (a b c : defined.Definition) → (a ≡ defined.Undefined → b ≡ c) → defined.or_defined a b ≡ defined.or_defined a c
or_where defined.Undefined b c h = h refl
or_where _ b c h = refl

module _ (names : List Defined) (name : List ℕ) where
  first_append : (xs ys : List ℕ) → by_first names (xs ++ ys) name ≡ defined.or_defined (by_first names xs name) (by_first names ys name)
  first_append [] ys = refl
  first_append (x ∷ xs) ys = ap (defined.or_defined (by_member names x name)) (first_append xs ys) ∙ sym (or_assoc (by_member names x name) (by_first names xs name) (by_first names ys name))

  -- one of some members that don't define the name doesn't define it
  among_undefined : (k : ℕ) (ms : List ℕ) → is_among k ms ≡ true → by_first names ms name ≡ defined.Undefined → by_member names k name ≡ defined.Undefined
  among_undefined k [] among none = absurd cc
  among_undefined k (m ∷ ms) among none =
      let parts = or_parts (by_member names m name) (by_first names ms name) none in
      by (nat_eq m k) refl parts.0 (λ later. among_undefined k ms later parts.1)
    where
      by : (b : Bool) → nat_eq m k ≡ b → by_member names m name ≡ defined.Undefined → (is_among k ms ≡ true → by_member names k name ≡ defined.Undefined) → by_member names k name ≡ defined.Undefined
      by true p this rest = let same : k ≡ m = grind (arith, nat_tests) in rw same this
      by false p this rest = rest (rw p at among)

  -- members that are passed over don't define the name
  filter_undefined : (ss cs : List ℕ) → by_first names ss name ≡ defined.Undefined → by_first names (filter (λ k. not (is_among k ss)) cs) name ≡ by_first names cs name
  filter_undefined ss [] none = refl
  filter_undefined ss (k ∷ cs) none = by (is_among k ss) refl (filter_undefined ss cs none)
    where
      by : (b : Bool) → is_among k ss ≡ b → by_first names (filter (λ k. not (is_among k ss)) cs) name ≡ by_first names cs name → by_first names (filter (λ k. not (is_among k ss)) (k ∷ cs)) name ≡ by_first names (k ∷ cs) name
      by true p rest = let this = among_undefined k ss p none in rw (p, this) rest
      by false p rest = rw p (ap (defined.or_defined (by_member names k name)) rest)

  scope_search : (ss cs : List ℕ) → by_first names (ss ++ filter (λ k. not (is_among k ss)) cs) name ≡ in_scope names ss cs name
  scope_search ss cs = first_append ss (filter (λ k. not (is_among k ss)) cs)
      ∙ or_where (by_first names ss name) (by_first names (filter (λ k. not (is_among k ss)) cs) name) (by_first names cs name) (filter_undefined ss cs)

module _ (S : ClosedSet) (s : Scopes) (of : AreOf S s) where
  pub first_exact : (ms name : List ℕ) → by_first s.names ms name ≡ defined.searched S ms name
  first_exact [] name = refl
  first_exact (m ∷ ms) name = ap₂ (λ a b. defined.or_defined a b) (ap (defined.defined_by m) (of.names m name)) (first_exact ms name)

  pub resolved_exact : (m : ℕ) (name : List ℕ) (declared weak : Bool) → m < length s.names → resolved_in s m name declared weak ≡ defined.resolved S m name declared weak
  resolved_exact m name declared weak inside =
      let own : list_at s.closures m ≡ closure S m = of.closures m (omega (arith, of.count)) in
      let start : list_at s.closures 0 ≡ S.startup = of.closures 0 of.some ∙ sym of.startup in
      let within : in_scope s.names (list_at s.closures 0) (list_at s.closures m) name ≡ defined.searched S (scope S m) name =
      ap₂ (λ a b. in_scope s.names a b name) start own ∙ sym (scope_search s.names name S.startup (closure S m)) ∙ first_exact (scope S m) name in
      ap (λ d. defined.or_defined (defined.named_in defined.loader_names name) (defined.or_defined d (outside declared weak))) within
      ∙ sym (or_assoc (defined.named_in defined.loader_names name) (defined.searched S (scope S m) name) (outside declared weak))
