-- What the members' imports of each other stand for.
use Rattle.std.proofs.Common.{◌≡◌, ℕ, ◌<◌, ◌≤◌, Bool, true, false, cond, nat_eq, List, [], ◌∷◌, length, map, Option, Some, None, refl, sym, ap, ◌∙◌, subst, inl, inr, ◌⊎◌, bytes_eq, eqb-true}
use Rattle.std.specs.Prelude.{◌||◌, slice_get}
use Rattle.std.specs.List.{All}
use Rattle.std.proofs.lemmas.List.Elements.{All-head}
use Rattle.std.proofs.lemmas.Slice.Eq.{bytes_eq-Decides}
use Rattle.wasm_form.specs.declared.module.Module.{Module}
use Rattle.spec_reading.specs.spec_binary.Options.{◌>>=◌}
use Rattle.spec_reading.specs.spec_binary.Indices.{function_type}
use Rattle.spec_reading.proofs.of_spec_binary.Lists.{holds_at}
use Rattle.spec_linking.specs.spec_runtime.Names.{HostNames}
use Rattle.spec_linking.specs.declared.fault.Kind.{Kind}
use Rattle.spec_linking.specs.Records.{DylinkRecord}
use Rattle.spec_linking.specs.Sets.{Member, ClosedSet}
use Rattle.spec_linking.specs.Gathering.{IsNumbered, names_of, number_among}
use Rattle.spec_linking.specs.Orders.{is_among, needs, needed_of, scope}
use Rattle.spec_linking.specs.Plans.{LinkOptions}
use Rattle.spec_linking.specs.Definitions.{Symbol, FunctionSymbol, DataSymbol, symbol_of, Definition, LoaderFunction, HeapBase, HeapEnd, MemberFunction, MemberData, HostFunction, WeakSymbol, Undefined, or_defined, where_so, loader_names, named_in, defined_by, member_definition, searched, found}
use Rattle.spec_linking.specs.LinkedSets.{LinkedSet, is_host_for, weak_for, definition}
use Rattle.spec_linking.specs.Links.{type_in}
use Rattle.dyl_gen.specs.Generated as made
use Rattle.dyl_gen.specs.Generated.{file_name, function_name, value_name, one_number, next}
use Rattle.dyl_gen.proofs.Records.{next_below}
use Rattle.dyl_gen.proofs.Members.{IsContent, of_member, of_further, OfSet, IsOfSet, IsMemberOf, at_file, IsThere, named_there}
use Rattle.dyl_gen.proofs.Symbols.{function_number, member_value, member_function, member_type, further_value, further_function}
use Rattle.dyl_gen.proofs.Scopes.{first_in_scope}

-- ---- the first definition that is found

or_found : (a b : Definition) → (a ≡ Undefined → ⊥) → or_defined a b ≡ a
or_found (LoaderFunction call) b some = refl
or_found HeapBase b some = refl
or_found HeapEnd b some = refl
or_found (MemberFunction k g) b some = refl
or_found (MemberData k place) b some = refl
or_found HostFunction b some = refl
or_found WeakSymbol b some = refl
or_found Undefined b some = absurd (some refl)

-- Each of some members defines a name as such, or not at all, and one among them does.
module _ (P : Definition → Type 0) (some : P Undefined → ⊥) (S : ClosedSet) (name : List ℕ) (each : (i : ℕ) → P (member_definition S i name) ⊎ (member_definition S i name ≡ Undefined)) (j : ℕ) (there : P (member_definition S j name)) where
  or_such : (a b : Definition) → P a → P (or_defined a b)
  or_such a b p = subst P (sym (or_found a b (λ e. some (subst P e p)))) p

  searched_such : (ms : List ℕ) → is_among j ms ≡ true → P (searched S ms name)
  searched_such [] e = absurd cc
  searched_such (m ∷ ms) e = by (each m) (searched_such ms)
    where
      later : (b : Bool) → nat_eq m j ≡ b → member_definition S m name ≡ Undefined → (is_among j ms ≡ true → P (searched S ms name)) → P (searched S ms name)
      later true same none rest = absurd (some (subst P (ap (λ i. member_definition S i name) (sym (eqb-true m j same)) ∙ none) there))
      later false differs none rest = rest (ap (λ b. b || is_among j ms) (sym differs) ∙ e)

      by : P (member_definition S m name) ⊎ (member_definition S m name ≡ Undefined) → (is_among j ms ≡ true → P (searched S ms name)) → P (or_defined (member_definition S m name) (searched S ms name))
      by (inl p) rest = or_such (member_definition S m name) (searched S ms name) p
      by (inr none) rest = subst (λ d. P (or_defined d (searched S ms name))) (sym none) (later (nat_eq m j) refl none rest)

  pub defined_such : (L : LinkedSet) → L.set ≡ S → (m : ℕ) (of_kind : Kind) → named_in loader_names name ≡ Undefined → is_among j (scope S m) ≡ true → P (definition L m of_kind name)
  defined_such L e m of_kind none among =
      let here : found S m name ≡ searched S (scope S m) name = ap (λ d. or_defined d (searched S (scope S m) name)) none in
      let whole : P (found S m name) = subst P (sym here) (searched_such (scope S m) among) in
      let rest = or_defined (where_so (is_host_for L.names of_kind name) HostFunction) (where_so (weak_for L m name) WeakSymbol) in
      subst (λ T. P (or_defined (found T m name) rest)) (sym e) (or_such (found S m name) rest whole)

-- ---- values and functions of members

abbrev pub IsValue : Definition → Type 0
IsValue d = (m : ℕ) × (d ≡ MemberData m 0)

abbrev pub IsFunction : LinkedSet → Definition → Type 0
IsFunction L d = (m : ℕ) × (g : ℕ) × (d ≡ MemberFunction m g) × (type_in L m g ≡ Some one_number)

no_value : IsValue Undefined → ⊥
no_value is = (let e = is.1 in absurd cc)

no_function : (L : LinkedSet) → IsFunction L Undefined → ⊥
no_function L is = (let e = is.2 in absurd cc)

module _ (n : ℕ) (range : n ≤ 255) (S : ClosedSet) (is : IsOfSet n S) (link : LinkOptions) (names : HostNames) where
  abbrev pub L : LinkedSet
  L = record { set = S; options = link; names = names }

  defined_at : (i : ℕ) (name : List ℕ) (m : Member) → slice_get S.members i ≡ Some m → member_definition S i name ≡ defined_by i (symbol_of m.wasm name)
  defined_at i name m e = ap (λ (o : Option Member). defined_by i (o >>= λ x. symbol_of x.wasm name)) e

  content_at : (i : ℕ) (m : Member) → slice_get S.members i ≡ Some m → IsContent n m.name m.wasm m.dylink
  content_at i m e = (holds_at (OfSet n) S.members i m is.each e).content

  -- each member defines a name as such, or not at all
  module _ (P : Definition → Type 0) (name : List ℕ) where
    abbrev Either : Definition → Type 0
    Either d = P d ⊎ (d ≡ Undefined)

    each_so : ((i : ℕ) (m : Member) → slice_get S.members i ≡ Some m → Either (defined_by i (symbol_of m.wasm name))) → (i : ℕ) → Either (member_definition S i name)
    each_so so i = by (slice_get S.members i) refl
      where
        by : (o : Option Member) → slice_get S.members i ≡ o → Either (member_definition S i name)
        by None e = inr (ap (λ (o : Option Member). defined_by i (o >>= λ x. symbol_of x.wasm name)) e)
        by (Some m) e = subst Either (sym (defined_at i name m e)) (so i m e)

  value_so : (y i : ℕ) (m : Member) → slice_get S.members i ≡ Some m → IsValue (defined_by i (symbol_of m.wasm (value_name y))) ⊎ (defined_by i (symbol_of m.wasm (value_name y)) ≡ Undefined)
  value_so y i m e = by (content_at i m e)
    where
      if_so : (b : Bool) → IsValue (defined_by i (cond b (Some (DataSymbol 0)) None)) ⊎ (defined_by i (cond b (Some (DataSymbol 0)) None) ≡ Undefined)
      if_so true = inl (i, refl)
      if_so false = inr refl

      by : IsContent n m.name m.wasm m.dylink → IsValue (defined_by i (symbol_of m.wasm (value_name y))) ⊎ (defined_by i (symbol_of m.wasm (value_name y)) ≡ Undefined)
      by (of_member k lt at note w d) =
          subst (λ (o : Option Symbol). IsValue (defined_by i o) ⊎ (defined_by i o ≡ Undefined)) (sym (ap (λ (x : Module). symbol_of x (value_name y)) w ∙ member_value n k y note)) (if_so (bytes_eq (value_name y) (value_name k)))
      by (of_further at note w d) = inr (ap (λ (x : Module). defined_by i (symbol_of x (value_name y))) w ∙ ap (defined_by i) (further_value y note))

  type_at : (i k : ℕ) (m : Member) (note : List ℕ) → slice_get S.members i ≡ Some m → m.wasm ≡ made.member n k note → type_in L i (function_number k) ≡ Some one_number
  type_at i k m note e w =
      ap (λ (o : Option Member). (o >>= λ x. Some x.wasm) >>= λ wasm. function_type wasm (function_number k)) e
      ∙ ap (λ (x : Module). function_type x (function_number k)) w ∙ member_type n k note

  function_so : (y i : ℕ) (m : Member) → slice_get S.members i ≡ Some m → IsFunction L (defined_by i (symbol_of m.wasm (function_name y))) ⊎ (defined_by i (symbol_of m.wasm (function_name y)) ≡ Undefined)
  function_so y i m e = by (content_at i m e)
    where
      if_so : (k : ℕ) (note : List ℕ) → m.wasm ≡ made.member n k note → (b : Bool) → IsFunction L (defined_by i (cond b (Some (FunctionSymbol (function_number k))) None)) ⊎ (defined_by i (cond b (Some (FunctionSymbol (function_number k))) None) ≡ Undefined)
      if_so k note w true = inl (i, function_number k, refl, type_at i k m note e w)
      if_so k note w false = inr refl

      by : IsContent n m.name m.wasm m.dylink → IsFunction L (defined_by i (symbol_of m.wasm (function_name y))) ⊎ (defined_by i (symbol_of m.wasm (function_name y)) ≡ Undefined)
      by (of_member k lt at note w d) =
          subst (λ (o : Option Symbol). IsFunction L (defined_by i o) ⊎ (defined_by i o ≡ Undefined)) (sym (ap (λ (x : Module). symbol_of x (function_name y)) w ∙ member_function n k y note)) (if_so k note w (bytes_eq (function_name y) (function_name k)))
      by (of_further at note w d) = inr (ap (λ (x : Module). defined_by i (symbol_of x (function_name y))) w ∙ ap (defined_by i) (further_function y note))

  -- ---- what the next member defines

  value_there : (y j : ℕ) (m : Member) → slice_get S.members j ≡ Some m → IsMemberOf n y m.wasm m.dylink → IsValue (member_definition S j (value_name y))
  value_there y j m e of =
      let same = (bytes_eq-Decides (value_name y) (value_name y)).1 refl in
      let symbol : symbol_of m.wasm (value_name y) ≡ Some (DataSymbol 0) =
      ap (λ (x : Module). symbol_of x (value_name y)) of.is ∙ member_value n y y of.note ∙ ap (λ b. cond b (Some (DataSymbol 0)) None) same in
      (j, defined_at j (value_name y) m e ∙ ap (defined_by j) symbol)

  function_there : (y j : ℕ) (m : Member) → slice_get S.members j ≡ Some m → IsMemberOf n y m.wasm m.dylink → IsFunction L (member_definition S j (function_name y))
  function_there y j m e of =
      let same = (bytes_eq-Decides (function_name y) (function_name y)).1 refl in
      let symbol : symbol_of m.wasm (function_name y) ≡ Some (FunctionSymbol (function_number y)) =
      ap (λ (x : Module). symbol_of x (function_name y)) of.is ∙ member_function n y y of.note ∙ ap (λ b. cond b (Some (FunctionSymbol (function_number y))) None) same in
      (j, function_number y, defined_at j (function_name y) m e ∙ ap (defined_by j) symbol, type_at j y m of.note e of.is)

  -- a member of the set by its number there, and by that of its file
  module _ (m k : ℕ) (member : Member) (at : slice_get S.members m ≡ Some member) (lt : k < n) (of : IsMemberOf n k member.wasm member.dylink) where
    record HasNext : Type 0 where
      number : ℕ
      there : IsThere S number (file_name (next n k))
      among : is_among number (scope S m) ≡ true

    has_next : HasNext
    has_next =
        let file = file_name (next n k) in
        let others = made.main_alone k (made.further_name ∷ []) in
        let needed : member.dylink.needed ≡ file ∷ others = ap (λ (d : DylinkRecord). d.needed) of.says in
        let numbered = holds_at (IsNumbered (names_of S.members)) S.members m member is.shape.numbered at in
        let number = number_among (names_of S.members) in
        let all : All (λ name. number name < length (names_of S.members)) (file ∷ others) = subst (All (λ name. number name < length (names_of S.members))) needed numbered.there in
        let there = named_there S file (All-head (λ name. number name < length (names_of S.members)) file others all) in
        let numbers : needs S m ≡ number file ∷ map number others = ap needed_of at ∙ numbered.numbers ∙ ap (map number) needed in
        record { number = number file; there = there; among = first_in_scope S m (number file) (map number others) is.shape.some numbers }

    next_of : (has : HasNext) → IsMemberOf n (next n k) has.there.member.wasm has.there.member.dylink
    next_of has = at_file range (next_below n k lt) has.there.named (content_at has.number has.there.member has.there.at)

    pub next_value : (of_kind : Kind) → IsValue (definition L m of_kind (value_name (next n k)))
    next_value of_kind =
        let has = has_next in
        let name = value_name (next n k) in
        defined_such IsValue no_value S name (each_so IsValue name (value_so (next n k))) has.number
        (value_there (next n k) has.number has.there.member has.there.at (next_of has)) L refl m of_kind refl has.among

    pub next_function : (of_kind : Kind) → IsFunction L (definition L m of_kind (function_name (next n k)))
    next_function of_kind =
        let has = has_next in
        let name = function_name (next n k) in
        defined_such (IsFunction L) (no_function L) S name (each_so (IsFunction L) name (function_so (next n k))) has.number
        (function_there (next n k) has.number has.there.member has.there.at (next_of has)) L refl m of_kind refl has.among
