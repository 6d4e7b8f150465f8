-- What is kept of what is told of a set is that of the set.
use Rattle.std.proofs.Common.{◌≡◌, ℕ, zero, suc, ◌<◌, List, [], ◌∷◌, length, map, refl, ap, sym, ◌∙◌, arith}
use Rattle.std.specs.Prelude.{slice_get, All}
use Rattle.std.specs.List.{range_with_len}
use Rattle.std.specs.Map.{lookup}
use Rattle.std.specs.Str.{bytes_eq}
use Rattle.std.proofs.lemmas.Option.{unwrap_or-slice_get}
use Rattle.std.proofs.lemmas.List.{length-map}
use Rattle.std.proofs.lemmas.List.Elements.{All-head, All-tail}
use Rattle.std.proofs.lemmas.List.FromFn.{get_or-map-range_with_len}
use Rattle.spec_linking.specs.spec_binary.Options.{◌>>=◌}
use Rattle.spec_linking.proofs.of_spec_validation.Parts.{parts_fit}
use Rattle.spec_linking.specs.Sets.{Member, ClosedSet}
use Rattle.spec_linking.specs.Orders.{with_numbers}
use Rattle.spec_linking.specs.Orders as orders
use Rattle.spec_linking.specs.Definitions as defined
use Rattle.dyl_scope.specs.declared.maker.Told as declared
use Rattle.dyl_scope.specs.Names.{Defined, with_all}
use Rattle.dyl_scope.specs.Orders.{needed_in, closure_by, post_order_by}
use Rattle.dyl_scope.specs.Scopes.{Told, told_of, told_value, IsValid, IsTold, AreOf, list_at}
use Rattle.dyl_scope.specs.Kept.{names_by, kept_of}
use Rattle.dyl_scope.proofs.Lookups.{names_exact}
use Rattle.dyl_scope.proofs.Reached.{reached_breadth, walk_same}

abbrev names_told : Told → Defined
names_told t = with_all [] t.definitions

abbrev TellOf : List declared.Told → List Member → Type 0
TellOf ts members = map told_value ts ≡ map told_of members

first_told : (t : declared.Told) (ts : List declared.Told) (x : Member) (xs : List Member) → TellOf (t ∷ ts) (x ∷ xs) → told_value t ≡ told_of x
first_told t ts x xs same = cc

later_told : (t : declared.Told) (ts : List declared.Told) (x : Member) (xs : List Member) → TellOf (t ∷ ts) (x ∷ xs) → TellOf ts xs
later_told t ts x xs same = cc

names_at : (ts : List declared.Told) (members : List Member) → TellOf ts members → All IsValid members → (m : ℕ) (name : List ℕ)
    → (slice_get (map names_by ts) m >>= lookup (bytes_eq name)) ≡ (slice_get members m >>= λ member. defined.symbol_of member.wasm name)
names_at [] [] same valid m name = refl
names_at [] (x ∷ xs) same valid m name = absurd cc
names_at (t ∷ ts) [] same valid m name = absurd cc
names_at (t ∷ ts) (x ∷ xs) same valid zero name =
    let one = first_told t ts x xs same in
    ap (λ u. lookup (bytes_eq name) (names_told u)) one ∙ names_exact name x.wasm (parts_fit x.wasm (All-head IsValid x xs valid)).names
names_at (t ∷ ts) (x ∷ xs) same valid (suc m) name = names_at ts xs (later_told t ts x xs same) (All-tail IsValid x xs valid) m name

count_told : (ts : List declared.Told) (members : List Member) → TellOf ts members → length ts ≡ length members
count_told ts members same = sym (length-map ts told_value) ∙ ap length same ∙ length-map members told_of

needed_told : (ts : List declared.Told) (members : List Member) → TellOf ts members → (m : ℕ) → needed_in ts m ≡ with_numbers [] (orders.needed_of (slice_get members m))
needed_told [] [] same m = refl
needed_told [] (x ∷ xs) same m = absurd cc
needed_told (t ∷ ts) [] same m = absurd cc
needed_told (t ∷ ts) (x ∷ xs) same zero = ap (λ (u : Told). u.needed) (first_told t ts x xs same)
needed_told (t ∷ ts) (x ∷ xs) same (suc m) = needed_told ts xs (later_told t ts x xs same) m

list_in : (f : ℕ → List ℕ) (n m : ℕ) → m < n → list_at (map f (range_with_len 0 n)) m ≡ f m
list_in f n m inside = unwrap_or-slice_get (map f (range_with_len 0 n)) m [] ∙ get_or-map-range_with_len f 0 n m m [] inside (omega arith)

pub kept_is : (ts : List declared.Told) (S : ClosedSet) → IsTold S (map told_value ts) → AreOf S (kept_of ts)
kept_is ts S is =
    let same : map told_value ts ≡ map told_of S.members = is.members in
    let count : length ts ≡ length S.members = count_told ts S.members same in
    let needed = needed_told ts S.members same in
    record {
      names = names_at ts S.members same is.valid;
      count = length-map ts names_by ∙ count;
      closures = λ m inside.
          let within : m < length ts = omega (arith, count) in
          list_in (closure_by (needed_in ts) (length ts)) (length ts) m within
          ∙ reached_breadth S (needed_in ts) needed (length ts) 0 (m ∷ [])
          ∙ ap (λ n. orders.breadth_from S.members n 0 (m ∷ [])) count;
      orders = λ m inside.
          let within : m < length ts = omega (arith, count) in
          let none : orders.Walk = record { entered = []; left = [] } in
          list_in (post_order_by (needed_in ts) (length ts)) (length ts) m within
          ∙ ap (λ (w : orders.Walk). w.left) (walk_same S (needed_in ts) needed (length ts) m none)
          ∙ ap (λ n. (orders.walk_from S n m none).left) count;
      startup = is.startup;
      some = is.some;
    }
