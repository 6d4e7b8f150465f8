-- What is told of members is what the names of their set are made of.
use Rattle.std.proofs.Common.{◌≡◌, List, [], ◌∷◌, map, refl, ap, sym, ◌∙◌}
use Rattle.std.specs.Prelude.{Result, Ok, Err, IfOk}
use Rattle.std.proofs.lemmas.List.Elements.{All-weaker}
use Rattle.spec_loading.specs.spec_linking.Sets as sets
use Rattle.spec_loading.specs.spec_linking.Gathering.{IsMember, IsSet}
use Rattle.dyl_slots.specs.dyl_search.declared.set.Member.{Member}
use Rattle.dyl_slots.specs.dyl_search.Gathers.{member_of}
use Rattle.dyl_slots.specs.dyl_scope.Scopes.{Scopes, AreOf, Told, told_of, IsValid, IsTold}

mapped : (xs : List Member) → map (λ m. told_of (member_of m)) xs ≡ map told_of (map member_of xs)
mapped [] = refl
mapped (x ∷ xs) = ap (λ r. told_of (member_of x) ∷ r) (mapped xs)

pub names_told : {E : Type 0} (r : Result Scopes E) (told : List Told) (members : List Member) → told ≡ map (λ m. told_of (member_of m)) members
    → IfOk r (λ symbols. (S : sets.ClosedSet) → IsTold S told → AreOf S symbols) → IfOk r (λ symbols. (S : sets.ClosedSet) → IsSet S → S.members ≡ map member_of members → AreOf S symbols)
names_told (Ok symbols) told members is h = λ S set e.
    h S (record { members = is ∙ mapped members ∙ ap (map told_of) (sym e); valid = All-weaker IsMember IsValid (λ (m : sets.Member) (is : IsMember m). is.read.valid) S.members set.members; startup = set.startup; some = set.some })
names_told (Err x) told members is h = h
