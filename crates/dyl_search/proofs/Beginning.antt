-- What is gathered at the beginning and at the end.
use Rattle.std.proofs.Common.{◌≡◌, ℕ, ◌≤◌, List, [], ◌∷◌, map, length, Option, Ok, Err, refl, sym, ap, ◌∙◌, subst, arith}
use Rattle.std.specs.Option.{ForSome}
use Rattle.std.specs.FinMap.{get}
use Rattle.std.proofs.lemmas.List.{length-map}
use Rattle.dyl_outside.specs.FileMap.{FileMap}
use Rattle.spec_linking.specs.Sets as sets
use Rattle.spec_linking.specs.Sets.{main_name}
use Rattle.spec_linking.specs.Wanted.{Wanted, wanted}
use Rattle.spec_linking.specs.Gathering as gathering
use Rattle.spec_linking.specs.Gathering.{Reaches, start, gathered, IsGathered, gathers, tried_from, tried_next}
use Rattle.spec_linking.specs.declared.fault.SetFault.TheVariants.{Memory}
use Rattle.dyl_search.specs.declared.set.SetOptions.{SetOptions}
use Rattle.dyl_search.specs.declared.set.ClosedSet.{ClosedSet}
use Rattle.dyl_search.specs.declared.set.Member.{Member}
use Rattle.dyl_search.specs.declared.progress.Progress.{Progress}
use Rattle.dyl_search.specs.Absents.{RisesAt, CountsTried, TriedFor, CountsFor}
use Rattle.dyl_search.specs.Gathers.{options_of, set_of, member_of, members_of, known_in, Stands, Counted, GathersFrom}
use Rattle.dyl_search.proofs.Absents.{rises_all}
use Rattle.dyl_search.proofs.NextFile.{told_reaches}

pub begins : (told : Option FileMap) (o : SetOptions) (g : Progress) → g.members.items ≡ [] → g.names ≡ record { name = main_name o.main; needed_by = 0 } ∷ [] → g.total ≡ 0 → Stands told o g
begins told o g members names total =
    let none : members_of g ≡ [] = ap (map member_of) members in
    let P : List sets.Member → Type 0 = λ ms. Reaches (known_in told) (options_of o) ms in
    record {
      reached = subst P (sym none) start;
      known = names ∙ ap (wanted (options_of o)) (sym none);
      total = total ∙ ap gathering.total_size (sym none);
      few_bytes = omega arith;
      few = omega (arith, ap (length {A = Member}) members);
    }

pub ends : (told : Option FileMap) (o : SetOptions) (g : Progress) (S : ClosedSet) → Stands told o g → length g.names ≤ length g.members.items → set_of S ≡ gathering.set_of (members_of g)
    → ForSome told (λ m. GathersFrom (get m) (options_of o) (Ok S))
ends told o g S s all is m e =
    let P : sets.ClosedSet → Type 0 = λ T. IsGathered (get m) (options_of o) (Ok T) in
    subst P (sym is) (record { tried = _; gathers = gathers (gathered (told_reaches told m (options_of o) (members_of g) e s.reached) (omega (arith, ap (length {A = Wanted}) s.known, length-map g.members.items member_of))) })

-- ---- how the Absent answers are counted

pub counts_none : (told : Option FileMap) (o : SetOptions) (g : Progress) (now : ℕ) → g.members.items ≡ [] → Counted told o g now now
counts_none told o g now members m e =
    let none : members_of g ≡ [] = ap (map member_of) members in
    subst (λ ms. RisesAt (get m) (tried_from (get m) (options_of o) [] ms) now now) (sym none) refl

-- no memory at the beginning
pub begins_lost : (told : Option FileMap) (o : sets.SetOptions) (now : ℕ) → CountsFor told o (Err Memory) now now
begins_lost told o now m e = record { tried = []; are = (tried_next (get m) o [], record { members = []; reached = start; parts = refl }); absents = refl }

-- nor at the end
pub ends_lost : (told : Option FileMap) (o : SetOptions) (g : Progress) (before now : ℕ) → Stands told o g → Counted told o g before now → CountsFor told (options_of o) (Err Memory) before now
ends_lost told o g before now s counted m e = record {
  tried = tried_from (get m) (options_of o) [] (members_of g);
  are = (
    tried_next (get m) (options_of o) (members_of g),
    record { members = members_of g; reached = told_reaches told m (options_of o) (members_of g) e s.reached; parts = refl },
  );
  absents = counted m e;
}

pub ends_counts : (told : Option FileMap) (o : SetOptions) (g : Progress) (S : ClosedSet) (before now : ℕ) → Stands told o g → length g.names ≤ length g.members.items → set_of S ≡ gathering.set_of (members_of g)
    → Counted told o g before now → CountsFor told (options_of o) (Ok (set_of S)) before now
ends_counts told o g S before now s all is counted m e =
    let P : sets.ClosedSet → Type 0 = λ T. CountsTried (get m) (TriedFor (get m) (options_of o) (Ok T)) before now in
    subst P (sym is) (record {
      tried = _;
      are = gathers (gathered (told_reaches told m (options_of o) (members_of g) e s.reached) (omega (arith, ap (length {A = Wanted}) s.known, length-map g.members.items member_of)));
      absents = rises_all (get m) (options_of o) (members_of g) before now (counted m e);
    })
