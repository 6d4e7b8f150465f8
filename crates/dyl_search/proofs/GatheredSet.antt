-- The set that is gathered has its shape.
use Rattle.std.proofs.Common.{◌≡◌, ◌≤◌, length, Option, sym, ap, subst, arith}
use Rattle.std.proofs.lemmas.List.{length-map}
use Rattle.dyl_outside.specs.FileMap.{FileMap}
use Rattle.spec_linking.specs.Wanted.{Wanted}
use Rattle.spec_linking.specs.Gathering as gathering
use Rattle.dyl_search.specs.declared.set.SetOptions.{SetOptions}
use Rattle.dyl_search.specs.declared.set.ClosedSet.{ClosedSet}
use Rattle.dyl_search.specs.declared.progress.Progress.{Progress}
use Rattle.dyl_search.specs.Gathers.{options_of, set_of, member_of, members_of, known_in, Stands}
use Rattle.spec_linking.proofs.ReachedSets.{is_set}

pub has_shape : (told : Option FileMap) (o : SetOptions) (g : Progress) (S : ClosedSet) → Stands told o g → length g.names ≤ length g.members.items → set_of S ≡ gathering.set_of (members_of g) → gathering.IsSet (set_of S)
has_shape told o g S s all is =
    subst gathering.IsSet (sym is) (is_set (known_in told) (options_of o) (members_of g) s.reached (omega (arith, all, ap (length {A = Wanted}) s.known, length-map g.members.items member_of)))
