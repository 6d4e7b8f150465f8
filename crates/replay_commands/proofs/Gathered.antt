-- A set is gathered too from files that give the same at each path which is tried.
use Rattle.std.proofs.Common.{◌≡◌, ◌<◌, ℕ, List, [], ◌∷◌, length, Option, Some, None, Ok, refl, sym, ap, ◌∙◌}
use Rattle.spec_loading.specs.spec_linking.Sets.{Member, ClosedSet, SetOptions, Files, most_members}
use Rattle.spec_loading.specs.spec_linking.Paths.{file_or, first_file, IsTried}
use Rattle.spec_loading.specs.spec_linking.Wanted.{Wanted}
use Rattle.spec_loading.specs.spec_linking.Gathering.{paths_for, next_wanted, first_in, Seeks, IsNext, Reaches, start, next, Gathered, gathered, all_tried, Gathers, gathers, IsGathered, Tries}

-- the first file of some paths, where each path that is tried is the same
first_same : (files others : Files) (paths : List (List ℕ)) → ((path : List ℕ) → IsTried files paths path → others path ≡ files path) → first_file others paths ≡ first_file files paths
first_same files others [] same = refl
first_same files others (path ∷ paths) same = by (files path) refl (λ none. first_same files others paths (later none))
  where
    here : others path ≡ files path
    here = same path (record { before = []; after = paths; among = refl; absent = refl })

    -- a path behind one at which there is no file
    later : files path ≡ None → (other : List ℕ) → IsTried files paths other → others other ≡ files other
    later none other tried = same other (record {
      before = path ∷ tried.before;
      after = tried.after;
      among = ap (λ all. path ∷ all) tried.among;
      absent = ap (λ found. file_or path found (first_file files tried.before)) none ∙ tried.absent;
    })

    by : (found : Option (List ℕ)) → files path ≡ found → (files path ≡ None → first_file others paths ≡ first_file files paths) → first_file others (path ∷ paths) ≡ first_file files (path ∷ paths)
    by (Some bytes) e rest =
        ap (λ found. file_or path found (first_file others paths)) (here ∙ e) ∙ sym (ap (λ found. file_or path found (first_file files paths)) e)
    by None e rest =
        ap (λ found. file_or path found (first_file others paths)) (here ∙ e) ∙ rest e ∙ sym (ap (λ found. file_or path found (first_file files paths)) e)

module _ (files others : Files) (o : SetOptions) (same : (path : List ℕ) → Tries files o path → others path ≡ files path) where
  still_first : (members : List Member) (w : Wanted) → Reaches (first_in files) o members → next_wanted o members ≡ Some w → length members < most_members
      → first_file others (paths_for o members w) ≡ first_file files (paths_for o members w)
  still_first members w reached asked few =
      first_same files others (paths_for o members w) (λ path tried. same path (record { members = members; reached = reached; asked = w; next = asked; few = few; tried = tried }))

  still_sought : (members : List Member) (w : Wanted) (found : Option (List ℕ × List ℕ)) → Reaches (first_in files) o members → Seeks (first_in files) o members w found → Seeks (first_in others) o members w found
  still_sought members w found reached s = record { next = s.next; few = s.few; first = still_first members w reached s.next s.few ∙ s.first }

  still_next : (members : List Member) (m : Member) → Reaches (first_in files) o members → IsNext (first_in files) o members m → IsNext (first_in others) o members m
  still_next members m reached is = record {
    asked = is.asked;
    bytes = is.bytes;
    fetched = record { found = still_sought members is.asked (Some (m.path, is.bytes)) reached is.fetched.found; few_bytes = is.fetched.few_bytes };
    name = is.name;
    read = is.read;
    needed = is.needed;
  }

  still_reached : {members : List Member} → Reaches (first_in files) o members → Reaches (first_in others) o members
  still_reached start = start
  still_reached (next {members} {m} reached is) = next (still_reached reached) (still_next members m reached is)

  still_all : {members : List Member} {set : ClosedSet} → Gathered (first_in files) o members (Ok set) → Gathered (first_in others) o members (Ok set)
  still_all (gathered reached all) = gathered (still_reached reached) all

  pub still_gathered : (set : ClosedSet) → IsGathered files o (Ok set) → IsGathered others o (Ok set)
  still_gathered set is = from is.gathers
    where
      from : {tried : List (List ℕ)} → Gathers files o tried (Ok set) → IsGathered others o (Ok set)
      from (gathers {members} g) = record { tried = all_tried others o members (Ok set); gathers = gathers (still_all g) }
