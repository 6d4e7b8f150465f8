-- What the file of the next name comes to.
use Rattle.std.proofs.Common.{◌≡◌, ℕ, ◌-◌, ◌<◌, List, [], ◌∷◌, ◌++◌, length, slice_get, Option, Some, None, Result, Ok, Err, IfOk, IfErr, OnOk, sym, ap, ◌∙◌, subst, arith}
use Rattle.std.specs.Option.{ForSome}
use Rattle.std.specs.FinMap.{get}
use Rattle.std.proofs.Common.{get_or}
use Rattle.std.proofs.lemmas.Option.{slice_get-get_or}
use Rattle.std.proofs.lemmas.List.{length-map}
use Rattle.dyl_outside.specs.FileMap.{FileMap}
use Rattle.spec_linking.specs.Sets as sets
use Rattle.spec_linking.specs.Sets.{most_bytes, most_members}
use Rattle.spec_linking.specs.Wanted.{Wanted, wanted}
use Rattle.spec_linking.specs.Paths.{first_file, tried_of}
use Rattle.spec_linking.specs.Gathering as gathering
use Rattle.spec_linking.specs.Gathering.{Lookup, first_in, Reaches, start, next, Seeks, Fails, failed, IsGathered, gathers, paths_for, tried_for, tried_next, tried_from}
use Rattle.spec_linking.specs.declared.fault.SetFault.{SetFault}
use Rattle.spec_linking.specs.declared.fault.SetFault.TheVariants.{Missing, ReadFault, Decode, Record, Check, ModuleCount, SetSize, Memory}
use Rattle.dyl_search.specs.declared.set.SetOptions.{SetOptions}
use Rattle.dyl_search.specs.declared.find.Found.{Found}
use Rattle.dyl_search.specs.declared.progress.Progress.{Progress}
use Rattle.dyl_search.specs.Absents.{RisesAt, CountsTried, BreaksOff, TriedFor, CountsFor}
use Rattle.dyl_search.specs.Found.{Finds, FindsIn, IsSearched}
use Rattle.dyl_search.specs.Gathers.{options_of, member_of, members_of, known_in, Stands, Counted, CountsNext, IsNextFile, Stops, OrMissing}
use Rattle.dyl_search.proofs.Absents.{rises_append, rises_all, nothing_left, breaks_off}
use Rattle.dyl_search.proofs.Finding.{at_option}

-- what is known of files, and more
pub reaches_more : (First Second : Lookup) (o : sets.SetOptions) → ((paths : List (List ℕ)) (found : Option (List ℕ × List ℕ)) → First paths found → Second paths found) → {members : List sets.Member}
    → Reaches First o members → Reaches Second o members
reaches_more First Second o f start = start
reaches_more First Second o f (next r n) = next (reaches_more First Second o f r) (record {
  asked = n.asked;
  bytes = n.bytes;
  fetched = record { found = record { next = n.fetched.found.next; few = n.fetched.found.few; first = f _ _ n.fetched.found.first }; few_bytes = n.fetched.few_bytes };
  name = n.name;
  read = n.read;
  needed = n.needed;
})

pub told_reaches : (told : Option FileMap) (m : FileMap) (o : sets.SetOptions) (members : List sets.Member) → told ≡ Some m → Reaches (known_in told) o members → Reaches (first_in (get m)) o members
told_reaches told m o members e r = reaches_more (known_in told) (first_in (get m)) o (λ paths found h. h m e) r

-- an index within a list has an element
pub nothing_there : (ns : List Wanted) (i : ℕ) → i < length ns → slice_get ns i ≡ None → ⊥
nothing_there ns i lt e = let d : Wanted = record { name = []; needed_by = 0 } in let at : slice_get ns i ≡ Some (get_or ns i d) = slice_get-get_or ns i d lt in cc

module _ (told : Option FileMap) (o : SetOptions) (g : Progress) (s : Stands told o g) where
  as_many : length (members_of g) ≡ length g.members.items
  as_many = length-map g.members.items member_of

  -- gathering ends after these members
  ended : (m : FileMap) (members : List sets.Member) (why : SetFault) → Reaches (first_in (get m)) (options_of o) members → Fails (first_in (get m)) (options_of o) members why
      → IsGathered (get m) (options_of o) (Err why)
  ended m members why r f = record { tried = _; gathers = gathers (failed r f) }

  pub too_many : length g.members.items ≡ most_members → length g.members.items < length g.names → ForSome told (λ m. Stops (get m) (options_of o) ModuleCount)
  too_many full more m e =
      ended m (members_of g) ModuleCount (told_reaches told m (options_of o) (members_of g) e s.reached)
      (gathering.too_many (as_many ∙ full) (omega (arith, ap (length {A = Wanted}) s.known, full)))

  -- and nothing more was tried
  pub too_many_counts : (begun now : ℕ) → length g.members.items ≡ most_members → length g.members.items < length g.names → Counted told o g begun now → CountsFor told (options_of o) (Err ModuleCount) begun now
  too_many_counts begun now full more counted m e = record {
    tried = _;
    are = gathers (failed (told_reaches told m (options_of o) (members_of g) e s.reached) (gathering.too_many (as_many ∙ full) (omega (arith, ap (length {A = Wanted}) s.known, full))));
    absents = rises_all (get m) (options_of o) (members_of g) begun now (counted m e);
  }

  module _ (w : Wanted) (at : slice_get g.names (length g.members.items) ≡ Some w) (few : length g.members.items < most_members) where
    abbrev paths : List (List ℕ)
    paths = paths_for (options_of o) (members_of g) w

    asked : slice_get (wanted (options_of o) (members_of g)) (length (members_of g)) ≡ Some w
    asked = ap (slice_get (wanted (options_of o) (members_of g))) as_many ∙ ap (λ ns. slice_get ns (length g.members.items)) (sym s.known) ∙ at

    seeks : (m : FileMap) (found : Option (List ℕ × List ℕ)) → first_file (get m) paths ≡ found → Seeks (first_in (get m)) (options_of o) (members_of g) w found
    seeks m found first = record { next = asked; few = omega (arith, as_many); first = first }

    stops_in : (m : FileMap) (fault : SetFault) → told ≡ Some m → FindsIn (get m) paths (most_bytes - g.total) (Err fault) → Stops (get m) (options_of o) fault
    stops_in m SetSize e h = ended m (members_of g) SetSize (told_reaches told m (options_of o) (members_of g) e s.reached)
        (gathering.too_long (seeks m (Some (h.path, h.bytes)) h.first) (omega (arith, h.long, s.total, s.few_bytes)))
    stops_in m (ReadFault path) e h = record {
      members = members_of g;
      reached = told_reaches told m (options_of o) (members_of g) e s.reached;
      asked = w;
      next = asked;
      few = omega (arith, as_many);
      tried = h;
    }
    stops_in m Memory e h = tt
    stops_in m (Missing name) e h = absurd h
    stops_in m (Decode n fault) e h = absurd h
    stops_in m (Record n fault) e h = absurd h
    stops_in m (Check n fault) e h = absurd h
    stops_in m ModuleCount e h = absurd h

    pub stops_at : {before now : ℕ} (fault : SetFault) → Finds told paths (most_bytes - g.total) (Err fault) before now → ForSome told (λ m. Stops (get m) (options_of o) fault)
    stops_at fault h m e = stops_in m fault e (h.files m e)

    pub missing_at : {before now : ℕ} → Finds told paths (most_bytes - g.total) (Ok None) before now → ForSome told (λ m. Stops (get m) (options_of o) (Missing w.name))
    missing_at h m e = ended m (members_of g) (Missing w.name) (told_reaches told m (options_of o) (members_of g) e s.reached) (gathering.missing (seeks m None (h.files m e)))

    found_next : {before now : ℕ} (f : Found) → Finds told paths (most_bytes - g.total) (Ok (Some f)) before now → IsNextFile told o g f
    found_next f h = record { asked = w; next = at; few = few; first = h.files; few_bytes = omega (arith, h.finding, s.few_bytes) }

    -- a found file, or one that is missing
    pub next_file : {before now : ℕ} (found : Option Found) (r : Result Found SetFault) → Finds told paths (most_bytes - g.total) (Ok found) before now → OrMissing w.name found r → IfOk r (IsNextFile told o g)
    next_file found (Ok f) h is = found_next f (at_option is h)
    next_file found (Err fault) h is = tt

    pub no_file : {before now : ℕ} (found : Option Found) (r : Result Found SetFault) → Finds told paths (most_bytes - g.total) (Ok found) before now → OrMissing w.name found r
        → IfErr r (λ fault. ForSome told (λ m. Stops (get m) (options_of o) fault))
    no_file found (Ok f) h is = tt
    no_file found (Err (Missing name)) h is = λ m e.
        let Q : List ℕ → Type 0 = λ n. Stops (get m) (options_of o) (Missing n) in
        subst Q (sym is.1) (missing_at (at_option is.0 h) m e)
    no_file found (Err Memory) h is = λ m e. tt
    no_file found (Err (ReadFault at)) h is = absurd is
    no_file found (Err (Decode n fault)) h is = absurd is
    no_file found (Err (Record n fault)) h is = absurd is
    no_file found (Err (Check n fault)) h is = absurd is
    no_file found (Err ModuleCount) h is = absurd is
    no_file found (Err SetSize) h is = absurd is

    -- ---- how the Absent answers are counted

    tries_next : (m : FileMap) → tried_next (get m) (options_of o) (members_of g) ≡ tried_of (get m) paths
    tries_next m = ap (tried_for (get m) (options_of o) (members_of g)) asked

    -- of all that are tried for the name
    next_counts : (m : FileMap) (tried : List (List ℕ)) (before now : ℕ) → tried ≡ tried_of (get m) paths → RisesAt (get m) tried before now → RisesAt (get m) (tried_next (get m) (options_of o) (members_of g)) before now
    next_counts m tried before now all h = subst (λ ps. RisesAt (get m) ps before now) (all ∙ sym (tries_next m)) h

    pub found_counts : (before now : ℕ) (found : Option Found) (r : Result Found SetFault) → Finds told paths (most_bytes - g.total) (Ok found) before now → OrMissing w.name found r
        → OnOk r (CountsNext told o g before now)
    found_counts before now found (Ok f) h is = λ m e. (let c = h.absents m e in next_counts m c.tried before now c.are c.absents)
    found_counts before now found (Err fault) h is = tt

    module _ (begun before now : ℕ) (counted : Counted told o g begun before) where
      whole : (m : FileMap) → told ≡ Some m → (tried : List (List ℕ)) → tried ≡ tried_of (get m) paths → RisesAt (get m) tried before now
          → RisesAt (get m) (tried_from (get m) (options_of o) [] (members_of g) ++ tried_next (get m) (options_of o) (members_of g)) begun now
      whole m e tried all h =
          rises_append (get m) (tried_from (get m) (options_of o) [] (members_of g)) (tried_next (get m) (options_of o) (members_of g)) begun before now (counted m e) (next_counts m tried before now all h)

      -- up to where the search broke off
      part : (m : FileMap) → told ≡ Some m → (tried left : List (List ℕ)) → tried_of (get m) paths ≡ tried ++ left
          → BreaksOff (get m) (options_of o) (tried_from (get m) (options_of o) [] (members_of g) ++ tried) left
      part m e tried left parts = breaks_off (get m) (options_of o) (members_of g) tried left (told_reaches told m (options_of o) (members_of g) e s.reached) (tries_next m ∙ parts)

      broken_in : (m : FileMap) (fault : SetFault) → told ≡ Some m → FindsIn (get m) paths (most_bytes - g.total) (Err fault) → CountsTried (get m) (IsSearched (get m) paths (Err fault)) before now
          → CountsTried (get m) (TriedFor (get m) (options_of o) (Err fault)) begun now
      broken_in m SetSize e h c = record {
        tried = _;
        are = gathers (failed (told_reaches told m (options_of o) (members_of g) e s.reached) (gathering.too_long (seeks m (Some (h.path, h.bytes)) h.first) (omega (arith, h.long, s.total, s.few_bytes))));
        absents = whole m e c.tried c.are c.absents;
      }
      broken_in m (ReadFault path) e h c = record {
        tried = _;
        are = (c.are.0, part m e c.tried (path ∷ c.are.0) c.are.1);
        absents = rises_append (get m) (tried_from (get m) (options_of o) [] (members_of g)) c.tried begun before now (counted m e) c.absents;
      }
      broken_in m Memory e h c = record {
        tried = _;
        are = (c.are.0, part m e c.tried c.are.0 c.are.1);
        absents = rises_append (get m) (tried_from (get m) (options_of o) [] (members_of g)) c.tried begun before now (counted m e) c.absents;
      }
      broken_in m (Missing name) e h c = absurd h
      broken_in m (Decode n fault) e h c = absurd h
      broken_in m (Record n fault) e h c = absurd h
      broken_in m (Check n fault) e h c = absurd h
      broken_in m ModuleCount e h c = absurd h

      pub broken_at : (fault : SetFault) → Finds told paths (most_bytes - g.total) (Err fault) before now → CountsFor told (options_of o) (Err fault) begun now
      broken_at fault h m e = broken_in m fault e (h.files m e) (h.absents m e)

      missing_counts : Finds told paths (most_bytes - g.total) (Ok None) before now → CountsFor told (options_of o) (Err (Missing w.name)) begun now
      missing_counts h m e =
          let c = h.absents m e in
          record {
            tried = _;
            are = gathers (failed (told_reaches told m (options_of o) (members_of g) e s.reached) (gathering.missing (seeks m None (h.files m e))));
            absents = whole m e c.tried c.are c.absents;
          }

      -- a file that is missing, and no memory to tell of it
      pub no_file_counts : (found : Option Found) (r : Result Found SetFault) → Finds told paths (most_bytes - g.total) (Ok found) before now → OrMissing w.name found r
          → IfErr r (λ fault. CountsFor told (options_of o) (Err fault) begun now)
      no_file_counts found (Ok f) h is = tt
      no_file_counts found (Err (Missing name)) h is =
          let P : List ℕ → Type 0 = λ n. CountsFor told (options_of o) (Err (Missing n)) begun now in
          subst P (sym is.1) (missing_counts (at_option is.0 h))
      no_file_counts found (Err Memory) h is = λ m e.
          let c = h.absents m e in
          record {
            tried = _;
            are = ([], nothing_left (get m) (options_of o) (members_of g) (told_reaches told m (options_of o) (members_of g) e s.reached));
            absents = whole m e c.tried (searched_all m found c.tried c.are) c.absents;
          }
        where
          searched_all : (m : FileMap) (found : Option Found) (tried : List (List ℕ)) → IsSearched (get m) paths (Ok found) tried → tried ≡ tried_of (get m) paths
          searched_all m found tried h = h
      no_file_counts found (Err (ReadFault at)) h is = absurd is
      no_file_counts found (Err (Decode n fault)) h is = absurd is
      no_file_counts found (Err (Record n fault)) h is = absurd is
      no_file_counts found (Err (Check n fault)) h is = absurd is
      no_file_counts found (Err ModuleCount) h is = absurd is
      no_file_counts found (Err SetSize) h is = absurd is
