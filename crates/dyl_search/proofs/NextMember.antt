-- One member more, or why there is none.
use Rattle.std.proofs.Common.{◌≡◌, ℕ, ◌+◌, List, [], ◌∷◌, ◌++◌, map, length, slice_get, Option, Some, Ok, Err, refl, sym, ap, ◌∙◌, subst, arith}
use Rattle.std.specs.Option.{ForSome}
use Rattle.std.specs.FinMap.{get}
use Rattle.std.proofs.lemmas.List.{length-map, length-append, map-append}
use Rattle.std.proofs.lemmas.List.Sums.{sum_by-append}
use Rattle.dyl_outside.specs.FileMap.{FileMap}
use Rattle.wasm_form.specs.declared.module.Module.{Module}
use Rattle.spec_reading.specs.spec_binary.DecodeAnswers.{DecodeAnswer}
use Rattle.spec_linking.specs.spec_validation.Faults as validation
use Rattle.spec_linking.specs.Records.{HasRecord}
use Rattle.spec_linking.specs.Sets as sets
use Rattle.spec_linking.specs.Wanted.{Wanted, wanted, with_names, with_later, number_of}
use Rattle.spec_linking.specs.Gathering.{Lookup, first_in, Reaches, next, Fetches, IsRead, IsNext, Fails, not_decoded, not_recorded, not_valid, failed, IsGathered, gathers, total_size, paths_for, tried_from, tried_next}
use Rattle.dyl_section.specs.Recorded.{record_of}
use Rattle.spec_linking.specs.declared.fault.SetFault.{SetFault}
use Rattle.spec_linking.specs.declared.fault.SetFault.TheVariants.{Missing, ReadFault, Decode, Record, Check, ModuleCount, SetSize, Memory}
use Rattle.dyl_search.specs.declared.set.SetOptions.{SetOptions}
use Rattle.dyl_search.specs.declared.set.Member.{Member}
use Rattle.dyl_search.specs.declared.find.Found.{Found}
use Rattle.dyl_search.specs.declared.load.Loaded.{Loaded}
use Rattle.dyl_search.specs.declared.progress.Progress.{Progress}
use Rattle.dyl_search.specs.Loaded.{IsModule, IsLoaded, Holds}
use Rattle.dyl_search.specs.Absents.{RisesAt, CountsTried, TriedFor, CountsFor}
use Rattle.dyl_search.specs.Gathers.{options_of, member_of, members_of, known_in, Stands, Counted, CountsNext, IsNextFile, Stops}
use Rattle.dyl_search.specs.Steps.{IsMade}
use Rattle.spec_linking.proofs.Numbering.{wanted_push}
use Rattle.dyl_search.proofs.Absents.{rises_append, rises_more, nothing_left}
use Rattle.dyl_search.proofs.NextFile.{told_reaches}

same_wanted : (o : Option Wanted) (v w : Wanted) → o ≡ Some v → o ≡ Some w → v ≡ w
same_wanted o v w e f = cc

module _ (told : Option FileMap) (o : SetOptions) (g : Progress) (s : Stands told o g) (f : Found) (nf : IsNextFile told o g f) where
  as_many : length (members_of g) ≡ length g.members.items
  as_many = length-map g.members.items member_of

  asked : slice_get (wanted (options_of o) (members_of g)) (length (members_of g)) ≡ Some nf.asked
  asked = ap (slice_get (wanted (options_of o) (members_of g))) as_many ∙ ap (λ ns. slice_get ns (length g.members.items)) (sym s.known) ∙ nf.next

  fetches : (First : Lookup) → First (paths_for (options_of o) (members_of g) nf.asked) (Some (f.path, f.bytes.items)) → Fetches First (options_of o) (members_of g) nf.asked f.path f.bytes.items
  fetches First at = record { found = record { next = asked; few = omega (arith, as_many, nf.few); first = at }; few_bytes = omega (arith, s.total, nf.few_bytes) }

  -- ---- the bytes are no member

  ended : (m : FileMap) (why : SetFault) → told ≡ Some m → Fails (first_in (get m)) (options_of o) (members_of g) why → IsGathered (get m) (options_of o) (Err why)
  ended m why e f = record { tried = _; gathers = gathers (failed (told_reaches told m (options_of o) (members_of g) e s.reached) f) }

  loaded_in : (m : FileMap) (n : ℕ) (fault : SetFault) → n ≡ length g.members.items → told ≡ Some m → IsLoaded n f.bytes.items (Err fault) → Stops (get m) (options_of o) fault
  loaded_in m n (Decode k fault) is e h =
      let P : ℕ → Type 0 = λ i. IsGathered (get m) (options_of o) (Err (Decode i fault)) in
      subst P (as_many ∙ sym is ∙ sym h.0) (ended m (Decode (length (members_of g)) fault) e (not_decoded (fetches (first_in (get m)) (nf.first m e)) h.1))
  loaded_in m n (Record k fault) is e h =
      let P : ℕ → Type 0 = λ i. IsGathered (get m) (options_of o) (Err (Record i fault)) in
      subst P (as_many ∙ sym is ∙ sym h.0) (ended m (Record (length (members_of g)) fault) e (not_recorded (fetches (first_in (get m)) (nf.first m e)) h.1.told h.1.is))
  loaded_in m n (Check k fault) is e h =
      let P : ℕ → Type 0 = λ i. IsGathered (get m) (options_of o) (Err (Check i fault)) in
      subst P (as_many ∙ sym is ∙ sym h.0)
      (ended m (Check (length (members_of g)) fault) e (not_valid (fetches (first_in (get m)) (nf.first m e)) h.1.told h.1.is.recorded h.1.is.why.is))
  loaded_in m n Memory is e h = tt
  loaded_in m n (Missing name) is e h = absurd h
  loaded_in m n (ReadFault at) is e h = absurd h
  loaded_in m n ModuleCount is e h = absurd h
  loaded_in m n SetSize is e h = absurd h

  pub no_member : (n : ℕ) (fault : SetFault) → n ≡ length g.members.items → IsLoaded n f.bytes.items (Err fault) → ForSome told (λ m. Stops (get m) (options_of o) fault)
  no_member n fault is h m e = loaded_in m n fault is e h

  -- how the Absent answers are counted, of all that was tried
  module _ (start before now : ℕ) (counted : Counted told o g start before) (next_counted : CountsNext told o g before now) where
    whole : (m : FileMap) → told ≡ Some m → RisesAt (get m) (tried_from (get m) (options_of o) [] (members_of g) ++ tried_next (get m) (options_of o) (members_of g)) start now
    whole m e = rises_append (get m) (tried_from (get m) (options_of o) [] (members_of g)) (tried_next (get m) (options_of o) (members_of g)) start before now (counted m e) (next_counted m e)

    pub lost_counts : CountsFor told (options_of o) (Err Memory) start now
    lost_counts m e = record {
      tried = _;
      are = ([], nothing_left (get m) (options_of o) (members_of g) (told_reaches told m (options_of o) (members_of g) e s.reached));
      absents = whole m e;
    }

    counts_in : (m : FileMap) (n : ℕ) (fault : SetFault) → n ≡ length g.members.items → told ≡ Some m → IsLoaded n f.bytes.items (Err fault)
        → CountsTried (get m) (TriedFor (get m) (options_of o) (Err fault)) start now
    counts_in m n (Decode k fault) is e h =
        let P : ℕ → Type 0 = λ i. CountsTried (get m) (TriedFor (get m) (options_of o) (Err (Decode i fault))) start now in
        let fails = not_decoded (fetches (first_in (get m)) (nf.first m e)) h.1 in
        subst P (as_many ∙ sym is ∙ sym h.0)
        (record { tried = _; are = gathers (failed (told_reaches told m (options_of o) (members_of g) e s.reached) fails); absents = whole m e })
    counts_in m n (Record k fault) is e h =
        let P : ℕ → Type 0 = λ i. CountsTried (get m) (TriedFor (get m) (options_of o) (Err (Record i fault))) start now in
        let fails = not_recorded (fetches (first_in (get m)) (nf.first m e)) h.1.told h.1.is in
        subst P (as_many ∙ sym is ∙ sym h.0)
        (record { tried = _; are = gathers (failed (told_reaches told m (options_of o) (members_of g) e s.reached) fails); absents = whole m e })
    counts_in m n (Check k fault) is e h =
        let P : ℕ → Type 0 = λ i. CountsTried (get m) (TriedFor (get m) (options_of o) (Err (Check i fault))) start now in
        let fails = not_valid (fetches (first_in (get m)) (nf.first m e)) h.1.told h.1.is.recorded h.1.is.why.is in
        subst P (as_many ∙ sym is ∙ sym h.0)
        (record { tried = _; are = gathers (failed (told_reaches told m (options_of o) (members_of g) e s.reached) fails); absents = whole m e })
    counts_in m n Memory is e h = lost_counts m e
    counts_in m n (Missing name) is e h = absurd h
    counts_in m n (ReadFault at) is e h = absurd h
    counts_in m n ModuleCount is e h = absurd h
    counts_in m n SetSize is e h = absurd h

    pub no_member_counts : (n : ℕ) (fault : SetFault) → n ≡ length g.members.items → IsLoaded n f.bytes.items (Err fault) → CountsFor told (options_of o) (Err fault) start now
    no_member_counts n fault is h m e = counts_in m n fault is e h

    pub counted_more : (m : Member) (h : Progress) → h.members.items ≡ g.members.items ++ m ∷ [] → Counted told o h start now
    counted_more m h members files e =
        let all : members_of h ≡ members_of g ++ member_of m ∷ [] = ap (map member_of) members ∙ map-append member_of g.members.items (m ∷ []) in
        subst (λ ms. RisesAt (get files) (tried_from (get files) (options_of o) [] ms) start now) (sym all)
        (rises_more (get files) (options_of o) [] (members_of g) (member_of m) start before now (counted files e) (next_counted files e))

  -- ---- a member more

  module _ (l : Loaded) (ld : Holds f.bytes.items (λ wasm. IsModule wasm l)) where
    made : Member
    made = record {
      name = nf.asked.name;
      path = f.path;
      size = length f.bytes.items;
      dylink = l.dylink;
      checked = l.checked;
      needed = map (number_of (with_names (length g.members.items) g.names l.dylink.needed)) l.dylink.needed;
    }

    is_made : (n : ℕ) (m : Member) → n ≡ length g.members.items → IsMade g.names n f l m → m ≡ made
    unfolding made
    is_made n m e h =
        let name : h.asked.name ≡ nf.asked.name = ap (λ w. w.name) (same_wanted (slice_get g.names n) h.asked nf.asked h.at (ap (slice_get g.names) e ∙ nf.next)) in
        let needed = h.needed ∙ ap (λ k. map (number_of (with_names k g.names l.dylink.needed)) l.dylink.needed) e in
        let named = h.name ∙ name in
        λ i. record { name = named i; path = h.path i; size = h.size i; dylink = h.dylink i; checked = h.checked i; needed = needed i }

    read : IsRead (member_of made) f.bytes.items
    unfolding made
    read = record {
      size = refl;
      told = subst (λ (w : Module). DecodeAnswer f.bytes.items (Ok w)) (sym ld.is.same) ld.told;
      valid = ap validation.fault ld.is.same ∙ ld.is.valid;
      dylink = subst (λ (w : Module). HasRecord w (record_of l.dylink)) (sym ld.is.same) ld.is.dylink;
    }

    found : IsNext (known_in told) (options_of o) (members_of g) (member_of made)
    unfolding made
    found = record {
      asked = nf.asked;
      bytes = f.bytes.items;
      fetched = fetches (known_in told) nf.first;
      name = refl;
      read = read;
      needed =
          ap (λ k. map (number_of (with_names k g.names l.dylink.needed)) l.dylink.needed) (sym as_many)
          ∙ ap (λ ns. map (number_of (with_names (length (members_of g)) ns l.dylink.needed)) l.dylink.needed) s.known;
    }

    more : (h : Progress) → h.members.items ≡ g.members.items ++ made ∷ [] → h.names ≡ with_later (options_of o) (length g.members.items + 1) (with_names (length g.members.items) g.names l.dylink.needed)
        → h.total ≡ g.total + length f.bytes.items → Stands told o h
    unfolding made
    more h members names total =
        let P : List sets.Member → Type 0 = λ ms. Reaches (known_in told) (options_of o) ms in
        let all : members_of h ≡ members_of g ++ member_of made ∷ [] = ap (map member_of) members ∙ map-append member_of g.members.items (made ∷ []) in
        record {
          reached = subst P (sym all) (next s.reached found);
          known =
              names
              ∙ ap (λ k. with_later (options_of o) (k + 1) (with_names k g.names l.dylink.needed)) (sym as_many)
              ∙ ap (λ ns. with_later (options_of o) (length (members_of g) + 1) (with_names (length (members_of g)) ns l.dylink.needed)) s.known
              ∙ sym (wanted_push (options_of o) (members_of g) (member_of made)) ∙ ap (wanted (options_of o)) (sym all);
          total = omega (arith, total, s.total, ap total_size all, sum_by-append (λ (m : sets.Member). m.size) (members_of g) (member_of made ∷ []));
          few_bytes = omega (arith, total, nf.few_bytes);
          few = omega (arith, ap (length {A = Member}) members, length-append g.members.items (made ∷ []), nf.few);
        }

    pub stands_more : (n : ℕ) (m : Member) (h : Progress) (known : List Wanted) → n ≡ length g.members.items → IsMade g.names n f l m → known ≡ with_names n g.names l.dylink.needed
        → h.members.items ≡ g.members.items ++ m ∷ [] → h.names ≡ with_later (options_of o) (length g.members.items + 1) known → h.total ≡ g.total + m.size → Stands told o h
    unfolding made
    stands_more n m h known e im is members names total =
        let same = is_made n m e im in
        more h (members ∙ ap (λ x. g.members.items ++ x ∷ []) same)
        (names ∙ ap (with_later (options_of o) (length g.members.items + 1)) (is ∙ ap (λ k. with_names k g.names l.dylink.needed) e))
        (total ∙ ap (λ x. g.total + x.size) same)
