-- Several sets that are gathered and linked, one after the other.
use Rattle.std.proofs.Common.{◌≡◌, ◌≤◌, ◌<◌, ◌+◌, ◌++◌, ℕ, List, [], ◌∷◌, length, get_or, drop, Result, Ok, Err, refl, sym, ap, ◌∙◌, subst, append-nil, append_assoc, arith, inl, inr}
use Rattle.std.proofs.lemmas.List.{drop_more}
use Rattle.std.specs.FinMap.{get}
use Rattle.spec_hosts.specs.dyl_outside.Faults.{Rises}
use Rattle.spec_hosts.specs.dyl_outside.Files.{FilesState}
use Rattle.spec_hosts.specs.spec_runtime.Names.{HostNames}
use Rattle.spec_loading.specs.spec_linking.declared.fault.SetFault.{SetFault}
use Rattle.spec_loading.specs.spec_linking.declared.fault.SetFault.TheVariants.{Missing, ReadFault}
use Rattle.spec_loading.specs.spec_linking.Sets.{Files, SetOptions, default_options}
use Rattle.spec_loading.specs.spec_linking.Plans.{LinkOptions}
use Rattle.spec_loading.specs.spec_linking.LinkedSets.{LinkedSet}
use Rattle.dyl_front.specs.declared.outcome.Outcome.{Outcome}
use Rattle.dyl_front.specs.declared.outcome.Outcome.TheVariants.{Done, Board, Set, Link, Memory}
use Rattle.dyl_commands.specs.Linking.{LinksAt, FaultTells}
use Rattle.dyl_commands.specs.Sets.{FirstTells}
use Rattle.dyl_commands.specs.Counts.{Stays, SetCounts, AfterSets, StopsAtSet, BoardCounts}
use Rattle.dyl_commands.specs.Served.{IsGot, GotCause, Gets, AreGot, MayFollowAll, GetsAll, GetsNext}
use Rattle.dyl_commands.proofs.Counting.{at_least, nothing_tried, refused_counts, got_counts}

-- ---- one of them

-- memory was wanting before anything was done
pub unlinked : (names : HostNames) (o : SetOptions) (l : LinkOptions) (old : FilesState) → Gets names o l (Err Memory) old old
unlinked names o l old = record {
  got = tt;
  fault = record { tells = λ files told. tt; caused = tt; inner = refl };
  files = refl;
  reads = at_least old.read_faults old.read_faults refl;
  writes = refl;
  absents = at_least old.absents old.absents refl;
  tried = nothing_tried old.told o old.absents;
}

-- a count that rises after another
rises_after : (before mid now : ℕ) → before ≤ mid → Rises mid now → Rises before now
rises_after before mid now first h = record { later = (let rises = h.later in omega arith); rose = (let rises = h.rose in omega arith) }

-- ---- what is so of what comes after it is so from its beginning

module _ (names : HostNames) (l : LinkOptions) (old mid : FilesState) (same : mid.told ≡ old.told) where
  got_before : (o : SetOptions) (L : LinkedSet) → IsGot names o l L mid → IsGot names o l L old
  got_before o L h = record {
    set = h.set;
    gathered = λ files told. h.gathered files (same ∙ told);
    shape = h.shape;
    links = h.links;
    is = h.is;
  }

  are_got_before : (mains : List (List ℕ)) (Ls : List LinkedSet) → AreGot names mains l Ls mid → AreGot names mains l Ls old
  are_got_before [] [] h = tt
  are_got_before (main ∷ mains) (L ∷ Ls) h = (got_before (default_options main) L h.0, are_got_before mains Ls h.1)
  are_got_before [] (L ∷ Ls) h = absurd h
  are_got_before (main ∷ mains) [] h = absurd h

cause_before : (old mid new : FilesState) → mid.read_faults ≡ old.read_faults → old.absents ≤ mid.absents → (answer : Outcome) → GotCause answer mid new → GotCause answer old new
cause_before old mid new reads absents Memory h = tt
cause_before old mid new reads absents (Link fault) h = tt
cause_before old mid new reads absents (Set fault) h = of_set fault h
  where
    of_set : (fault : SetFault) → GotCause (Set fault) mid new → GotCause (Set fault) old new
    of_set (Missing name) h = rises_after old.absents mid.absents new.absents absents h
    of_set (ReadFault path) h = subst (λ n. Rises n new.read_faults) reads h
    of_set fault h = tt
cause_before old mid new reads absents _ h = absurd h

module _ (names : HostNames) (files : Files) (main : List ℕ) (mains : List (List ℕ)) (l : LinkOptions) where
  tells_here : (answer : Outcome) → FaultTells names files (default_options main) l answer → FirstTells names files (main ∷ mains) l answer
  tells_here Memory h = tt
  tells_here (Set fault) h = of_set fault h
    where
      of_set : (fault : SetFault) → FaultTells names files (default_options main) l (Set fault) → FirstTells names files (main ∷ mains) l (Set fault)
      of_set (ReadFault path) h = inl h
      of_set fault h = inl h
  tells_here answer h = inl h

  tells_after : LinksAt names files (default_options main) l → (answer : Outcome) → FirstTells names files mains l answer → FirstTells names files (main ∷ mains) l answer
  tells_after links Memory h = tt
  tells_after links (Set fault) h = of_set fault h
    where
      of_set : (fault : SetFault) → FirstTells names files mains l (Set fault) → FirstTells names files (main ∷ mains) l (Set fault)
      of_set (ReadFault path) h = inr (links, h)
      of_set fault h = inr (links, h)
  tells_after links answer h = inr (links, h)

-- it counts where it isn't linked
stops_at : (o : SetOptions) (answer : Outcome) (old new : FilesState) → GotCause answer old new → SetCounts Stays o answer old new → StopsAtSet o answer old new
stops_at o (Board ran) old new caused h = absurd caused
stops_at o answer old new caused h = h

-- ---- all of them

-- some that are linked, and then what comes of those after them
abbrev pub behind : List LinkedSet → Result (List LinkedSet) Outcome → Result (List LinkedSet) Outcome
behind Ls (Ok more) = Ok (Ls ++ more)
behind Ls (Err outcome) = Err outcome

module _ (names : HostNames) (l : LinkOptions) where
  none_left : (old : FilesState) → GetsAll names [] l (Ok []) old old
  none_left old = record { got = tt; fault = tt; files = refl; counts = after }
    where
      after : (answer : Outcome) → MayFollowAll answer → AfterSets answer old old
      after (Board ran) h = refl
      after Memory h = refl
      after _ h = absurd h

  -- the first of them isn't linked
  fault_first : (main : List ℕ) (mains : List (List ℕ)) (answer : Outcome) (old new : FilesState) → Gets names (default_options main) l (Err answer) old new → GetsAll names (main ∷ mains) l (Err answer) old new
  fault_first main mains answer old new gets = record {
    got = tt;
    fault = record { tells = λ files told. tells_here names (get files) main mains l answer (gets.fault.tells files told); caused = gets.fault.caused; inner = gets.fault.inner };
    files = gets.files;
    counts = λ other same.
        subst (λ a. BoardCounts (main ∷ mains) a old new) (sym same)
        (inl
        (stops_at (default_options main) answer old new gets.fault.caused
        (refused_counts names (default_options main) l old new gets.writes gets.absents answer gets.fault gets.reads gets.tried)));
  }

  -- it is, and this comes of those after it
  module _ (main : List ℕ) (mains : List (List ℕ)) (L : LinkedSet) (old mid new : FilesState) (gets : Gets names (default_options main) l (Ok L) old mid) where
    counts_after : (answer : Outcome) → BoardCounts mains answer mid new → BoardCounts (main ∷ mains) answer old new
    counts_after answer h = inr (mid, got_counts names (default_options main) l L old mid gets (Done []) refl, gets.files, h)

    linked_first : (r : Result (List LinkedSet) Outcome) → GetsAll names mains l r mid new → GetsAll names (main ∷ mains) l (behind (L ∷ []) r) old new
    linked_first (Ok Ls) h = record {
      got = (gets.got, are_got_before names l old mid gets.files mains Ls h.got);
      fault = tt;
      files = h.files ∙ gets.files;
      counts = λ answer follows. counts_after answer (h.counts answer follows);
    }
    linked_first (Err outcome) h = record {
      got = tt;
      fault = record {
        tells = λ files told.
            tells_after names (get files) main mains l (record { set = gets.got.set; gathered = gets.got.gathered files told; links = gets.got.links }) outcome (h.fault.tells files (gets.files ∙ told));
        caused = cause_before old mid new gets.reads gets.absents outcome h.fault.caused;
        inner = h.fault.inner;
      };
      files = h.files ∙ gets.files;
      counts = λ answer follows. counts_after answer (h.counts answer follows);
    }

  -- ---- step by step

  -- Some are linked: what comes of those that are left comes of all.
  abbrev pub GoesOn : List (List ℕ) → List (List ℕ) → List LinkedSet → FilesState → FilesState → Type 0
  GoesOn mains left Ls old now = (r : Result (List LinkedSet) Outcome) (new : FilesState) → GetsAll names left l r now new → GetsAll names mains l (behind Ls r) old new

  none_behind : (r : Result (List LinkedSet) Outcome) → behind [] r ≡ r
  none_behind (Ok Ls) = refl
  none_behind (Err outcome) = refl

  pub begins : (mains : List (List ℕ)) (Ls : List LinkedSet) (old : FilesState) → Ls ≡ [] → GoesOn mains mains Ls old old
  begins mains Ls old none r new h = subst (λ x. GetsAll names mains l x old new) (sym (ap (λ x. behind x r) none ∙ none_behind r)) h

  pub goes_on : (mains left rest : List (List ℕ)) (main : List ℕ) (Ls news : List LinkedSet) (old now new : FilesState) (done : Unit {0}) → left ≡ main ∷ rest → GoesOn mains left Ls old now
      → GetsNext names main l (Ok done) Ls news now new → GoesOn mains rest news old new
  goes_on mains left rest main Ls news old now new done is go gets r last h =
      subst (λ x. GetsAll names mains l x old last) (shifted r)
      (go (behind (gets.0 ∷ []) r) last (subst (λ x. GetsAll names x l (behind (gets.0 ∷ []) r) now last) (sym is) (linked_first main rest gets.0 now new last gets.2 r h)))
    where
      shifted : (r : Result (List LinkedSet) Outcome) → behind Ls (behind (gets.0 ∷ []) r) ≡ behind news r
      shifted (Ok more) = ap Ok (sym (append_assoc Ls (gets.0 ∷ []) more) ∙ ap (λ x. x ++ more) (sym gets.1))
      shifted (Err outcome) = refl

  pub breaks : (mains left rest : List (List ℕ)) (main : List ℕ) (Ls olds news : List LinkedSet) (answer : Outcome) (old now new : FilesState) → left ≡ main ∷ rest → GoesOn mains left Ls old now
      → GetsNext names main l (Err answer) olds news now new → GetsAll names mains l (Err answer) old new
  breaks mains left rest main Ls olds news answer old now new is go gets = go (Err answer) new (subst (λ x. GetsAll names x l (Err answer) now new) (sym is) (fault_first main rest answer now new gets))

  pub ends : (mains left : List (List ℕ)) (Ls : List LinkedSet) (old now : FilesState) → left ≡ [] → GoesOn mains left Ls old now → GetsAll names mains l (Ok Ls) old now
  ends mains left Ls old now none go =
      subst (λ x. GetsAll names mains l (Ok x) old now) (append-nil Ls) (go (Ok []) now (subst (λ x. GetsAll names x l (Ok []) now now) (sym none) (none_left now)))

-- of a list that is gone through, what is left begins with the item that is next
pub left_more : {A : Type 0} (xs : List A) (i : ℕ) (x y : A) → i < length xs → x ≡ get_or xs i x → y ≡ x → drop i xs ≡ y ∷ drop (i + 1) xs
left_more xs i x y within is same = drop_more xs i x within ∙ ap (λ z. z ∷ drop (i + 1) xs) (sym (same ∙ is))
