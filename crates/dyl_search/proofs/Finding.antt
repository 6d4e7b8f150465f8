-- What is found at some paths and then at others.
use Rattle.std.proofs.Common.{◌≡◌, ℕ, ◌+◌, ◌<◌, ◌≤◌, List, [], ◌∷◌, ◌++◌, map, take, drop, length, get_or, Option, Some, None, Result, Ok, Err, refl, sym, ap, ◌∙◌, subst, append-nil, append_assoc, false}
use Rattle.std.specs.Prelude.{IsSomeAnd}
use Rattle.std.specs.Option.{ForSome}
use Rattle.std.specs.FinMap.{get}
use Rattle.std.proofs.lemmas.List.{map-append, take-append-drop, take_more, take_all}
use Rattle.dyl_outside.specs.Faults.{RisesByOne}
use Rattle.dyl_outside.specs.FileMap.{FileMap}
use Rattle.spec_linking.specs.Sets.{Files, SetOptions}
use Rattle.spec_linking.specs.Paths.{file_or, first_file, unless_file, tried_of, IsTried, has_slash, in_directory, expanded, folder, search_paths}
use Rattle.spec_linking.specs.declared.fault.SetFault.{SetFault}
use Rattle.spec_linking.specs.declared.fault.SetFault.TheVariants.{Missing, ReadFault, Decode, Record, Check, ModuleCount, SetSize, Memory}
use Rattle.dyl_search.specs.declared.find.Found.{Found}
use Rattle.dyl_search.specs.Absents.{RisesAt}
use Rattle.dyl_search.specs.Found.{FindsIn, IsSearched, Finds}
use Rattle.dyl_search.proofs.Absents.{rises_there, rises_nowhere, rises_append}

-- ---- one path

nothing_behind : (o : Option (List ℕ)) → unless_file o [] ≡ []
nothing_behind None = refl
nothing_behind (Some bytes) = refl

-- it alone is to be tried
one_to_try : (files : Files) (path : List ℕ) → tried_of files (path ∷ []) ≡ path ∷ []
one_to_try files path = ap (λ ps. path ∷ ps) (nothing_behind (files path))

module _ (told : Option FileMap) (path : List ℕ) (most before now : ℕ) where
  pub finds_there : (f : Found) → f.path ≡ path → length f.bytes.items ≤ most → ForSome told (λ m. get m path ≡ Some f.bytes.items) → now ≡ before → Finds told (path ∷ []) most (Ok (Some f)) before now
  finds_there f is few there same = record {
    finding = few;
    files = λ m e. ap (λ o. file_or path o None) (there m e) ∙ ap (λ p. Some (p, f.bytes.items)) (sym is);
    absents = λ m e. record { tried = path ∷ []; are = sym (one_to_try (get m) path); absents = rises_there (get m) path f.bytes.items before now (there m e) same };
  }

  pub finds_none : ForSome told (λ m. get m path ≡ None) → RisesByOne before now → Finds told (path ∷ []) most (Ok None) before now
  finds_none none rises = record {
    finding = tt;
    files = λ m e. ap (λ o. file_or path o None) (none m e);
    absents = λ m e. record { tried = path ∷ []; are = sym (one_to_try (get m) path); absents = rises_nowhere (get m) path before now (none m e) rises };
  }

  -- the bytes of a file that is too long
  too_long : (o : Option (List ℕ)) → IsSomeAnd o (λ bytes. most < length bytes) → (bytes : List ℕ) × (o ≡ Some bytes) × (most < length bytes)
  too_long None h = absurd h
  too_long (Some bytes) h = (bytes, refl, h)

  pub finds_long : ForSome told (λ m. IsSomeAnd (get m path) (λ bytes. most < length bytes)) → now ≡ before → Finds told (path ∷ []) most (Err SetSize) before now
  finds_long long same = record {
    finding = tt;
    files = λ m e. (let h = too_long (get m path) (long m e) in record { path = path; bytes = h.0; first = ap (λ o. file_or path o None) h.1; long = h.2 });
    absents = λ m e.
        (let h = too_long (get m path) (long m e) in
        record { tried = path ∷ []; are = sym (one_to_try (get m) path); absents = rises_there (get m) path h.0 before now h.1 same });
  }

  pub finds_fault : (at : List ℕ) → at ≡ path → now ≡ before → Finds told (path ∷ []) most (Err (ReadFault at)) before now
  finds_fault at is same = record {
    finding = tt;
    files = λ m e. record { before = []; after = []; among = ap (λ p. p ∷ []) (sym is); absent = refl };
    absents = λ m e. record { tried = []; are = ([], one_to_try (get m) path ∙ ap (λ p. p ∷ []) (sym is)); absents = same };
  }

-- memory was wanting, before any path was tried
pub finds_lost : (told : Option FileMap) (paths : List (List ℕ)) (most before now : ℕ) → now ≡ before → Finds told paths most (Err Memory) before now
finds_lost told paths most before now same = record {
  finding = tt;
  files = λ m e. tt;
  absents = λ m e. record { tried = []; are = (tried_of (get m) paths, refl); absents = same };
}

-- there is no file at any of these paths, and so it was counted
pub record NoneAt (told : Option FileMap) (paths : List (List ℕ)) (before now : ℕ) : Type 0 where
  pub none : ForSome told (λ m. first_file (get m) paths ≡ None)
  pub absents : ForSome told (λ m. RisesAt (get m) paths before now)

module _ (files : Files) where
  nothing_first : (o : Option (List ℕ)) (path : List ℕ) (r : Option (List ℕ × List ℕ)) → file_or path o r ≡ None → (o ≡ None) × (r ≡ None)
  nothing_first None path r e = (refl, e)
  nothing_first (Some bytes) path r e = cc

  -- nothing at the first paths, so what is at the others
  pub first_after : (xs ys : List (List ℕ)) → first_file files xs ≡ None → first_file files (xs ++ ys) ≡ first_file files ys
  first_after [] ys e = refl
  first_after (x ∷ xs) ys e =
      let p = nothing_first (files x) x (first_file files xs) e in
      ap (λ o. file_or x o (first_file files (xs ++ ys))) p.0 ∙ first_after xs ys p.1

  -- something at the first paths
  pub first_before : (xs ys : List (List ℕ)) (f : List ℕ × List ℕ) → first_file files xs ≡ Some f → first_file files (xs ++ ys) ≡ Some f
  first_before [] ys f e = cc
  first_before (x ∷ xs) ys f e = by (files x) e (first_before xs ys f)
    where
      by : (o : Option (List ℕ)) → file_or x o (first_file files xs) ≡ Some f → (first_file files xs ≡ Some f → first_file files (xs ++ ys) ≡ Some f) → file_or x o (first_file files (xs ++ ys)) ≡ Some f
      by None p rest = rest p
      by (Some bytes) p rest = p

  pub tried_after : (xs ys : List (List ℕ)) (path : List ℕ) → first_file files xs ≡ None → IsTried files ys path → IsTried files (xs ++ ys) path
  tried_after xs ys path e t = record {
    before = xs ++ t.before;
    after = t.after;
    among = ap (λ zs. xs ++ zs) t.among ∙ sym (append_assoc xs t.before (path ∷ t.after));
    absent = first_after xs t.before e ∙ t.absent;
  }

  pub tried_before : (xs ys : List (List ℕ)) (path : List ℕ) → IsTried files xs path → IsTried files (xs ++ ys) path
  tried_before xs ys path t = record {
    before = t.before;
    after = t.after ++ ys;
    among = ap (λ zs. zs ++ ys) t.among ∙ append_assoc t.before (path ∷ t.after) ys;
    absent = t.absent;
  }

  -- ---- the paths that are tried

  tried_none : (xs ys : List (List ℕ)) → first_file files xs ≡ None → tried_of files (xs ++ ys) ≡ xs ++ tried_of files ys
  tried_none [] ys e = refl
  tried_none (x ∷ xs) ys e =
      let p = nothing_first (files x) x (first_file files xs) e in
      ap (λ zs. x ∷ zs) (ap (λ o. unless_file o (tried_of files (xs ++ ys))) p.0 ∙ tried_none xs ys p.1)

  tried_some : (xs ys : List (List ℕ)) (f : List ℕ × List ℕ) → first_file files xs ≡ Some f → tried_of files (xs ++ ys) ≡ tried_of files xs
  tried_some [] ys f e = cc
  tried_some (x ∷ xs) ys f e = ap (λ zs. x ∷ zs) (by (files x) e (tried_some xs ys f))
    where
      by : (o : Option (List ℕ)) → file_or x o (first_file files xs) ≡ Some f → (first_file files xs ≡ Some f → tried_of files (xs ++ ys) ≡ tried_of files xs)
          → unless_file o (tried_of files (xs ++ ys)) ≡ unless_file o (tried_of files xs)
      by None p rest = rest p
      by (Some bytes) p rest = refl

  -- those of more paths are these, and maybe others
  tried_more : (xs ys : List (List ℕ)) → (others : List (List ℕ)) × (tried_of files (xs ++ ys) ≡ tried_of files xs ++ others)
  tried_more [] ys = (tried_of files ys, refl)
  tried_more (x ∷ xs) ys = (let more = by (files x) (tried_more xs ys) in (more.0, ap (λ zs. x ∷ zs) more.1))
    where
      by : (o : Option (List ℕ)) → (others : List (List ℕ)) × (tried_of files (xs ++ ys) ≡ tried_of files xs ++ others)
          → (others : List (List ℕ)) × (unless_file o (tried_of files (xs ++ ys)) ≡ unless_file o (tried_of files xs) ++ others)
      by None rest = rest
      by (Some bytes) rest = ([], refl)

  pub all_tried : (xs : List (List ℕ)) → first_file files xs ≡ None → tried_of files xs ≡ xs
  all_tried xs e = ap (tried_of files) (sym (append-nil xs)) ∙ tried_none xs [] e ∙ append-nil xs

  searched_after : (xs ys : List (List ℕ)) (r : Result (Option Found) SetFault) (tried : List (List ℕ)) → first_file files xs ≡ None → IsSearched files ys r tried → IsSearched files (xs ++ ys) r (xs ++ tried)
  searched_after xs ys (Err (ReadFault path)) tried e h = (h.0, tried_none xs ys e ∙ ap (λ zs. xs ++ zs) h.1 ∙ sym (append_assoc xs tried (path ∷ h.0)))
  searched_after xs ys (Err Memory) tried e h = (h.0, tried_none xs ys e ∙ ap (λ zs. xs ++ zs) h.1 ∙ sym (append_assoc xs tried h.0))
  searched_after xs ys r tried e h = ap (λ zs. xs ++ zs) h ∙ sym (tried_none xs ys e)

  searched_before : (xs ys : List (List ℕ)) (most : ℕ) (r : Result (Option Found) SetFault) (tried : List (List ℕ)) → (r ≡ Ok None → ⊥) → FindsIn files xs most r → IsSearched files xs r tried
      → IsSearched files (xs ++ ys) r tried
  searched_before xs ys most (Ok (Some f)) tried some h s = s ∙ sym (tried_some xs ys (f.path, f.bytes.items) h)
  searched_before xs ys most (Ok None) tried some h s = absurd (some refl)
  searched_before xs ys most (Err SetSize) tried some h s = s ∙ sym (tried_some xs ys (h.path, h.bytes) h.first)
  searched_before xs ys most (Err (ReadFault path)) tried some h s =
      let more = tried_more xs ys in
      (s.0 ++ more.0, more.1 ∙ ap (λ zs. zs ++ more.0) s.1 ∙ append_assoc tried (path ∷ s.0) more.0)
  searched_before xs ys most (Err Memory) tried some h s =
      let more = tried_more xs ys in
      (s.0 ++ more.0, more.1 ∙ ap (λ zs. zs ++ more.0) s.1 ∙ append_assoc tried s.0 more.0)
  searched_before xs ys most (Err (Missing name)) tried some h s = absurd h
  searched_before xs ys most (Err (Decode n fault)) tried some h s = absurd h
  searched_before xs ys most (Err (Record n fault)) tried some h s = absurd h
  searched_before xs ys most (Err (Check n fault)) tried some h s = absurd h
  searched_before xs ys most (Err ModuleCount) tried some h s = absurd h

  -- ---- what is found

  after : (xs ys : List (List ℕ)) (most : ℕ) (r : Result (Option Found) SetFault) → first_file files xs ≡ None → FindsIn files ys most r → FindsIn files (xs ++ ys) most r
  after xs ys most (Ok (Some f)) e h = first_after xs ys e ∙ h
  after xs ys most (Ok None) e h = first_after xs ys e ∙ h
  after xs ys most (Err SetSize) e h = record { path = h.path; bytes = h.bytes; first = first_after xs ys e ∙ h.first; long = h.long }
  after xs ys most (Err (ReadFault path)) e h = tried_after xs ys path e h
  after xs ys most (Err Memory) e h = tt
  after xs ys most (Err (Missing name)) e h = absurd h
  after xs ys most (Err (Decode n fault)) e h = absurd h
  after xs ys most (Err (Record n fault)) e h = absurd h
  after xs ys most (Err (Check n fault)) e h = absurd h
  after xs ys most (Err ModuleCount) e h = absurd h

  before : (xs ys : List (List ℕ)) (most : ℕ) (r : Result (Option Found) SetFault) → (r ≡ Ok None → ⊥) → FindsIn files xs most r → FindsIn files (xs ++ ys) most r
  before xs ys most (Ok (Some f)) some h = first_before xs ys (f.path, f.bytes.items) h
  before xs ys most (Ok None) some h = absurd (some refl)
  before xs ys most (Err SetSize) some h = record { path = h.path; bytes = h.bytes; first = first_before xs ys (h.path, h.bytes) h.first; long = h.long }
  before xs ys most (Err (ReadFault path)) some h = tried_before xs ys path h
  before xs ys most (Err Memory) some h = tt
  before xs ys most (Err (Missing name)) some h = absurd h
  before xs ys most (Err (Decode n fault)) some h = absurd h
  before xs ys most (Err (Record n fault)) some h = absurd h
  before xs ys most (Err (Check n fault)) some h = absurd h
  before xs ys most (Err ModuleCount) some h = absurd h

pub finds_after : {before middle now : ℕ} (told : Option FileMap) (xs ys : List (List ℕ)) (most : ℕ) (r : Result (Option Found) SetFault) → NoneAt told xs before middle → Finds told ys most r middle now
    → Finds told (xs ++ ys) most r before now
finds_after {before} {middle} {now} told xs ys most r n h = record {
  finding = h.finding;
  files = λ m e. after (get m) xs ys most r (n.none m e) (h.files m e);
  absents = λ m e.
      (let c = h.absents m e in
      record {
        tried = xs ++ c.tried;
        are = searched_after (get m) xs ys r c.tried (n.none m e) c.are;
        absents = rises_append (get m) xs c.tried before middle now (n.absents m e) c.absents;
      });
}

pub finds_before : {before now : ℕ} (told : Option FileMap) (xs ys : List (List ℕ)) (most : ℕ) (r : Result (Option Found) SetFault) → (r ≡ Ok None → ⊥) → Finds told xs most r before now
    → Finds told (xs ++ ys) most r before now
finds_before told xs ys most r some h = record {
  finding = h.finding;
  files = λ m e. before (get m) xs ys most r some (h.files m e);
  absents = λ m e.
      (let c = h.absents m e in
      record { tried = c.tried; are = searched_before (get m) xs ys most r c.tried some (h.files m e) c.are; absents = c.absents });
}

pub none_at : {before now : ℕ} (told : Option FileMap) (xs : List (List ℕ)) (most : ℕ) → Finds told xs most (Ok None) before now → NoneAt told xs before now
none_at {before} {now} told xs most h = record {
  none = h.files;
  absents = λ m e.
      (let c = h.absents m e in
      subst (λ paths. RisesAt (get m) paths before now) (c.are ∙ all_tried (get m) xs (h.files m e)) c.absents);
}

finds_none_at : {before now : ℕ} (told : Option FileMap) (xs : List (List ℕ)) (most : ℕ) → NoneAt told xs before now → Finds told xs most (Ok None) before now
finds_none_at told xs most n = record {
  finding = tt;
  files = n.none;
  absents = λ m e. record { tried = xs; are = sym (all_tried (get m) xs (n.none m e)); absents = n.absents m e };
}

pub finds_same : {before now : ℕ} (told later : Option FileMap) (xs ys : List (List ℕ)) (most : ℕ) (r : Result (Option Found) SetFault) → later ≡ told → ys ≡ xs → Finds later ys most r before now
    → Finds told xs most r before now
finds_same {before} {now} told later xs ys most r same paths h =
    let P : Option FileMap → Type 0 = λ o. Finds o xs most r before now in
    let Q : List (List ℕ) → Type 0 = λ zs. Finds later zs most r before now in
    subst P same (subst Q paths h)

pub at_option : {told : Option FileMap} {paths : List (List ℕ)} {most before now : ℕ} {o other : Option Found} → o ≡ other → Finds told paths most (Ok o) before now → Finds told paths most (Ok other) before now
at_option {told} {paths} {most} {before} {now} e h = let P : Option Found → Type 0 = λ x. Finds told paths most (Ok x) before now in subst P e h

-- nothing at the first paths, and then others are searched
pub then_at : {before middle now : ℕ} (told later : Option FileMap) (xs ys : List (List ℕ)) (most : ℕ) (r : Result (Option Found) SetFault) → Finds told xs most (Ok None) before middle → later ≡ told
    → Finds later ys most r middle now → Finds told (xs ++ ys) most r before now
then_at told later xs ys most r none same h = finds_after told xs ys most r (none_at told xs most none) (finds_same told later ys ys most r same refl h)

-- ---- one directory after the other

module _ (f : List ℕ → List ℕ) (ds : List (List ℕ)) (i : ℕ) (x : List ℕ) (at : x ≡ get_or ds i x) (told : Option FileMap) (most : ℕ) where
  one_more : i < length ds → map f (take (i + 1) ds) ≡ map f (take i ds) ++ (f x ∷ [])
  one_more lt = ap (map f) (take_more ds i x lt) ∙ map-append f (take i ds) (get_or ds i x ∷ []) ∙ ap (λ y. map f (take i ds) ++ (f y ∷ [])) (sym at)

  rest_after : map f (take (i + 1) ds) ++ map f (drop (i + 1) ds) ≡ map f ds
  rest_after = sym (map-append f (take (i + 1) ds) (drop (i + 1) ds)) ∙ ap (map f) (take-append-drop (i + 1) ds)

  pub found_at : {before middle now : ℕ} (later : Option FileMap) (y : List ℕ) (r : Result (Option Found) SetFault) → i < length ds → NoneAt told (map f (take i ds)) before middle → (r ≡ Ok None → ⊥)
      → later ≡ told → y ≡ x → Finds later (f y ∷ []) most r middle now → Finds told (map f ds) most r before now
  found_at {before} {middle} {now} later y r lt none some same is h =
      let P : List (List ℕ) → Type 0 = λ paths. Finds told paths most r before now in
      subst P rest_after (finds_before told (map f (take (i + 1) ds)) (map f (drop (i + 1) ds)) most r some
      (subst P (sym (one_more lt)) (finds_after told (map f (take i ds)) (f x ∷ []) most r none (finds_same told later (f x ∷ []) (f y ∷ []) most r same (ap (λ z. f z ∷ []) is) h))))

  pub none_more : {before middle now : ℕ} (later : Option FileMap) (y : List ℕ) → i < length ds → NoneAt told (map f (take i ds)) before middle → later ≡ told → y ≡ x
      → Finds later (f y ∷ []) most (Ok None) middle now → NoneAt told (map f (take (i + 1) ds)) before now
  none_more {before} {middle} {now} later y lt none same is h =
      let P : List (List ℕ) → Type 0 = λ paths. NoneAt told paths before now in
      subst P (sym (one_more lt)) (none_at told (map f (take i ds) ++ (f x ∷ [])) most (finds_after told (map f (take i ds)) (f x ∷ []) most (Ok None) none
      (finds_same told later (f x ∷ []) (f y ∷ []) most (Ok None) same (ap (λ z. f z ∷ []) is) h)))

pub none_all : {before now : ℕ} (f : List ℕ → List ℕ) (ds : List (List ℕ)) (i : ℕ) (told : Option FileMap) (most : ℕ) → length ds ≤ i → NoneAt told (map f (take i ds)) before now
    → Finds told (map f ds) most (Ok None) before now
none_all {before} {now} f ds i told most e none =
    let P : List (List ℕ) → Type 0 = λ xs. NoneAt told (map f xs) before now in
    finds_none_at told (map f ds) most (subst P (take_all i ds e) none)

-- a name without a slash
pub searched : (o : SetOptions) (path : List ℕ) (texts : List (List ℕ)) (name : List ℕ) → has_slash name ≡ false
    → map (λ text. in_directory (expanded path text) name) texts ++ (map (λ directory. in_directory directory name) o.paths ++ (folder o.main ++ name) ∷ []) ≡ search_paths o path texts name
searched o path texts name e = rw e refl
