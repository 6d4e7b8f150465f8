-- Files to which those of members are added one after the other.
use Rattle.std.proofs.Common.{◌≡◌, ◌≢◌, ℕ, ◌+◌, ◌<◌, ◌≤◌, List, Some, None, cond, Bool, true, false, refl, sym, ap, ◌∙◌, subst, arith, bytes_eq, inl, inr, ◌⊎◌, below_more}
use Rattle.std.specs.Prelude.{IsSomeAnd}
use Rattle.std.specs.Ordering.{nat_cmp}
use Rattle.std.specs.Cmp.Lexicographic.{slice_cmp}
use Rattle.std.specs.FinMap.{get, insert, empty, get-insert, get-empty}
use Rattle.std.proofs.lemmas.Cmp.{nat_list_cmp_total}
use Rattle.std.proofs.lemmas.Map.Text.{is_eq-slice_cmp}
use Rattle.std.proofs.lemmas.Slice.Eq.{bytes_eq-Decides}
use Rattle.spec_reading.proofs.of_spec_binary.Lists.{bytes_differ}
use Rattle.dyl_outside.specs.FileMap.{FileMap}
use Rattle.dyl_outside.specs.MemFiles.{MemFilesState}
use Rattle.dyl_gen.specs.Generated.{file_name, further_name}
use Rattle.dyl_gen.specs.Files.{IsMemberFile, IsFurtherFile, AreGenerated, fresh, HasFirst, Adds}
use Rattle.dyl_gen.proofs.MemberNames.{files_differ, further_differs}

-- ---- a file at a path

got : (files : FileMap) (path bytes other : List ℕ) → get (insert files path bytes) other ≡ cond (bytes_eq other path) (Some bytes) (get files other)
got files path bytes other =
    get-insert nat_list_cmp_total files path bytes other ∙ ap (λ b. cond b (Some bytes) (get files other)) (is_eq-slice_cmp other path)

got_here : (files : FileMap) (path bytes : List ℕ) → get (insert files path bytes) path ≡ Some bytes
got_here files path bytes = got files path bytes path ∙ ap (λ b. cond b (Some bytes) (get files path)) ((bytes_eq-Decides path path).1 refl)

got_there : (files : FileMap) (path bytes other : List ℕ) → other ≢ path → get (insert files path bytes) other ≡ get files other
got_there files path bytes other differ = got files path bytes other ∙ ap (λ b. cond b (Some bytes) (get files other)) (bytes_differ other path differ)

-- where there is a file after one is added, it is that one, or it was there
had : (files : FileMap) (path bytes other : List ℕ) → get (insert files path bytes) other ≢ None → (other ≡ path) ⊎ (get files other ≢ None)
had files path bytes other is = by (bytes_eq other path) refl
  where
    by : (b : Bool) → bytes_eq other path ≡ b → (other ≡ path) ⊎ (get files other ≢ None)
    by true e = inl ((bytes_eq-Decides other path).0 e)
    by false e = inr (λ none. is (got files path bytes other ∙ ap (λ b. cond b (Some bytes) (get files other)) e ∙ none))

-- ---- files with those of the first members

pub begun : (n : ℕ) (s : MemFilesState) → s ≡ fresh empty → HasFirst n 0 s
begun n s e =
    let files : s.files ≡ empty = ap (λ (x : MemFilesState). x.files) e in
    record {
      state = e ∙ ap fresh (sym files);
      members = λ j lt. absurd (omega arith);
      alone = λ path is. absurd (is (ap (λ (F : FileMap). get F path) files ∙ get-empty (slice_cmp nat_cmp) path));
    }

module _ (old new : MemFilesState) (path : List ℕ) (Is : List ℕ → Type 0) (adds : Adds path Is old new) where
  files_are : new.files ≡ insert old.files path adds.bytes
  files_are = ap (λ (s : MemFilesState). s.files) adds.state

  pub still_fresh : old ≡ fresh old.files → new ≡ fresh new.files
  still_fresh e = adds.state ∙ ap (λ (s : MemFilesState). record s { files = insert old.files path adds.bytes }) e ∙ ap fresh (sym files_are)

  added : IsSomeAnd (get new.files path) Is
  added = subst (λ (F : FileMap). IsSomeAnd (get F path) Is) (sym files_are) (subst (λ o. IsSomeAnd o Is) (sym (got_here old.files path adds.bytes)) adds.is)

  kept : (other : List ℕ) (P : List ℕ → Type 0) → other ≢ path → IsSomeAnd (get old.files other) P → IsSomeAnd (get new.files other) P
  kept other P differ is =
      subst (λ (F : FileMap). IsSomeAnd (get F other) P) (sym files_are) (subst (λ o. IsSomeAnd o P) (sym (got_there old.files path adds.bytes other differ)) is)

  there : (other : List ℕ) → get new.files other ≢ None → (other ≡ path) ⊎ (get old.files other ≢ None)
  there other is = had old.files path adds.bytes other (λ none. is (ap (λ (F : FileMap). get F other) files_are ∙ none))

pub one_more : (n k : ℕ) (old new : MemFilesState) → k < n → n ≤ 255 → HasFirst n k old → Adds (file_name k) (IsMemberFile n k) old new → HasFirst n (k + 1) new
one_more n k old new lt few has adds = record {
  state = still_fresh old new (file_name k) (IsMemberFile n k) adds has.state;
  members = below_more (λ j. IsSomeAnd (get new.files (file_name j)) (IsMemberFile n j)) k
      (λ j below. kept old new (file_name k) (IsMemberFile n k) adds (file_name j) (IsMemberFile n j)
      (λ e. (let same = files_differ j k (omega arith) (omega arith) e in omega arith)) (has.members j below))
      (added old new (file_name k) (IsMemberFile n k) adds);
  alone = λ path is. by path (there old new (file_name k) (IsMemberFile n k) adds path is);
}
  where
    by : (path : List ℕ) → (path ≡ file_name k) ⊎ (get old.files path ≢ None) → (j : ℕ) × (j < k + 1) × (path ≡ file_name j)
    by path (inl e) = (k, omega arith, e)
    by path (inr is) = (let one = has.alone path is in (one.0, (let lt = one.1 in omega arith), one.2))

pub all_there : (n : ℕ) (old new : MemFilesState) → n ≤ 255 → HasFirst n n old → Adds further_name IsFurtherFile old new → AreGenerated n new.files
all_there n old new few has adds = record {
  members = λ k lt. kept old new further_name IsFurtherFile adds (file_name k) (IsMemberFile n k) (λ e. further_differs k (sym e)) (has.members k lt);
  further = added old new further_name IsFurtherFile adds;
  alone = λ path is. by path (there old new further_name IsFurtherFile adds path is);
}
  where
    by : (path : List ℕ) → (path ≡ further_name) ⊎ (get old.files path ≢ None) → (path ≡ further_name) ⊎ ((k : ℕ) × (k < n) × (path ≡ file_name k))
    by path (inl e) = inl e
    by path (inr is) = inr (has.alone path is)
