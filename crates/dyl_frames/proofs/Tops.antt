-- The frame on top, and the ones under it.
use Rattle.std.proofs.Common.{◌≡◌, ◌≢◌, ◌⊎◌, inl, inr, ℕ, zero, suc, ◌-◌, ◌<◌, List, [], ◌∷◌, Option, Some, refl, ap, sym, ◌∙◌, subst, length, get_or, drop, arith}
use Rattle.std.specs.Prelude.{slice_get, slice_set}
use Rattle.std.specs.Vec.{with_item}
use Rattle.std.proofs.lemmas.Option.{slice_get_read}
use Rattle.spec_loading.specs.spec_execution.Runs.{Frame, Active, Marked}
use Rattle.wasm_machine.specs.Machines.{IsMarked}
use Rattle.wasm_machine.specs.Marks.{marked_stack, AreMarksOver}
use Rattle.wasm_machine.specs.declared.machine.Standing.{Standing}
use Rattle.wasm_machine.specs.declared.machine.Standing.TheVariants as standing
use Rattle.spec_loading.specs.declared.task.After.{After}
use Rattle.spec_loading.specs.Phases.{LoaderFrame}
use Rattle.spec_loading.specs.Loading.{LoaderState}
use Rattle.dyl_frames.specs.declared.frames.Pending.{Pending}
use Rattle.dyl_frames.specs.declared.frames.Core.{Core}
use Rattle.dyl_frames.specs.Cores.{frame_of, frame_in, frame_at, LiesOver, LiesUnder, IsStacked, IsLive, loader_of, top_frame, TakesTask, Finishes}
use Rattle.dyl_world.specs.Promoted.{PromotedMembers}

last_below : {A : Type 0} (xs : List A) (n : ℕ) → xs ≢ [] → n ≡ length xs → n - 1 < n
last_below [] n some is = absurd (some refl)
last_below (x ∷ xs) n some is = omega arith

abbrev IsTaken : List Pending → Pending → List Pending → Type 0
IsTaken old q new = (p r : Pending) × (slice_get old (length old - 1) ≡ Some p) × (new ≡ slice_set old (length old - 1) r) × TakesTask p r

finished_frames : (xs : List Pending) (q p : Pending) (last n : ℕ) → xs ≢ [] → n ≡ length xs → last ≡ n - 1 → p ≡ get_or xs last p → TakesTask p q → IsTaken xs q (slice_set xs last q)
finished_frames xs q p last n some is at read t =
    let below : last < n = subst (λ (i : ℕ). i < n) (sym at) (last_below xs n some is) in
    let place : last ≡ length xs - 1 = at ∙ ap (λ (i : ℕ). i - 1) is in
    (p, q, subst (λ (i : ℕ). slice_get xs i ≡ Some p) place (slice_get_read xs n last p is below read), ap (λ (i : ℕ). slice_set xs i q) place, t)

pub takes : (c : Core) (q p : Pending) (last : ℕ) (n : ℕ) → c.frames.items ≢ [] → n ≡ length c.frames.items → last ≡ n - 1 → p ≡ get_or c.frames.items last p → TakesTask p q
    → Finishes c.stages c (record { machine = c.machine; frames = with_item c.frames last q; stages = c.stages; error = c.error; promoted = c.promoted })
takes c q p last n some is at read t = record {
  machine = refl;
  stages_are = refl;
  error = refl;
  promoted = refl;
  frames = finished_frames c.frames.items q p last n some is at read t;
}

-- ---- lists

other_kept : {A : Type 0} (xs : List A) (i : ℕ) (v : A) (j : ℕ) → j ≢ i → slice_get (slice_set xs i v) j ≡ slice_get xs j
other_kept [] i v j other = refl
other_kept (x ∷ xs) zero v zero other = absurd (other refl)
other_kept (x ∷ xs) zero v (suc j) other = refl
other_kept (x ∷ xs) (suc i) v zero other = refl
other_kept (x ∷ xs) (suc i) v (suc j) other = other_kept xs i v j (λ e. other (ap suc e))

pub there_set : {A : Type 0} (xs : List A) (i : ℕ) (v p : A) → slice_get xs i ≡ Some p → slice_get (slice_set xs i v) i ≡ Some v
there_set [] i v p e = absurd cc
there_set (x ∷ xs) zero v p e = refl
there_set (x ∷ xs) (suc i) v p e = there_set xs i v p e

pub length_set : {A : Type 0} (xs : List A) (i : ℕ) (v : A) → length (slice_set xs i v) ≡ length xs
length_set [] i v = refl
length_set (x ∷ xs) zero v = refl
length_set (x ∷ xs) (suc i) v = ap suc (length_set xs i v)

pub changed_or_kept : {A : Type 0} (xs : List A) (i : ℕ) (v : A) (j : ℕ) (p : A) → slice_get (slice_set xs i v) j ≡ Some p → ((j ≡ i) × (p ≡ v)) ⊎ (slice_get xs j ≡ Some p)
changed_or_kept [] i v j p e = inr e
changed_or_kept (x ∷ xs) zero v zero p e = inl (refl, cc)
changed_or_kept (x ∷ xs) zero v (suc j) p e = inr e
changed_or_kept (x ∷ xs) (suc i) v zero p e = inr e
changed_or_kept (x ∷ xs) (suc i) v (suc j) p e = go (changed_or_kept xs i v j p e)
  where
    go : ((j ≡ i) × (p ≡ v)) ⊎ (slice_get xs j ≡ Some p) → ((suc j ≡ suc i) × (p ≡ v)) ⊎ (slice_get xs j ≡ Some p)
    go (inl k) = inl (ap suc k.0, k.1)
    go (inr k) = inr k

-- ---- a mark on top

pub record OnMark (c : Core) : Type 0 where
  pub number : ℕ
  pub rest : List (Frame ℕ)
  pub count : length c.frames.items ≡ suc number
  pub frames : c.machine.stack.frames ≡ Marked number ∷ rest
  pub under : LiesUnder c.frames.items number rest
  pub marks : AreMarksOver (LiesUnder c.frames.items) number rest

marked_on_top : (st : Standing) (rooms : List ℕ) (frames : List (Frame ℕ)) → IsMarked (record { stack = record { frames = frames; rooms = rooms }; standing = st }) → (tag : ℕ) × (rest : List (Frame ℕ)) × (frames ≡ Marked tag ∷ rest)
marked_on_top st rooms [] h = absurd h.1
marked_on_top st rooms (Active a ∷ frames) h = absurd h.1
marked_on_top st rooms (Marked tag ∷ frames) h = (tag, frames, refl)

numbered : (L : ℕ → List (Frame ℕ) → Type 0) (n tag : ℕ) (rest : List (Frame ℕ)) → AreMarksOver L n (Marked tag ∷ rest) → (k : ℕ) × (n ≡ suc k) × (tag ≡ k) × L k rest × AreMarksOver L k rest
numbered L zero tag rest h = absurd h
numbered L (suc k) tag rest h = (k, refl, h.0, h.1, h.2)

pub on_mark : (c : Core) → IsMarked c.machine → IsStacked c.frames.items c.machine.stack.frames → OnMark c
on_mark c marked live =
    let top = marked_on_top c.machine.standing c.machine.stack.rooms c.machine.stack.frames marked in
    let at = numbered (LiesUnder c.frames.items) (length c.frames.items) top.0 top.1 (subst (λ (fs : List (Frame ℕ)). AreMarksOver (LiesUnder c.frames.items) (length c.frames.items) fs) top.2 live.marks) in
    record {
      number = at.0;
      rest = top.1;
      count = at.1;
      frames = top.2 ∙ ap (λ (tag : ℕ). Marked tag ∷ top.1) at.2;
      under = at.3;
      marks = at.4;
    }

-- ---- the frames under it

pub marks_alike : {Mark : Type 0} (f g : ℕ → Mark) (L : ℕ → List (Frame ℕ) → Type 0) (k : ℕ) (frames : List (Frame ℕ)) → AreMarksOver L k frames → ((i : ℕ) → i < k → f i ≡ g i) → marked_stack f frames ≡ marked_stack g frames
marks_alike f g L k [] marks same = refl
marks_alike f g L k (Active a ∷ frames) marks same = ap (λ (fs : List (Frame _)). Active a ∷ fs) (marks_alike f g L k frames marks same)
marks_alike f g L zero (Marked tag ∷ frames) marks same = absurd marks
marks_alike f g L (suc k) (Marked tag ∷ frames) marks same =
    let here : f tag ≡ g tag = subst (λ (n : ℕ). f n ≡ g n) (sym marks.0) (same k (omega arith)) in
    let below = marks_alike f g L k frames marks.2 (λ i lt. same i (omega arith)) in
    rw (here, below) refl

-- what is said of each mark's place may be said in another way
pub marks_kept : (L L' : ℕ → List (Frame ℕ) → Type 0) (k : ℕ) (frames : List (Frame ℕ)) → AreMarksOver L k frames → ((i : ℕ) → i < k → (fs : List (Frame ℕ)) → L i fs → L' i fs) → AreMarksOver L' k frames
marks_kept L L' k [] marks to = marks
marks_kept L L' k (Active a ∷ frames) marks to = marks_kept L L' k frames marks to
marks_kept L L' zero (Marked tag ∷ frames) marks to = absurd marks
marks_kept L L' (suc k) (Marked tag ∷ frames) marks to = (marks.0, to k (omega arith) frames marks.1, marks_kept L L' k frames marks.2 (λ i lt. to i (omega arith)))

-- frames that are followed by the same
module _ (xs ys : List Pending) (same : (i : ℕ) → (frame_at xs i).after ≡ (frame_at ys i).after) (count : length ys ≡ length xs) where
  stacked_kept : (frames : List (Frame ℕ)) → IsStacked xs frames → IsStacked ys frames
  stacked_kept frames h = record {
    some = h.some;
    marks = subst (λ (n : ℕ). AreMarksOver (LiesUnder ys) n frames) (sym count)
        (marks_kept (LiesUnder xs) (LiesUnder ys) (length xs) frames h.marks (λ i lt fs k. subst (λ (a : After). LiesOver a fs) (same i) k));
  }

  pub live_kept : (st : Standing) (frames : List (Frame ℕ)) → IsLive st xs frames → IsLive st ys frames
  live_kept standing.Moving frames h = stacked_kept frames h
  live_kept (standing.Asking entry n) frames h = stacked_kept frames h
  live_kept standing.Loading frames h = (stacked_kept frames h.0, h.1)
  live_kept standing.Lost frames h = absurd h
  live_kept standing.Returned frames h = tt
  live_kept (standing.Trapped why) frames h = tt
  live_kept (standing.Exited code) frames h = tt

set_after : (xs : List Pending) (j : ℕ) (p q : Pending) → slice_get xs j ≡ Some p → (frame_of p).after ≡ (frame_of q).after → (i : ℕ) → (frame_at xs i).after ≡ (frame_at (slice_set xs j q) i).after
set_after [] j p q e same i = refl
set_after (x ∷ xs) zero p q e same zero = let is : x ≡ p = cc in ap (λ (y : Pending). (frame_of y).after) is ∙ same
set_after (x ∷ xs) zero p q e same (suc i) = refl
set_after (x ∷ xs) (suc j) p q e same zero = refl
set_after (x ∷ xs) (suc j) p q e same (suc i) = set_after xs j p q e same i

-- the frame with its first task taken away
abbrev pub rest_of : LoaderFrame → LoaderFrame
rest_of f = record f { tasks = drop 1 f.tasks }

pub taken_frame : (p q : Pending) → TakesTask p q → frame_of q ≡ rest_of (frame_of p)
taken_frame p q t = rw (t.tasks, t.after) refl

module _ (stages : List ℕ) (c new : Core) (f : Finishes stages c new) (k : ℕ) (count : length c.frames.items ≡ suc k) where
  pub same_count : length new.frames.items ≡ length c.frames.items
  same_count = ap length f.frames.3 ∙ length_set c.frames.items (length c.frames.items - 1) f.frames.1

  last_is : length c.frames.items - 1 ≡ k
  last_is = omega arith

  pub finished_top : frame_at new.frames.items k ≡ rest_of (top_frame c)
  finished_top =
      let at = there_set c.frames.items (length c.frames.items - 1) f.frames.1 f.frames.0 f.frames.2 in
      let here : slice_get new.frames.items k ≡ Some f.frames.1 = subst (λ (n : ℕ). slice_get new.frames.items n ≡ Some f.frames.1) last_is (ap (λ (xs : List Pending). slice_get xs (length c.frames.items - 1)) f.frames.3 ∙ at) in
      ap frame_in here ∙ taken_frame f.frames.0 f.frames.1 f.frames.4 ∙ ap (λ (o : Option Pending). rest_of (frame_in o)) (sym f.frames.2)

  pub finished_under : (i : ℕ) → i < k → frame_at c.frames.items i ≡ frame_at new.frames.items i
  finished_under i lt =
      let other : i ≢ length c.frames.items - 1 = λ e. omega arith in
      ap frame_in (sym (ap (λ (xs : List Pending). slice_get xs i) f.frames.3 ∙ other_kept c.frames.items (length c.frames.items - 1) f.frames.1 i other))

  -- the call stack above the frames under it
  pub finished_stack : (L : ℕ → List (Frame ℕ) → Type 0) (rest : List (Frame ℕ)) → AreMarksOver L k rest → marked_stack (frame_at new.frames.items) (Marked k ∷ rest) ≡ Marked (rest_of (top_frame c)) ∷ marked_stack (frame_at c.frames.items) rest
  finished_stack L rest marks = rw (finished_top, marks_alike (frame_at c.frames.items) (frame_at new.frames.items) L k rest marks finished_under) refl

  finished_after : (i : ℕ) → (frame_at c.frames.items i).after ≡ (frame_at new.frames.items i).after
  finished_after i =
      set_after c.frames.items (length c.frames.items - 1) f.frames.0 f.frames.1 f.frames.2 (ap (λ (x : LoaderFrame). x.after) (sym (taken_frame f.frames.0 f.frames.1 f.frames.4))) i
      ∙ ap (λ (xs : List Pending). (frame_at xs i).after) (sym f.frames.3)

  pub finished_live : (st : Standing) (frames : List (Frame ℕ)) → IsLive st c.frames.items frames → IsLive st new.frames.items frames
  finished_live = live_kept c.frames.items new.frames.items finished_after same_count

-- what the loader keeps once a task is done
pub finished_loader : (stages : List ℕ) (c new : Core) → Finishes stages c new → loader_of new ≡ record (loader_of c) { stages = stages }
finished_loader stages c new f =
    let by : List ℕ → ℕ → PromotedMembers → LoaderState = λ ss e ps. record { stages = ss; error = e; promoted = ps.list } in
    (λ i. by (f.stages_are i) (f.error i) (f.promoted i))
