-- The call stack of a machine, where each mark stands for something of a run.
-- Serves the contracts of this crate, which follow Runs of `spec_execution`.
use Rattle.std.specs.Prelude.{◌≡◌, ◌≢◌, ℕ, zero, suc, List, [], ◌∷◌, true}
use Rattle.spec_safety.specs.spec_execution.Views.{View}
use Rattle.spec_safety.specs.spec_execution.Runs.{Frame, Active, Marked, Next, Goes, Asks, Loads, Ends, Traps}

-- the call stack of the run, by what the mark of each number stands for
abbrev pub marked_stack : {Mark : Type 0} → (ℕ → Mark) → List (Frame ℕ) → List (Frame Mark)
marked_stack h [] = []
marked_stack h (Active a ∷ frames) = Active a ∷ marked_stack h frames
marked_stack h (Marked tag ∷ frames) = Marked (h tag) ∷ marked_stack h frames

-- what a step comes to, as the run sees it
abbrev pub marked_next : {Units Mark : Type 0} → (ℕ → Mark) → Next Units ℕ → Next Units Mark
marked_next h (Goes us memory frames) = Goes us memory (marked_stack h frames)
marked_next h (Asks entry args frames) = Asks entry args (marked_stack h frames)
marked_next h (Loads which args frames) = Loads which args (marked_stack h frames)
marked_next h Ends = Ends
marked_next h (Traps why) = Traps why

-- what lies under the mark of a number: nothing under the first, and under each other an activation that waits
abbrev pub LiesUnder : ℕ → List (Frame ℕ) → Type 0
LiesUnder zero frames = frames ≡ []
LiesUnder (suc n) [] = ⊥
LiesUnder (suc n) (Active a ∷ frames) = Unit {0}
LiesUnder (suc n) (Marked tag ∷ frames) = ⊥

-- so many marks, numbered from the lowest on, each over what is said to lie under it
abbrev pub AreMarksOver : (ℕ → List (Frame ℕ) → Type 0) → ℕ → List (Frame ℕ) → Type 0
AreMarksOver L n [] = n ≡ 0
AreMarksOver L n (Active a ∷ frames) = AreMarksOver L n frames
AreMarksOver L zero (Marked tag ∷ frames) = ⊥
AreMarksOver L (suc n) (Marked tag ∷ frames) = (tag ≡ n) × L n frames × AreMarksOver L n frames

abbrev pub AreMarks : ℕ → List (Frame ℕ) → Type 0
AreMarks = AreMarksOver LiesUnder

-- a call stack with something on it, and so many marks
pub record IsStackOver (L : ℕ → List (Frame ℕ) → Type 0) (n : ℕ) (frames : List (Frame ℕ)) : Type 0 where
  pub some : frames ≢ []
  pub marks : AreMarksOver L n frames

abbrev pub IsStack : ℕ → List (Frame ℕ) → Type 0
IsStack = IsStackOver LiesUnder

-- this is so of what a step leaves on the call stack; a function of the loader is called only where there are those
abbrev pub Keeps : (List (Frame ℕ) → Type 0) → {Units : Type 0} → View Units → Next Units ℕ → Type 0
Keeps P V (Goes us memory frames) = P frames
Keeps P V (Asks entry args frames) = P frames
Keeps P V (Loads which args frames) = (V.has_loader ≡ true) × P frames
Keeps P V Ends = Unit {0}
Keeps P V (Traps why) = Unit {0}

abbrev pub KeepsOver : (ℕ → List (Frame ℕ) → Type 0) → {Units : Type 0} → View Units → ℕ → Next Units ℕ → Type 0
KeepsOver L V n next = Keeps (IsStackOver L n) V next

abbrev pub KeepsUnder : {Units : Type 0} → View Units → ℕ → Next Units ℕ → Type 0
KeepsUnder V n next = KeepsOver LiesUnder V n next
