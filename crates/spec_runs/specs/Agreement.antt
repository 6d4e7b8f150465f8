-- When two runs agree, and a law of one step from which they do.
-- This profile: docs/ARCHITECTURE.md, "What agreement is".
use Rattle.std.specs.Prelude.{◌≡◌, ◌≢◌, ℕ, zero, suc, List, Some, None, IsTrue}
use Rattle.spec_runs.specs.Systems.{Outside, Moving, Waits, System, Ran, run}

-- The same events. Where the first run stands at a wait or an end, the second stands at the same, with the same
-- memory.
pub record Alike {O : Outside} (S T : System O) (r : Ran O S.State) (q : Ran O T.State) : Type 0 where
  pub events : r.events ≡ q.events
  pub seen : S.status r.state ≢ Moving → (T.status q.state ≡ S.status r.state) × (T.memory q.state ≡ S.memory r.state)

-- over any answers, after any number of steps of the one there is a number of steps of the other
abbrev pub Follows : {O : Outside} (S T : System O) → S.State → T.State → Type 0
Follows {O} S T s t = (answers : List O.Answer) (n : ℕ) → (m : ℕ) × Alike S T (run S n s answers) (run T m t answers)

-- the runs from two states agree: each follows the other
pub record Agree {O : Outside} (S T : System O) (s : S.State) (t : T.State) : Type 0 where
  pub there : Follows S T s t
  pub back : Follows T S t s

-- k steps from t to u, each from a moving state
abbrev pub Silent : {O : Outside} (T : System O) → ℕ → T.State → T.State → Type 0
Silent T zero t u = t ≡ u
Silent T (suc k) t u = (v : T.State) × (T.status t ≡ Moving) × (T.step t ≡ Some v) × Silent T k v u

-- The law of one step, of a matching of states. Matching states are seen alike. A step of the first is one or more
-- steps of the second, of which only the last may lead to a wait or an end; they lead to matching states. Where the
-- first is moving and has no step, neither has the second. What the two go on to with the same answer is matched, after
-- further steps of the second.
pub record StepLaw {O : Outside} (S T : System O) (Matches : S.State → T.State → Type 0) : Type 0 where
  pub status : (s : S.State) (t : T.State) → Matches s t → T.status t ≡ S.status s
  pub memory : (s : S.State) (t : T.State) → Matches s t → T.memory t ≡ S.memory s
  pub steps : (s s' : S.State) (t : T.State) → Matches s t → S.status s ≡ Moving → S.step s ≡ Some s'
      → (k : ℕ) × (t' : T.State) × Silent T (suc k) t t' × Matches s' t'
  pub stuck : (s : S.State) (t : T.State) → Matches s t → S.status s ≡ Moving → S.step s ≡ None → T.step t ≡ None
  pub answers : (s : S.State) (t : T.State) (call : O.Call) (answer : O.Answer) → Matches s t → S.status s ≡ Waits call
      → IsTrue (O.fits call (S.memory s) answer) → (k : ℕ) × (t' : T.State) × Silent T k (T.take answer t) t' × Matches (S.take answer s) t'
