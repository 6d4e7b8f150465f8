-- What is told of a program on a board is its own run, unless the turns were used up.
use Rattle.std.proofs.Common.{◌≡◌, ◌≢◌, ℕ, Bool, List, refl, sym, subst}
use Rattle.spec_loading.specs.wasm_form.declared.runtime.Answer.{Answer}
use Rattle.spec_loading.specs.spec_runs.Systems.{run}
use Rattle.spec_loading.specs.spec_runtime.Courses.{Course}
use Rattle.spec_hosts.specs.declared.ran.Ran.{Ran}
use Rattle.spec_hosts.specs.declared.ran.RunEnd.{RunEnd}
use Rattle.spec_hosts.specs.declared.ran.RunEnd.TheVariants as end
use Rattle.spec_hosts.specs.Ends.{EndsAs, Makes, RunsTo, taken_by}
use Rattle.spec_boards.specs.Turns.{Place, reached}
use Rattle.spec_boards.specs.BoardRuns.{taken_at, EndsBy, IsRanAs}

module _ (C : Course) (most : ℕ) where
  -- it ends by itself, or by a limit of its own
  ends_own : (used : Bool) (p : Place) (e : RunEnd) → e ≢ end.TurnLimit → EndsBy used C most p e → EndsAs C.system C.deep most p.steps (reached C p).state (taken_at C p) e
  ends_own used p end.TurnLimit not ends = absurd (not refl)
  ends_own used p end.Return not ends = ends
  ends_own used p (end.Exit code) not ends = ends
  ends_own used p (end.Trap why) not ends = ends
  ends_own used p end.StepLimit not ends = ends
  ends_own used p end.DepthLimit not ends = ends
  ends_own used p end.HostCallLimit not ends = ends

  -- the end of a run that made so many steps over these answers
  abbrev Ends : RunEnd → ℕ → List Answer → Type 0
  Ends e n given = EndsAs C.system C.deep most n (run C.system n C.opening given).state (taken_by C.system n C.opening given) e

  pub own_run : (used : Bool) (p : Place) (r : Ran) → IsRanAs used C most p r → r.end ≢ end.TurnLimit → RunsTo C.system C.deep C.opening most r
  own_run used p r is not =
      let made : Makes C.system C.deep C.opening most r.steps p.given = subst (λ n. Makes C.system C.deep C.opening most n p.given) (sym is.steps) is.made in
      let ends : Ends r.end p.steps p.given = ends_own used p r.end not is.ends in
      let here : Ends r.end r.steps p.given = subst (λ n. Ends r.end n p.given) (sym is.steps) ends in
      record {
        made = subst (λ (g : List Answer). Makes C.system C.deep C.opening most r.steps g) (sym is.answers) made;
        ends = subst (λ (g : List Answer). Ends r.end r.steps g) (sym is.answers) here;
      }
