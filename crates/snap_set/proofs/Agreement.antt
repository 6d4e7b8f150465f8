-- A run that begins in the middle of another agrees with it.
use Rattle.std.proofs.Common.{◌≡◌, ℕ, Some, refl, sym, ◌∙◌}
use Rattle.spec_loading.specs.spec_runs.Systems.{Outside, Moving, System}
use Rattle.spec_loading.specs.spec_runs.Agreement.{Follows, Agree, Silent, StepLaw}
use Rattle.spec_loading.proofs.of_spec_runs.Simulation.{agree, agree_after}

pub agree_sym : {O : Outside} (S T : System O) (s : S.State) (t : T.State) → Agree S T s t → Agree T S t s
agree_sym S T s t a = record { there = a.back; back = a.there }

follows_trans : {O : Outside} (S T U : System O) (s : S.State) (t : T.State) (u : U.State) → Follows S T s t → Follows T U t u → Follows S U s u
follows_trans S T U s t u a b = λ answers n.
    let i = a answers n in
    let j = b answers i.0 in (
      j.0,
      record {
        events = i.1.events ∙ j.1.events;
        seen = λ ends. (
            let x = i.1.seen ends in
            let y = j.1.seen (λ e. ends (sym x.0 ∙ e)) in
            (y.0 ∙ x.0, y.1 ∙ x.1));
      },
    )

agree_trans : {O : Outside} (S T U : System O) (s : S.State) (t : T.State) (u : U.State) → Agree S T s t → Agree T U t u → Agree S U s u
agree_trans S T U s t u a b = record { there = follows_trans S T U s t u a.there b.there; back = follows_trans U T S u t s b.back a.back }

-- agreement with where the first's silent steps lead is agreement with where they begin
agree_before : {O : Outside} (S T : System O) (s0 s : S.State) (t : T.State) (k : ℕ) → T.status t ≡ Moving → Silent S k s0 s → Agree S T s t → Agree S T s0 t
agree_before S T s0 s t k ready silent a = agree_sym T S t s0 (agree_after T S t s0 s k ready silent (agree_sym S T s t a))

-- s is where silent steps lead from s0; the first step from t0 leads to what matches s
pub begun_agrees : {O : Outside} (S T : System O) (Matches : S.State → T.State → Type 0) → StepLaw S T Matches
    → (s0 s : S.State) (k : ℕ) → Silent S k s0 s → S.status s ≡ Moving → (t0 t1 : T.State) → T.status t0 ≡ Moving → T.step t0 ≡ Some t1
    → Matches s t1 → Agree S T s0 t0
begun_agrees S T Matches law s0 s k silent moving t0 t1 ready step matched =
    let first : Agree S T s t1 = agree S T Matches law s t1 matched in
    let second : Agree S T s t0 = agree_after S T s t0 t1 1 moving (t1, ready, step, refl) first in
    agree_before S T s0 s t0 k ready silent second

-- two runs that agree with one agree
pub agree_both : {O : Outside} (S T U : System O) (s : S.State) (t : T.State) (u : U.State) → Agree S T s t → Agree S U s u → Agree T U t u
agree_both S T U s t u a b = agree_trans T S U t s u (agree_sym S T s t a) b
