use Rattle.std.proofs.Common.{arith, ◌≡◌, ℕ, List, [], ◌∷◌, length, get_or, refl, sym, subst}
use Rattle.std.specs.Prelude.{IfOk}
use Rattle.spec_hosts.specs.Calls as calls
use Rattle.host_wasi.specs.Wants.{wanted_by, meant}
use Rattle.host_wasi.proofs.want.want_of_call.Goals as goal

three : (ns : List ℕ) → length ns ≡ 3 → ns ≡ get_or ns 0 0 ∷ get_or ns 1 0 ∷ get_or ns 2 0 ∷ []
three (a ∷ b ∷ c ∷ []) h = refl
three [] h = absurd (omega arith)
three (a ∷ []) h = absurd (omega arith)
three (a ∷ b ∷ []) h = absurd (omega arith)
three (a ∷ b ∷ c ∷ d ∷ ns) h = absurd (omega arith)

four : (ns : List ℕ) → length ns ≡ 4 → ns ≡ get_or ns 0 0 ∷ get_or ns 1 0 ∷ get_or ns 2 0 ∷ get_or ns 3 0 ∷ []
four (a ∷ b ∷ c ∷ d ∷ []) h = refl
four [] h = absurd (omega arith)
four (a ∷ []) h = absurd (omega arith)
four (a ∷ b ∷ []) h = absurd (omega arith)
four (a ∷ b ∷ c ∷ []) h = absurd (omega arith)
four (a ∷ b ∷ c ∷ d ∷ e ∷ ns) h = absurd (omega arith)

pub returns-in-len3 : goal.returns-in-len3
returns-in-len3 c =
    let all : length c.args.args.now ≡ 3 = omega arith in
    subst (λ (ns : List ℕ). IfOk c.want_three.result (λ w. wanted_by w ≡ calls.wanted_of c.args.texts.now c.args.memory.now (meant c.args.call) ns))
    (sym (three c.args.args.now all))
    (c.want_three.ensures c.args.texts.now)

pub returns-in-len4 : goal.returns-in-len4
returns-in-len4 c =
    let all : length c.args.args.now ≡ 4 = omega arith in
    subst (λ (ns : List ℕ). IfOk c.want_four.result (λ w. wanted_by w ≡ calls.wanted_of c.args.texts.now c.args.memory.now (meant c.args.call) ns))
    (sym (four c.args.args.now all))
    (c.want_four.ensures c.args.texts.now)
