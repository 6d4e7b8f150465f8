use Rattle.std.proofs.Common.{sym, ap, List, ℕ, Option}
use Rattle.replay_text.proofs.FromStd.{cut_found, cut_missing}
use Rattle.replay_text.proofs.words.first_word.Goals as goal

pub returns-in-Some-clause-word : goal.returns-in-Some-clause-word
returns-in-Some-clause-word c = ap (λ (p : List ℕ × Option (List ℕ)). p.0) (sym (cut_found c.args.text.now c.in-Some.word c.in-Some.rest c.in-Some.ensures.cases))

pub returns-in-Some-clause-behind : goal.returns-in-Some-clause-behind
returns-in-Some-clause-behind c = ap (λ (p : List ℕ × Option (List ℕ)). p.1) (sym (cut_found c.args.text.now c.in-Some.word c.in-Some.rest c.in-Some.ensures.cases))

pub returns-in-None-clause-word : goal.returns-in-None-clause-word
returns-in-None-clause-word c = ap (λ (p : List ℕ × Option (List ℕ)). p.0) (sym (cut_missing c.args.text.now c.in-None.ensures.cases))

pub returns-in-None-clause-behind : goal.returns-in-None-clause-behind
returns-in-None-clause-behind c = ap (λ (p : List ℕ × Option (List ℕ)). p.1) (sym (cut_missing c.args.text.now c.in-None.ensures.cases))
