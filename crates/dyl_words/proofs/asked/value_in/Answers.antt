use Rattle.std.proofs.Common.{rules, ◌≡◌, List, ℕ, subst, true, false, IfOk, IfErr}
use Rattle.dyl_words.specs.Words.{is_right, first_of, option_word}
use Rattle.dyl_words.specs.Clap.{texts_in, values_in}
use Rattle.dyl_words.specs.Shown.{text_in}
use Rattle.dyl_words.specs.declared.asked.AskFault.TheVariants as faults
use Rattle.dyl_words.proofs.Asking.{got}
use Rattle.clap.specs.Matches.{found_of}
use Rattle.clap.specs.Words.{rows_of}
use Rattle.dyl_words.proofs.asked.value_in.Goals as goal

pub returns-clause-right : goal.returns-clause-right
returns-clause-right c =
    let is : texts_in c.get_raw.result ≡ values_in (rows_of (found_of c.args.matches.now)) c.args.option = got c.get_raw.result (found_of c.args.matches.now) (option_word c.args.option) (search rules) in
    subst (λ (xs : List (List ℕ)). IfOk c.only.result (λ v. (is_right xs ≡ true) × (first_of xs ≡ text_in v))) is c.only.ensures.right

pub returns-clause-wrong : goal.returns-clause-wrong
returns-clause-wrong c =
    let is : texts_in c.get_raw.result ≡ values_in (rows_of (found_of c.args.matches.now)) c.args.option = got c.get_raw.result (found_of c.args.matches.now) (option_word c.args.option) (search rules) in
    subst (λ (xs : List (List ℕ)). IfErr c.only.result (λ e. (e ≡ faults.Words) × (is_right xs ≡ false))) is c.only.ensures.wrong
