use Rattle.std.proofs.Common.{rules, ◌≡◌, ◌∙◌, List, ℕ, Bor, map, length, ap, sym, Some, None, true, false, codes}
use Rattle.std.proofs.lemmas.List.{length-map}
use Rattle.dyl_words.specs.Words.{takes_plain}
use Rattle.dyl_words.specs.Clap.{texts_in, words_in}
use Rattle.dyl_words.proofs.Asking.{got, none_taken}
use Rattle.clap.specs.Matches.{found_of}
use Rattle.clap.specs.Words.{rows_of}
use Rattle.dyl_words.proofs.asked.plain_in.Goals as goal

pub returns-in_default-clause-wrong : goal.returns-in_default-clause-wrong
returns-in_default-clause-wrong c =
    let is : texts_in c.get_raw.result ≡ words_in (rows_of (found_of c.args.matches.now)) = got c.get_raw.result (found_of c.args.matches.now) (codes "words") (search rules) in
    let none : c.get_raw.result ≡ None = search rules in
    λ w. ap (λ (xs : List (List ℕ)). takes_plain c.args.command (length xs)) (sym is ∙ ap texts_in none) ∙ none_taken c.args.command

pub returns-then-not-takes_plain-clause-wrong : goal.returns-then-not-takes_plain-clause-wrong
returns-then-not-takes_plain-clause-wrong c =
    let is : texts_in c.get_raw.result ≡ words_in (rows_of (found_of c.args.matches.now)) = got c.get_raw.result (found_of c.args.matches.now) (codes "words") (search rules) in
    let some : c.get_raw.result ≡ Some c.in-Some.words = search rules in
    let fails : takes_plain c.args.command (length c.in-Some.words.now) ≡ false = search rules in
    λ w. ap (λ (xs : List (List ℕ)). takes_plain c.args.command (length xs)) (sym is ∙ ap texts_in some) ∙ ap (takes_plain c.args.command) (length-map c.in-Some.words.now (λ (t : Bor (List ℕ)). t.now)) ∙ fails

pub returns-clause-right : goal.returns-clause-right
returns-clause-right c =
    let is : texts_in c.get_raw.result ≡ words_in (rows_of (found_of c.args.matches.now)) = got c.get_raw.result (found_of c.args.matches.now) (codes "words") (search rules) in
    let some : c.get_raw.result ≡ Some c.in-Some.words = search rules in
    let passes : takes_plain c.args.command (length c.in-Some.words.now) ≡ true = search rules in
    let copied : c.in_ok-from_slice.field-0.items ≡ c.in-Some.words.now = search rules in (
      ap (λ (xs : List (List ℕ)). takes_plain c.args.command (length xs)) (sym is ∙ ap texts_in some) ∙ ap (takes_plain c.args.command) (length-map c.in-Some.words.now (λ (t : Bor (List ℕ)). t.now)) ∙ passes,
      ap (map (λ (t : Bor (List ℕ)). t.now)) copied ∙ sym (ap texts_in some) ∙ is,
    )
