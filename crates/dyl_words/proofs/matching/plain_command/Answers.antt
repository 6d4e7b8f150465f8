use Rattle.std.proofs.Common.{◌∙◌, ap, ap₂, true}
use Rattle.clap.specs.Words.{App, with_rule}
use Rattle.clap.specs.Simple.{app_of_fields}
use Rattle.dyl_words.proofs.matching.plain_command.Goals as goal

pub returns-clause-app : goal.returns-clause-app
returns-clause-app c =
    c.in_ok-arg.ensures.shape c.words_argument.ensures.local
    ∙ ap₂ with_rule (ap app_of_fields c.disable_help_flag-command.ensures ∙ ap (λ (a : App). record a { top = record a.top { disable_help_flag = true } }) c.new.ensures.app)
    c.words_argument.ensures.rule
