use Rattle.std.proofs.Common.{◌≡◌, drop}
use Rattle.clap.specs.Words.{app_of}
use Rattle.dyl_words.specs.Clap.{with_options}
use Rattle.dyl_words.proofs.matching.with_options.Given as goal

abbrev pub invariant-loop-option : goal.invariant-loop-option
invariant-loop-option l = with_options (drop l.option-index l.options) (app_of l.command) ≡ with_options l.options (app_of l.fn.command)
