use Rattle.dyl_commands.proofs.MergedFiles.{opens, one_answer, run}
use Rattle.dyl_commands.proofs.laws.merged_files_run.Goals as goal

pub returns : goal.returns
returns c = record { opens = opens; run = run (one_answer c.reading_answers.ensures) }
