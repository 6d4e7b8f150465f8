use Rattle.dyl_gen.proofs.Gathered.{never_refused, is_of_set}
use Rattle.dyl_gen.proofs.Counts.{is_small}
use Rattle.dyl_gen.proofs.Linked.{links_by_pages, links_within_pages}
use Rattle.dyl_gen.proofs.Pages.{needs_three}
use Rattle.dyl_gen.proofs.laws.generated_set_links.Goals as goal

pub returns-clause-gathered : goal.returns-clause-gathered
returns-clause-gathered c = λ n files why some few all is. never_refused n files some few all why is

pub returns-clause-small : goal.returns-clause-small
returns-clause-small c = λ n files S some few all is. is_small n some few S (is_of_set n files some few all S is)

pub returns-clause-pages : goal.returns-clause-pages
returns-clause-pages c = λ n files S names link some few all is can may. links_by_pages n some few S (is_of_set n files some few all S is) link names can may

pub returns-clause-links : goal.returns-clause-links
returns-clause-links c =
    λ n files S names link fault some few all is can may found. links_within_pages n some few S (is_of_set n files some few all S is) link names can fault may found

pub returns-clause-three : goal.returns-clause-three
returns-clause-three c = λ n files S names link some few all is can may stack. needs_three n some few S (is_of_set n files some few all S is) link names can may stack
