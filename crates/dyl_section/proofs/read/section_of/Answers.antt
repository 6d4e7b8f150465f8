use Rattle.std.proofs.Common.{◌∙◌, sym}
use Rattle.std.proofs.lemmas.Slice.Eq.{bytes_eq-Decides}
use Rattle.dyl_section.proofs.Found.{section_in}
use Rattle.dyl_section.proofs.read.section_of.Goals as goal

pub returns-then-eq-clause-found : goal.returns-then-eq-clause-found
returns-then-eq-clause-found c =
    section_in c.args.m.now c.items.result.now c.custom-item.result c.items-then-eq.result.now c.items.ensures c.in-len1-up.len_at_least c.custom-item.is c.if-custom-eq0.true
    (sym c.as_str.ensures ∙ (bytes_eq-Decides _ _).0 (sym c.if-eq.ensures)) c.items-then-eq.ensures
