use Rattle.std.proofs.Common.{Err}
use Rattle.spec_linking.specs.Records.{none}
use Rattle.dyl_section.proofs.RecordRead.{record_read, record_yields}
use Rattle.spec_linking.specs.declared.fault.RecordFault.TheVariants as faults
use Rattle.dyl_section.proofs.read.read_dylink.Goals as goal

pub returns-in-Some-clause-answer : goal.returns-in-Some-clause-answer
returns-in-Some-clause-answer c = record_read c.args.m.now c.in-Some.bytes.now c.subsections_of.result c.in-Some.ensures.found c.subsections_of.ensures

pub returns-in-Some-clause-only : goal.returns-in-Some-clause-only
returns-in-Some-clause-only c = record_yields c.args.m.now c.subsections_of.result (record_read c.args.m.now c.in-Some.bytes.now c.subsections_of.result c.in-Some.ensures.found c.subsections_of.ensures)

pub returns-in-None-clause-answer : goal.returns-in-None-clause-answer
returns-in-None-clause-answer c = none c.in-None.ensures.none

pub returns-in-None-clause-only : goal.returns-in-None-clause-only
returns-in-None-clause-only c = record_yields c.args.m.now (Err faults.NoDylink) (none c.in-None.ensures.none)
