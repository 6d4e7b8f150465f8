use Rattle.std.proofs.Common.{◌∙◌}
use Rattle.test_parts.proofs.Sample.{sample_writable}
use Rattle.test_parts.proofs.tests.records.sample.Goals as goal

pub returns : goal.returns
returns c =
    sample_writable c.in_ok-one_name.field-0 c.in_ok-one_export.field-0 c.in_ok-one_import.field-0 c.of.result
    c.in_ok-one_name.ensures c.in_ok-one_export.ensures c.in_ok-one_import.ensures (c.of.ensures ∙ c.new.ensures.items)
