use Rattle.std.proofs.Common.{◌≤◌, subst, sym}
use Rattle.wasm_form.specs.declared.module.Module.{Module}
use Rattle.spec_reading.specs.spec_binary.WellFormed.{IsWellFormed}
use Rattle.wasm_encode.specs.Weight.{weight}
use Rattle.dyl_section.specs.declared.record.Dylink.{Dylink}
use Rattle.dyl_section.specs.Written.{IsWritable, IsWritten}
use Rattle.dyl_gen.proofs.Formed.{further_formed}
use Rattle.dyl_gen.proofs.Light.{further_light}
use Rattle.dyl_gen.proofs.Records.{no_dylink_writable, further_note}
use Rattle.dyl_gen.proofs.member.further_file.Goals as goal

pub write_dylink-requires : goal.write_dylink-requires
write_dylink-requires c = subst IsWritable (sym c.no_dylink-dylink.ensures) no_dylink_writable

pub encoded-bytes-requires-clause-formed : goal.encoded-bytes-requires-clause-formed
encoded-bytes-requires-clause-formed c = subst IsWellFormed (sym c.in_ok-module.ensures) (further_formed c.in_ok-note.note.items)

pub encoded-bytes-requires-clause-light : goal.encoded-bytes-requires-clause-light
encoded-bytes-requires-clause-light c =
    let written = subst (λ (d : Dylink). IsWritten d c.in_ok-note.note.items) c.no_dylink-dylink.ensures c.in_ok-note.ensures.written in
    subst (λ (m : Module). weight m ≤ 496) (sym c.in_ok-module.ensures) (further_light c.in_ok-note.note.items (further_note c.in_ok-note.note.items written))
