use Rattle.std.proofs.Common.{◌≤◌, subst, sym}
use Rattle.wasm_form.specs.declared.module.Module.{Module}
use Rattle.spec_reading.specs.spec_binary.WellFormed.{IsWellFormed}
use Rattle.wasm_encode.specs.Weight.{weight}
use Rattle.dyl_section.specs.declared.record.Dylink.{Dylink}
use Rattle.dyl_section.specs.Written.{IsWritable, IsWritten}
use Rattle.dyl_gen.proofs.Formed.{member_formed}
use Rattle.dyl_gen.proofs.Light.{member_light}
use Rattle.dyl_gen.proofs.Records.{member_writable, member_note}
use Rattle.dyl_gen.proofs.member.member_file.Goals as goal

pub write_dylink-requires : goal.write_dylink-requires
write_dylink-requires c = subst IsWritable (sym c.in_ok-dylink.ensures) (member_writable c.args.n c.args.k c.requires.member c.requires.few)

pub encoded-bytes-requires-clause-formed : goal.encoded-bytes-requires-clause-formed
encoded-bytes-requires-clause-formed c =
    subst IsWellFormed (sym c.in_ok-module.ensures) (member_formed c.args.n c.args.k c.in_ok-note.note.items c.requires.member c.requires.few)

pub encoded-bytes-requires-clause-light : goal.encoded-bytes-requires-clause-light
encoded-bytes-requires-clause-light c =
    let written = subst (λ (d : Dylink). IsWritten d c.in_ok-note.note.items) c.in_ok-dylink.ensures c.in_ok-note.ensures.written in
    let short = member_note c.args.n c.args.k c.in_ok-note.note.items c.requires.member c.requires.few written in
    subst (λ (m : Module). weight m ≤ 496) (sym c.in_ok-module.ensures)
    (member_light c.args.n c.args.k c.in_ok-note.note.items c.requires.member c.requires.few short)
