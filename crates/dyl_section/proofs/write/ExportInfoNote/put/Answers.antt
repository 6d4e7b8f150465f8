use Rattle.dyl_section.proofs.Shortest.{export_name, export_written}
use Rattle.spec_reading.proofs.of_spec_binary.Joined.{on_ok}
use Rattle.dyl_section.proofs.write.ExportInfoNote.put.Goals as goal

pub put_name-requires : goal.put_name-requires
put_name-requires c = rw c.as_str.ensures (export_name c.args.self.now c.requires)

pub returns : goal.returns
returns c =
    let name = rw c.as_str.ensures at c.in_ok-put_name.ensures.ok in
    on_ok c.put_u32.result (export_written c.args.self.now _ c.put_name.new.to.items _ name) c.put_u32.ensures.ok
