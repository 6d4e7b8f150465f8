use Rattle.dyl_section.proofs.Shortest.{import_module, import_field, import_written}
use Rattle.spec_reading.proofs.of_spec_binary.Joined.{on_ok}
use Rattle.dyl_section.proofs.write.ImportInfoNote.put.Goals as goal

pub put_name-requires : goal.put_name-requires
put_name-requires c = rw c.as_str.ensures (import_module c.args.self.now c.requires)

pub put_name-requires-2 : goal.put_name-requires-2
put_name-requires-2 c = rw c.as_str-2.ensures (import_field c.args.self.now c.requires)

pub returns : goal.returns
returns c =
    let from = rw c.as_str.ensures at c.in_ok-put_name.ensures.ok in
    let field = rw c.as_str-2.ensures at c.in_ok-put_name-2.ensures.ok in
    on_ok c.put_u32.result (import_written c.args.self.now _ c.put_name.new.to.items c.put_name-2.new.to.items _ from field) c.put_u32.ensures.ok
