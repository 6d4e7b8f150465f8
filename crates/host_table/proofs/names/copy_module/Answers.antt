use Rattle.std.proofs.Common.{rules, ◌≡◌, Some, slice_get, string_bytes}
use Rattle.host_table.proofs.Entries.{one_copied}
use Rattle.host_table.proofs.names.copy_module.Goals as goal

pub returns : goal.returns
returns c =
    let entry : slice_get c.args.from.now.entries c.args.n ≡ Some (c.in-Some.name.now, c.in-Some.names.now) = search rules in
    let named : string_bytes c.in_ok-name.name ≡ string_bytes c.in-Some.name.now = search rules in
    one_copied c.args.from.now.entries c.args.to.now.entries c.insert.new.self.entries c.args.n c.in-Some.name.now c.in_ok-name.name c.in-Some.names.now c.in_ok-names.names
    c.requires.unique entry named c.in_ok-names.ensures c.requires.before c.in_ok-insert.ensures.entries
