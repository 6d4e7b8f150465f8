use Rattle.std.proofs.Common.{rules, ◌≡◌, string_bytes}
use Rattle.host_table.proofs.NumberEntries.{text_added}
use Rattle.host_table.proofs.numbers.HostNumbers.add_module.Goals as goal

pub returns-clause-ok : goal.returns-clause-ok
returns-clause-ok c =
    let named : string_bytes c.in_ok-key.key ≡ c.args.from.now = search rules in
    text_added c.self.inside.modules.entries c.insert.new.self.entries c.in_ok-key.key c.args.names c.args.from.now c.args.self.now c.self.view_is c.in_ok-insert.ensures.entries named c.requires.new
