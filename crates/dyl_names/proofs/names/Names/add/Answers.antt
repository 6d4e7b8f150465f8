use Rattle.std.proofs.Common.{rules, ◌≡◌, string_bytes}
use Rattle.dyl_names.proofs.Entries.{symbol_added}
use Rattle.dyl_names.proofs.names.Names.add.Goals as goal

pub returns-clause-ok : goal.returns-clause-ok
returns-clause-ok c =
    let named : string_bytes c.in_ok-key.key ≡ c.args.name.now = search rules in
    symbol_added c.self.inside.symbols.entries c.insert.new.self.entries c.in_ok-key.key c.args.symbol c.args.name.now c.args.self.now c.self.view_is c.in_ok-insert.ensures.entries named c.requires.new
