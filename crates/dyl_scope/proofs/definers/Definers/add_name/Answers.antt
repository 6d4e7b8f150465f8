use Rattle.std.proofs.Common.{rules, ◌≡◌, string_bytes}
use Rattle.dyl_scope.proofs.Noted.{name_added}
use Rattle.dyl_scope.proofs.definers.Definers.add_name.Goals as goal

pub returns : goal.returns
returns c =
    let named : string_bytes c.push_str.new.self ≡ c.args.name.now = search rules in
    name_added c.self.inside.members.entries c.insert.new.self.entries c.push_str.new.self c.in_ok-members.members c.args.name.now c.args.m c.args.self.now
    c.self.view_is c.in_ok-insert.ensures.entries named c.in_ok-members.ensures c.requires.new
