use Rattle.std.proofs.Common.{◌∙◌, ap, sym}
use Rattle.std.specs.Str.{bytes_eq}
use Rattle.std.specs.Map.{lookup}
use Rattle.host_table.specs.Numbers.{number_in}
use Rattle.host_table.proofs.Entries.{lookup_by_text}
use Rattle.host_table.proofs.numbers.HostNumbers.find.Goals as goal

pub returns-in-Some : goal.returns-in-Some
returns-in-Some c =
    c.find.ensures ∙ ap (number_in c.args.name.now) (c.in-Some.ensures.value ∙ sym (lookup_by_text c.args.from.now c.self.inside.modules.entries) ∙ ap (lookup (bytes_eq c.args.from.now)) c.self.view_is)

pub returns-in-None : goal.returns-in-None
returns-in-None c = ap (number_in c.args.name.now) (c.in-None.ensures.value ∙ sym (lookup_by_text c.args.from.now c.self.inside.modules.entries) ∙ ap (lookup (bytes_eq c.args.from.now)) c.self.view_is)
