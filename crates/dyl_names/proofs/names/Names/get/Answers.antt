use Rattle.std.proofs.Common.{◌∙◌, ap}
use Rattle.std.specs.Map.{lookup}
use Rattle.std.specs.Str.{bytes_eq}
use Rattle.dyl_names.specs.Names.{maybe_symbol}
use Rattle.dyl_names.proofs.Entries.{lookup_by_bytes}
use Rattle.dyl_names.proofs.names.Names.get.Goals as goal

pub returns : goal.returns
returns c = ap maybe_symbol (c.copied.ensures ∙ c.get.ensures.value) ∙ lookup_by_bytes c.args.name.now c.self.inside.symbols.entries ∙ ap (lookup (bytes_eq c.args.name.now)) c.self.view_is
