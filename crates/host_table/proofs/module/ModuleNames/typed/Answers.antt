use Rattle.std.proofs.Common.{◌∙◌, ap, sym, string_bytes}
use Rattle.std.specs.Bool.{IsTrue}
use Rattle.std.specs.Str.{bytes_eq}
use Rattle.std.specs.Map.{lookup}
use Rattle.std.proofs.lemmas.Map.Entries.{All-lookup}
use Rattle.spec_runtime.specs.Names.{has_integers}
use Rattle.host_table.proofs.Entries.{lookup_by_text}
use Rattle.host_table.proofs.module.ModuleNames.typed.Goals as goal

pub returns-clause-value : goal.returns-clause-value
returns-clause-value c = c.get.ensures.value ∙ sym (lookup_by_text c.args.name.now c.self.inside.functions.entries) ∙ ap (λ m. lookup (bytes_eq c.args.name.now) m.functions) c.self.view_is

pub returns-clause-integers : goal.returns-clause-integers
returns-clause-integers c = rw c.get.ensures.value (All-lookup (λ t. IsTrue (has_integers t)) (λ k. bytes_eq c.args.name.now (string_bytes k)) c.self.inside.functions.entries c.self.invariant)
