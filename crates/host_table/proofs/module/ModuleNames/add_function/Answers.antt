use Rattle.std.proofs.Common.{rules, ◌≡◌, string_bytes, IsTrue}
use Rattle.std.specs.String.{string_eq}
use Rattle.spec_runtime.specs.Names.{has_integers}
use Rattle.host_table.proofs.Entries.{function_added, All-inserted}
use Rattle.host_table.proofs.module.ModuleNames.add_function.Goals as goal

pub returns-clause-ok : goal.returns-clause-ok
returns-clause-ok c =
    let named : string_bytes c.in_ok-key.key ≡ c.args.name.now = search rules in
    function_added c.self.inside.functions.entries c.insert.new.self.entries c.self.inside.rest c.in_ok-key.key c.args.ty c.args.name.now c.args.self.now c.self.view_is c.in_ok-insert.ensures.entries named c.requires.undeclared

pub invariant_of-self-2 : goal.invariant_of-self-2
invariant_of-self-2 c =
    rw c.in_ok-insert.ensures.entries (All-inserted (λ t. IsTrue (has_integers t)) string_eq c.self.inside.functions.entries c.in_ok-key.key c.args.ty c.self.invariant c.requires.integers)
