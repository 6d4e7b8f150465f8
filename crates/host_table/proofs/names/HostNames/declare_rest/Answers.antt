use Rattle.std.proofs.Common.{◌∙◌, ap, sym, string_bytes}
use Rattle.std.specs.Map.{lookup}
use Rattle.std.specs.Str.{bytes_eq}
use Rattle.spec_runtime.specs.Names.{HostModule, with_every_name, with_rest}
use Rattle.host_table.specs.Names.{by_text, TypesHaveIntegers}
use Rattle.host_table.proofs.Entries.{All-changed, lookup_by_text, module_changed, on_ok}
use Rattle.host_table.proofs.names.HostNames.declare_rest.Goals as goal

pub add_module-requires : goal.add_module-requires
add_module-requires c = record {
  new = ap (λ m. lookup (bytes_eq c.args.from.now) (by_text m.entries)) c.get_mut.follows.holds-at-none
      ∙ lookup_by_text c.args.from.now c.self.inside.modules.entries ∙ sym c.in-None.ensures.value;
}

pub returns-in-Some-clause-ok : goal.returns-in-Some-clause-ok
returns-in-Some-clause-ok c =
    let w = c.declare_rest.new.self in
    module_changed with_every_name c.args.from.now c.self.inside.modules.entries (c.get_mut.follows.lender w).entries w c.in-Some.names.now c.args.self.now
    c.self.view_is (c.get_mut.follows.holds w).0 (sym c.in-Some.ensures.value) c.declare_rest.ensures

pub returns-in-None-clause-ok : goal.returns-in-None-clause-ok
returns-in-None-clause-ok c =
    on_ok c.add_module.result
    (λ added. added with_every_name (c.declare_rest-in-None.ensures ∙ ap with_every_name c.new-names.ensures)
    ∙ ap (λ m. with_rest (record { modules = by_text m.entries }) c.args.from.now) c.get_mut.follows.holds-at-none
    ∙ ap (λ n. with_rest n c.args.from.now) c.self.view_is)
    c.add_module.ensures.ok

pub invariant_of-self : goal.invariant_of-self
invariant_of-self c =
    let w = c.declare_rest.new.self in
    rw (c.get_mut.follows.holds w).0
    (All-changed (λ (m : HostModule). TypesHaveIntegers m.functions) (λ k. bytes_eq c.args.from.now (string_bytes k)) c.self.inside.modules.entries w c.self.invariant c.integers.ensures)
