use Rattle.std.proofs.Common.{◌∙◌, ap, sym, string_bytes}
use Rattle.std.specs.Map.{lookup}
use Rattle.std.specs.Str.{bytes_eq}
use Rattle.spec_runtime.specs.Names.{HostModule, with_function}
use Rattle.host_table.specs.Names.{by_text, TypesHaveIntegers}
use Rattle.host_table.proofs.Entries.{All-changed, lookup_by_text, module_changed, module_unchanged, on_ok, on_err}
use Rattle.host_table.proofs.names.HostNames.declare.Goals as goal

pub add_module-requires : goal.add_module-requires
add_module-requires c = record {
  new = ap (λ m. lookup (bytes_eq c.args.from.now) (by_text m.entries)) c.get_mut.follows.holds-at-none
      ∙ lookup_by_text c.args.from.now c.self.inside.modules.entries ∙ sym c.in-None.ensures.value;
}

pub returns-in-Some-clause-ok : goal.returns-in-Some-clause-ok
returns-in-Some-clause-ok c =
    let w = c.declare-declared.new.self in
    on_ok c.declare-declared.result
    (λ changed. module_changed (with_function c.args.name.now c.args.ty) c.args.from.now c.self.inside.modules.entries (c.get_mut.follows.lender w).entries w c.in-Some.names.now c.args.self.now
    c.self.view_is (c.get_mut.follows.holds w).0 (sym c.in-Some.ensures.value) changed)
    c.declare-declared.ensures.ok

pub returns-in-Some-clause-err : goal.returns-in-Some-clause-err
returns-in-Some-clause-err c =
    let w = c.declare-declared.new.self in
    on_err c.declare-declared.result
    (λ same. module_unchanged c.args.from.now c.self.inside.modules.entries (c.get_mut.follows.lender w).entries w c.in-Some.names.now c.args.self.now
    c.self.view_is (c.get_mut.follows.holds w).0 (sym c.in-Some.ensures.value) same)
    c.declare-declared.ensures.err

pub invariant_of-self : goal.invariant_of-self
invariant_of-self c =
    let w = c.declare-declared.new.self in
    rw (c.get_mut.follows.holds w).0
    (All-changed (λ (m : HostModule). TypesHaveIntegers m.functions) (λ k. bytes_eq c.args.from.now (string_bytes k)) c.self.inside.modules.entries w c.self.invariant c.integers.ensures)
