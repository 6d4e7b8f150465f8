use Rattle.std.proofs.Common.{◌∙◌, ◌++◌, ◌∷◌, [], ap, sym}
use Rattle.std.specs.Str.{bytes_eq}
use Rattle.std.specs.Map.{lookup}
use Rattle.host_table.specs.Names.{by_text}
use Rattle.host_table.specs.Numbers.{number_in}
use Rattle.host_table.proofs.Entries.{lookup_by_text, on_ok, on_err}
use Rattle.host_table.proofs.NumberEntries.{text_kept, number_last, number_added}
use Rattle.host_table.proofs.numbers.HostNumbers.add.Goals as goal

pub add-requires : goal.add-requires
add-requires c = record {
  new = ap (number_in c.args.name.now) (c.in-Some.ensures.value ∙ sym (lookup_by_text c.args.from.now c.self.inside.modules.entries) ∙ ap (lookup (bytes_eq c.args.from.now)) c.self.view_is)
      ∙ c.requires.new;
}

pub add_module-requires : goal.add_module-requires
add_module-requires c = record {
  new = ap (λ m. lookup (bytes_eq c.args.from.now) (by_text m.entries)) c.get_mut.follows.holds-at-none
      ∙ lookup_by_text c.args.from.now c.self.inside.modules.entries ∙ sym c.in-None.ensures.value;
}

pub returns-in-Some-clause-ok : goal.returns-in-Some-clause-ok
returns-in-Some-clause-ok c =
    let w = c.add.new.self in
    on_ok c.add.result
    (λ added. number_added c.args.from.now c.args.name.now c.args.number c.self.inside.modules.entries (c.get_mut.follows.lender w).entries w c.in-Some.names.now c.args.self.now
    c.self.view_is (c.get_mut.follows.holds w).0 (sym c.in-Some.ensures.value) added)
    c.add.ensures.ok

pub returns-in-Some-clause-err : goal.returns-in-Some-clause-err
returns-in-Some-clause-err c =
    let w = c.add.new.self in
    on_err c.add.result
    (λ same. text_kept c.args.from.now c.self.inside.modules.entries (c.get_mut.follows.lender w).entries w c.in-Some.names.now c.args.self.now
    c.self.view_is (c.get_mut.follows.holds w).0 (sym c.in-Some.ensures.value) same)
    c.add.ensures.err

pub returns-in_ok-names-in-None-clause-ok : goal.returns-in_ok-names-in-None-clause-ok
returns-in_ok-names-in-None-clause-ok c =
    let from = c.args.from.now in
    let none = sym (ap (lookup (bytes_eq from)) c.self.view_is) ∙ lookup_by_text from c.self.inside.modules.entries ∙ sym c.in-None.ensures.value in
    on_ok c.add_module.result
    (λ added. added
    ∙ ap (λ m. by_text m.entries ++ (from, c.in_ok-names-in-None.names) ∷ []) c.get_mut.follows.holds-at-none
    ∙ (λ i. c.self.view_is i ++ (from, c.in_ok-names-in-None.ensures i) ∷ [])
    ∙ number_last from c.args.name.now c.args.number c.args.self.now none)
    c.add_module.ensures.ok
