use Rattle.std.proofs.Common.{◌∙◌, ap, sym}
use Rattle.std.specs.Str.{bytes_eq}
use Rattle.std.specs.Map.{lookup}
use Rattle.dyl_scope.specs.Definers.{by_text, with_definer}
use Rattle.dyl_scope.proofs.Noted.{members_by_text, definer_noted, on_ok}
use Rattle.dyl_scope.proofs.definers.Definers.add.Goals as goal

pub add_name-requires : goal.add_name-requires
add_name-requires c = record {
  new = ap (λ d. lookup (bytes_eq c.args.name.now) (by_text d.entries)) c.get_mut.follows.holds-at-none
      ∙ members_by_text c.args.name.now c.self.inside.members.entries ∙ sym c.in-None.ensures.value;
}

pub returns-in-Some : goal.returns-in-Some
returns-in-Some c =
    let w = c.add.new.self in
    on_ok c.add.result
    (λ added. definer_noted c.args.name.now c.args.m c.self.inside.members.entries (c.get_mut.follows.lender w).entries w c.in-Some.members.now c.args.self.now
    c.self.view_is (c.get_mut.follows.holds w).0 (sym c.in-Some.ensures.value) added)
    c.add.ensures.added

pub returns-in-None : goal.returns-in-None
returns-in-None c =
    on_ok c.add_name.result
    (λ added. added
    ∙ ap (λ d. with_definer c.args.name.now c.args.m (by_text d.entries)) c.get_mut.follows.holds-at-none
    ∙ ap (with_definer c.args.name.now c.args.m) c.self.view_is)
    c.add_name.ensures
