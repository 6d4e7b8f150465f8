use Rattle.std.proofs.Common.{◌∙◌, [], ap, sym, unwrap_or}
use Rattle.std.specs.Str.{bytes_eq}
use Rattle.std.specs.Map.{lookup}
use Rattle.dyl_scope.proofs.Noted.{members_by_text}
use Rattle.dyl_scope.proofs.definers.Definers.get.Goals as goal

pub returns-in-Some : goal.returns-in-Some
returns-in-Some c =
    c.list.ensures ∙ ap (λ o. unwrap_or o []) (c.in-Some.ensures.value ∙ sym (members_by_text c.args.name.now c.self.inside.members.entries) ∙ ap (lookup (bytes_eq c.args.name.now)) c.self.view_is)

pub returns-in-None : goal.returns-in-None
returns-in-None c =
    ap (λ o. unwrap_or o []) (c.in-None.ensures.value ∙ sym (members_by_text c.args.name.now c.self.inside.members.entries) ∙ ap (lookup (bytes_eq c.args.name.now)) c.self.view_is)
