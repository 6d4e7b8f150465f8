use Rattle.std.proofs.Common.{◌∙◌, ap, sym, slice_get}
use Rattle.std.specs.Option.{option_map}
use Rattle.dyl_imports.proofs.EachOnce.{typed_host, untyped_host}
use Rattle.dyl_imports.proofs.hosts.Hosts.host_type.Goals as goal

pub returns-in-Some : goal.returns-in-Some
returns-in-Some c =
    c.type_at.ensures
    ∙ ap (λ xs. option_map (λ h. h.ty) (slice_get xs c.in-Some.n)) c.deref.ensures.value
    ∙ typed_host c.self.inside.list.items c.args.self.now c.args.from.now c.args.name.now c.in-Some.n c.self.view_is (sym c.find.ensures ∙ c.in-Some.is)

pub returns-in-None : goal.returns-in-None
returns-in-None c = untyped_host c.args.self.now c.args.from.now c.args.name.now (sym c.find.ensures ∙ c.in-None.is)
