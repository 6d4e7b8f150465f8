use Rattle.std.proofs.Common.{rules, ◌≡◌, Some, sym, ap, subst, ◌∙◌, slice_get, string_bytes, IsTrue}
use Rattle.std.specs.String.{string_eq}
use Rattle.std.proofs.lemmas.Option.{get_or_from_slice_get}
use Rattle.spec_runtime.specs.Names.{has_integers}
use Rattle.host_table.proofs.Entries.{one_copied, All-inserted}
use Rattle.host_table.proofs.module.copy_function.Goals as goal

pub returns-clause-copied : goal.returns-clause-copied
returns-clause-copied c =
    let entry : slice_get c.args.from.now.entries c.args.n ≡ Some (c.in-Some.name.now, c.in-Some.ty.now) = search rules in
    let named : string_bytes c.in_ok-name.name ≡ string_bytes c.in-Some.name.now = search rules in
    one_copied c.args.from.now.entries c.args.to.now.entries c.insert.new.self.entries c.args.n c.in-Some.name.now c.in_ok-name.name c.in-Some.ty.now c.in_ok-ty.ty
    c.requires.unique entry named c.in_ok-ty.ensures c.requires.before c.in_ok-insert.ensures.entries

pub returns-clause-copied_integers : goal.returns-clause-copied_integers
returns-clause-copied_integers c =
    let entry : slice_get c.args.from.now.entries c.args.n ≡ Some (c.in-Some.name.now, c.in-Some.ty.now) = search rules in
    let at = get_or_from_slice_get c.args.from.now.entries c.args.n (c.in-Some.name.now, c.in-Some.ty.now) (c.in-Some.name.now, c.in-Some.ty.now) entry in
    let integers : IsTrue (has_integers c.in_ok-ty.ty) =
    subst (λ t. IsTrue (has_integers t)) (ap (λ e. e.1) at ∙ sym c.in_ok-ty.ensures) (c.requires.integers c.args.n (c.in-Some.name.now, c.in-Some.ty.now) c.requires.there) in
    rw c.in_ok-insert.ensures.entries (All-inserted (λ t. IsTrue (has_integers t)) string_eq c.args.to.now.entries c.in_ok-name.name c.in_ok-ty.ty c.requires.before_integers integers)
