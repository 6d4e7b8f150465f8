use Rattle.std.proofs.Common.{◌≡◌, ◌∙◌, ap, ◌||◌, refl, string_bytes, rules}
use Rattle.std.specs.String.{string_eq}
use Rattle.spec_loading.specs.spec_linking.Definitions.{is_one_of}
use Rattle.std.specs.Str.{bytes_eq}
use Rattle.dyl_imports.proofs.Noted.{one_more}
use Rattle.dyl_imports.proofs.weak.WeakNames.add.Goals as goal

pub returns : goal.returns
returns c = λ other.
    let named : string_bytes c.in_ok-key.key ≡ c.args.name.now = search rules in
    one_more string_eq (λ x y. refl) c.self.inside.names.keys c.insert.new.self.keys c.in_ok-key.key c.args.name.now other c.in_ok-insert.ensures.keys named
    ∙ ap (λ ns. is_one_of other ns || bytes_eq c.args.name.now other) c.self.view_is
