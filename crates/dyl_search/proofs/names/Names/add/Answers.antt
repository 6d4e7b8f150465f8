use Rattle.std.proofs.Common.{◌≡◌, ◌∙◌, sym, ap, ◌++◌, ◌∷◌, [], refl, string_bytes, None, position, length, ◌≤◌, arith}
use Rattle.std.specs.String.{string_eq}
use Rattle.spec_linking.specs.Wanted.{is_named, number_of}
use Rattle.dyl_search.specs.Known.{by_text}
use Rattle.spec_linking.proofs.Numbering.{new_last, added, unnumbered, number_new}
use Rattle.dyl_search.proofs.Known.{texts_insert, length_by_text}
use Rattle.dyl_search.proofs.names.Names.add.Goals as goal

-- the new names
known : (c : goal.In_ok-insert) → by_text c.insert.new.self.entries ≡ c.args.self.now ++ record { name = c.args.name.now; needed_by = c.args.needed_by } ∷ []
known c =
    let es = c.self.inside.entries.entries in
    let key = c.in_ok-key.key in
    let name = c.args.name.now in
    let named : string_bytes key ≡ name = c.in_ok-key.ensures in
    let none : position (is_named name) (by_text es) ≡ None = ap (position (is_named name)) c.self.view_is ∙ c.requires.new in
    let last : length (by_text es) ≤ number_of (by_text es) (string_bytes key) = rw named (new_last name (by_text es) none) in
    ap by_text c.in_ok-insert.ensures.entries
    ∙ texts_insert string_eq (λ x y. refl) es key c.args.needed_by last
    ∙ ap (λ n. by_text es ++ record { name = n; needed_by = c.args.needed_by } ∷ []) named
    ∙ ap (λ ds. ds ++ record { name = name; needed_by = c.args.needed_by } ∷ []) c.self.view_is

pub overflow_cast-n : goal.overflow_cast-n
overflow_cast-n c =
    let count = c.len-n.ensures.len ∙ length_by_text c.self.inside.entries.entries ∙ ap length c.self.view_is in
    let few = c.requires.few in
    omega arith

pub returns-clause-known : goal.returns-clause-known
returns-clause-known c = known c ∙ added c.args.needed_by c.args.self.now c.args.name.now (unnumbered c.args.name.now c.args.self.now c.requires.new)

pub returns-clause-number : goal.returns-clause-number
returns-clause-number c =
    let name = c.args.name.now in
    c.len-n.ensures.len ∙ length_by_text c.self.inside.entries.entries ∙ ap length c.self.view_is
    ∙ sym (number_new name c.args.self.now c.args.needed_by c.requires.new) ∙ ap (λ ds. number_of ds name) (sym (known c))
