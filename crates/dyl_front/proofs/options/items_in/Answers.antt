use Rattle.std.proofs.Common.{rules, ◌≡◌, ◌∙◌, ◌==◌, ap, ℕ, List, Bor, map, Some, true, false}
use Rattle.std.specs.List.{list_any, slice_split}
use Rattle.dyl_words.specs.Shown.{text_in}
use Rattle.dyl_front.specs.Orders.{is_empty, items_in}
use Rattle.dyl_front.proofs.Items.{empty_item, whole_items}
use Rattle.dyl_front.proofs.options.items_in.Goals as goal

pub returns-then-some_empty : goal.returns-then-some_empty
returns-then-some_empty c =
    let some : c.args.value ≡ Some c.in-Some.text = search rules in
    let cut : map (λ (x : Bor (List ℕ)). x.now) c.in_ok-parts.parts.items ≡ slice_split (λ b. b == c.args.separator) c.in-Some.text.now = search rules in
    let empty : list_any (λ (x : Bor (List ℕ)). is_empty x.now) c.in_ok-parts.parts.items ≡ true = search rules in
    ap (λ v. items_in c.args.option c.args.separator (text_in v)) some ∙ empty_item c.args.option c.args.separator c.in-Some.text.now c.in_ok-parts.parts.items cut empty

pub returns : goal.returns
returns c =
    let some : c.args.value ≡ Some c.in-Some.text = search rules in
    let cut : map (λ (x : Bor (List ℕ)). x.now) c.in_ok-parts.parts.items ≡ slice_split (λ b. b == c.args.separator) c.in-Some.text.now = search rules in
    let whole : list_any (λ (x : Bor (List ℕ)). is_empty x.now) c.in_ok-parts.parts.items ≡ false = search rules in
    let owned : c.in_ok-owned_all.field-0 ≡ map (λ (x : Bor (List ℕ)). x.now) c.in_ok-parts.parts.items = search rules in
    ap (λ v. items_in c.args.option c.args.separator (text_in v)) some ∙ whole_items c.args.option c.args.separator c.in-Some.text.now c.in_ok-parts.parts.items cut whole c.in_ok-owned_all.field-0 owned
