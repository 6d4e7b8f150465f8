-- The items of a list, by its parts.
use Rattle.std.proofs.Common.{◌≡◌, ℕ, true, false, List, [], ◌∷◌, Some, Ok, Err, refl, sym, ap, ◌∙◌, ◌||◌, ◌==◌, map, cond}
use Rattle.std.specs.List.{list_any, slice_split}
use Rattle.std.specs.Borrow.{Bor}
use Rattle.dyl_front.specs.declared.outcome.Opt.{Opt}
use Rattle.dyl_front.specs.declared.outcome.UsageKind.TheVariants.{Name}
use Rattle.dyl_front.specs.Orders.{Text, is_empty, items_of, items_in}

any_map : (xs : List (Bor Text)) → list_any is_empty (map (λ (x : Bor Text). x.now) xs) ≡ list_any (λ x. is_empty x.now) xs
any_map [] = refl
any_map (x ∷ xs) = ap (λ b. is_empty x.now || b) (any_map xs)

module _ (of : Opt) (separator : ℕ) (text : Text) (parts : List (Bor Text)) (cut : map (λ (x : Bor Text). x.now) parts ≡ slice_split (λ b. b == separator) text) where
  items_are : items_in of separator (Some text) ≡ cond (list_any (λ x. is_empty x.now) parts) (Err (Name of)) (Ok (map (λ (x : Bor Text). x.now) parts))
  items_are = ap (items_of of) (sym cut) ∙ ap (λ b. cond b (Err (Name of)) (Ok (map (λ (x : Bor Text). x.now) parts))) (any_map parts)

  pub empty_item : list_any (λ x. is_empty x.now) parts ≡ true → items_in of separator (Some text) ≡ Err (Name of)
  empty_item h = items_are ∙ ap (λ b. cond b (Err (Name of)) (Ok (map (λ (x : Bor Text). x.now) parts))) h

  pub whole_items : list_any (λ x. is_empty x.now) parts ≡ false → (texts : List Text) → texts ≡ map (λ (x : Bor Text). x.now) parts → items_in of separator (Some text) ≡ Ok texts
  whole_items h texts e = items_are ∙ ap (λ b. cond b (Err (Name of)) (Ok (map (λ (x : Bor Text). x.now) parts))) h ∙ ap Ok (sym e)
