-- The lines of a board's programs.
use Rattle.std.proofs.Common.{rules, ◌≡◌, ℕ, ◌+◌, true, false, true≢false, ◌||◌, List, [], ◌∷◌, ◌++◌, Option, Some, None, IsSome, is_some, unwrap_or, option_map, refl, sym, ap, ◌∙◌, append_assoc, append-nil}
use Rattle.std.specs.List.{list_any}
use Rattle.spec_traces.specs.spec_hosts.declared.ran.Ran.{Ran}
use Rattle.dyl_front.specs.Lines.{end_text, line_with, program_text, program_line, both_lines, board_lines}

is_some_mapped : {A B : Type 0} (f : A → B) (r : Option A) → is_some (option_map f r) ≡ is_some r
is_some_mapped f None = refl
is_some_mapped f (Some x) = refl

is_some_both : (a b : Option (List ℕ)) → is_some (both_lines a b) ≡ (is_some a || is_some b)
is_some_both None b = refl
is_some_both (Some x) None = refl
is_some_both (Some x) (Some y) = refl

-- there are lines where anything is told of a program
are_lines : (p : ℕ) (runs : List Ran) → list_any (λ (r : Ran). is_some (end_text r.end)) runs ≡ is_some (board_lines p runs)
are_lines p [] = refl
are_lines p (r ∷ rs) = ap (λ b. is_some (end_text r.end) || b) (are_lines (p + 1) rs)
    ∙ ap (λ b. b || is_some (board_lines (p + 1) rs)) (sym (is_some_mapped (λ text. line_with (program_text p text)) (end_text r.end)))
    ∙ sym (is_some_both (program_line p r.end) (board_lines (p + 1) rs))

some_by : {A : Type 0} (r : Option A) → is_some r ≡ true → IsSome r
some_by None h = absurd (true≢false (sym h))
some_by (Some x) h = search rules

none_by : {A : Type 0} (r : Option A) → is_some r ≡ false → r ≡ None
none_by None h = refl
none_by (Some x) h = absurd (true≢false h)

pub lines_told : (runs : List Ran) → list_any (λ (r : Ran). is_some (end_text r.end)) runs ≡ true → IsSome (board_lines 0 runs)
lines_told runs h = some_by (board_lines 0 runs) (sym (are_lines 0 runs) ∙ h)

pub no_lines : (runs : List Ran) → list_any (λ (r : Ran). is_some (end_text r.end)) runs ≡ false → board_lines 0 runs ≡ None
no_lines runs h = none_by (board_lines 0 runs) (sym (are_lines 0 runs) ∙ h)

-- two lines are put one after the other
pub both_put : (old : List ℕ) (a b : Option (List ℕ)) → (old ++ unwrap_or a []) ++ unwrap_or b [] ≡ old ++ unwrap_or (both_lines a b) []
both_put old None b = ap (λ x. x ++ unwrap_or b []) (append-nil old)
both_put old (Some x) None = append-nil (old ++ x)
both_put old (Some x) (Some y) = append_assoc old x y

-- what is made of a text that there is
pub told_put : (f : List ℕ → List ℕ) (text : Option (List ℕ)) → is_some text ≡ true → unwrap_or (option_map f text) [] ≡ f (unwrap_or text [])
told_put f None h = absurd (true≢false (sym h))
told_put f (Some t) h = refl
