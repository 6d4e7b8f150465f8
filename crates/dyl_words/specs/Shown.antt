-- What was read, as the definitions have it.
-- Serves the contracts of this crate, which follow Words of `dyl_words`.
use Rattle.std.specs.Prelude.{List, ℕ, map, option_map, Option}
use Rattle.std.specs.Borrow.{Bor}
use Rattle.dyl_words.specs.Words.{Asked}
use Rattle.dyl_words.specs.declared.asked.Asked as code

abbrev pub text_in : Option (Bor (List ℕ)) → Option (List ℕ)
text_in value = option_map (λ t. t.now) value

abbrev pub shown : code.Asked → Asked
shown a = record { plain = map (λ t. t.now) a.plain.items; dl = text_in a.dl; path = text_in a.path; pages = text_in a.pages; stack = text_in a.stack; no_duplicates = a.no_duplicates; steps = text_in a.steps; slice = text_in a.slice; turns = text_in a.turns; one = a.one }
