-- What one more answer adds to the bytes that are written.
use Rattle.std.proofs.Common.{◌≡◌, ◌+◌, List, [], ◌∷◌, ◌++◌, map, sum, sym, ap, ◌∙◌}
use Rattle.std.proofs.lemmas.List.Sums.{sum-map, sum_by_push}
use Rattle.spec_hosts.specs.wasm_form.declared.runtime.Answer.{Answer}
use Rattle.spec_hosts.specs.Ends.{bytes_written}

pub written_more : (given : List Answer) (a : Answer) → sum (map bytes_written (given ++ a ∷ [])) ≡ sum (map bytes_written given) + bytes_written a
written_more given a = sum-map bytes_written (given ++ a ∷ []) ∙ sum_by_push bytes_written given a ∙ ap (λ n. n + bytes_written a) (sym (sum-map bytes_written given))
