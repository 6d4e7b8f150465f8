use Rattle.merge_dl.proofs.Making.{four_more}
use Rattle.merge_dl.proofs.functions.put_functions.Goals as goal

pub returns : goal.returns
returns c = λ x d numbers.
    rw (
      c.in_ok-push-4.ensures.items,
      c.in_ok-push-3.ensures.items,
      c.in_ok-push-2.ensures.items,
      c.in_ok-push.ensures.items,
      c.in_ok-open_function.ensures x d numbers,
      c.in_ok-symbol_function.ensures x d numbers,
      c.in_ok-close_function.ensures x d numbers,
      c.in_ok-error_function.ensures x d numbers,
    )
    (four_more _ _ _ _ _)
