use Rattle.std.proofs.Common.{drop, arith, length-drop}
use Rattle.spec_binary.proofs.NameSpelling.{none_unnumbered, none_cut, none_utf8, name_found, size_of_range}
use Rattle.wasm_leb.proofs.name.read_name.Goals as goal

pub returns-in_err-count-clause-none : goal.returns-in_err-count-clause-none
returns-in_err-count-clause-none c = rw c.from_residual.ensures (none_unnumbered _ c.in_err-count.ensures.none)

pub returns-then-count-bytes-clause-none : goal.returns-then-count-bytes-clause-none
returns-then-count-bytes-clause-none c =
    none_cut _ (drop c.in_ok-count.start c.args.bytes.now) c.in_ok-count.count (simp length-drop (omega arith)) c.in_ok-count.ensures.found

pub returns-in-Ok-clause-found : goal.returns-in-Ok-clause-found
returns-in-Ok-clause-found c =
    let utf8 = rw (size_of_range c.in_ok-count.start c.in_ok-count.count) at c.in-Ok.ensures.cases.1 in
    rw (size_of_range c.in_ok-count.start c.in_ok-count.count)
    (name_found c.args.bytes.now c.args.at c.in_ok-count.start c.in_ok-count.count (omega (arith, c.in_ok-count.ensures.end)) utf8 c.in_ok-count.ensures.found)

pub returns-in-Err-clause-none : goal.returns-in-Err-clause-none
returns-in-Err-clause-none c =
    let not_utf8 = rw (size_of_range c.in_ok-count.start c.in_ok-count.count) at c.in-Err.ensures.cases.0 in
    none_utf8 _ (drop c.in_ok-count.start c.args.bytes.now) c.in_ok-count.count not_utf8 c.in_ok-count.ensures.found
