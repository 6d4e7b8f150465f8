use Rattle.std.proofs.Common.{◌<◌, sym, ap, subst, ◌∙◌}
use Rattle.spec_loading.specs.Members.{from_members}
use Rattle.merge_start.specs.Listed.{AreListed}
use Rattle.merge_index.specs.Numbering.{numbers_of, starts_of}
use Rattle.merge_whole.specs.Counts.{functions_by, starts_by}
use Rattle.merge_whole.proofs.StartLists.{are_listed, are_named}
use Rattle.merge_whole.proofs.built.starts.set_starts.Goals as goal

pub returns : goal.returns
returns c =
    let L = c.args.linked.now in
    let functions = ap (λ z. z.functions) c.in_ok-starts.ensures ∙ ap (λ n. from_members (functions_by n) 0 L.set.members) c.requires.numbers in
    record {
      listed = subst (λ z. AreListed L z (numbers_of L) (starts_of L))
          (sym (c.in_ok-starts.ensures ∙ ap (λ n. starts_by L n c.args.guard c.args.n.now.first_phase) c.requires.numbers))
          (are_listed L c.args.guard c.args.n.now.first_phase c.requires.guards c.requires.phase);
      functions = functions;
      named = are_named L c.links.ensures.shape _ functions;
      guard = subst (λ z. z.guard < 2147483648) (sym c.in_ok-starts.ensures) c.requires.guard;
      first = subst (λ z. z.first_function < 2147483648) (sym c.in_ok-starts.ensures) c.requires.first;
    }
