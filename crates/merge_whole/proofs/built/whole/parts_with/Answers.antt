use Rattle.std.proofs.Common.{sym}
use Rattle.merge_whole.proofs.built.whole.parts_with.Goals as goal

pub returns-in-Ok : goal.returns-in-Ok
returns-in-Ok c =
    let g = c.requires.given in
    record {
      merged = c.in-Ok.ensures;
      numbers = g.numbers;
      start = g.listed;
      functions = g.functions;
      entry = λ f is. sym (g.listed.entry f is);
      dl = g.loader;
    }
