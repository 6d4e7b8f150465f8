use Rattle.std.proofs.Common.{◌<◌, sym, ap, subst, ◌∙◌}
use Rattle.merge_start.specs.Passive.{AreNamed}
use Rattle.merge_index.proofs.FewNumbers.{phases_few, loader_few, loader_length_few}
use Rattle.merge_module.specs.MergedModule.{merged_globals, merged_elems}
use Rattle.merge_whole.proofs.built.given.rest_of.Goals as goal

pub loader_numbers-requires-clause-first : goal.loader_numbers-requires-clause-first
loader_numbers-requires-clause-first c = loader_few c.args.linked.now c.links.ensures.shape c.args.numbers.now.loader c.requires.loader

pub loader_numbers-requires-clause-length : goal.loader_numbers-requires-clause-length
loader_numbers-requires-clause-length c = loader_length_few c.args.linked.now c.links.ensures.shape c.args.numbers.now.loader c.requires.loader

pub set_starts-requires-clause-first : goal.set_starts-requires-clause-first
set_starts-requires-clause-first c = subst (λ n. n < 2147483648) (sym c.requires.phase) (phases_few c.args.linked.now c.links.ensures.shape)

pub merged_segments-requires : goal.merged_segments-requires
merged_segments-requires c = subst (AreNamed c.args.linked.now c.in_ok-starts.starts) (sym c.requires.numbers) c.in_ok-starts.ensures.named

pub returns : goal.returns
returns c =
    let L = c.args.linked.now in
    record {
      given = record {
        numbers = c.requires.numbers;
        listed = c.in_ok-starts.ensures.listed;
        functions = c.in_ok-starts.ensures.functions;
        loader = c.in_ok-loader.ensures.loader;
        globals = c.in_ok-globals.ensures.globals ∙ ap (merged_globals L) c.requires.numbers;
        elems = c.in_ok-elems.ensures.elems ∙ ap (merged_elems L) c.requires.numbers;
        datas = c.in_ok-elems.ensures.datas;
      };
      guard = c.in_ok-starts.ensures.guard;
      first = c.in_ok-starts.ensures.first;
      small = c.in_ok-loader.ensures.small;
    }
