use Rattle.merge_module.proofs.Known.{HasLaws, HasCodeLaws, known}
use Rattle.merge_module.proofs.Headline.{stands, merges}
use Rattle.merge_module.proofs.spelled_modules_merge.Goals as goal

pub returns : goal.returns
returns c =
    let laws : HasLaws = record {
      there = c.linked_code_is_there.ensures.code;
      typed = c.linked_functions_are_typed.ensures.functions;
      callees = c.linked_functions_are_typed.ensures.callees;
      entry = c.linked_functions_are_typed.ensures.entry;
      holds = c.linked_code_is_there.ensures.opening;
      sizes = c.slots_fit.ensures.sizes;
      slots = c.slots_fit.ensures.slots;
    } in
    let code : HasCodeLaws = record {
      runs = c.sets_run_as_merged.ensures.runs;
      within = c.sets_run_as_merged.ensures.within;
      unused = c.unused_loader_is_not_called.ensures;
      lengths = c.lengths_are_given.ensures;
      searches = c.members_are_searched.ensures.soon;
      answered = c.loader_calls_are_answered.ensures;
      generated = c.generated_code_is_typed.ensures;
      loader = c.loader_code_is_typed.ensures;
      small = c.searches_are_small.ensures;
    } in
    record {
      stands = λ L is. stands code L (known laws L is.shape is.links) is.pages is.hosts;
      merges = λ L is. merges code L (known laws L is.shape is.links) is.pages is.hosts;
    }
