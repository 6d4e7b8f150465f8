-- A member is opened while the program runs: code that calls the function that opens it, and returns what that gives, comes in one step to
-- what stands for the loader's new frame.
use Rattle.std.proofs.Common.{◌∷◌, refl, ◌∙◌}
use Rattle.spec_loading.specs.spec_execution.Runs as frames
use Rattle.merge_start.specs.Laws.{calls_opening, MembersOpenAsMerged, MembersPromoteAsMerged}
use Rattle.merge_start.proofs.Frames.{calls_at}
use Rattle.merge_start.proofs.Returning.{standing}
use Rattle.dyl_addresses.proofs.Ranges.{of_open}
use Rattle.spec_loading.specs.Phases.{open_frame, open_global_frame}

pub members_open_as_merged : MembersOpenAsMerged
members_open_as_merged L n x merged set m lt opens s parts same fs hs below b hands = (
  standing L n x (open_frame L.set m) (frames.Active b ∷ hs) parts s.run.memory,
  calls_at merged (calls_opening x m b hs parts s.run.memory) (x.opening m) b hs refl opens.target ∙ rw opens.code refl,
  record {
    memory = refl;
    status = refl;
    units = same;
    stacks = (
      hs,
      record { outer = frames.Active b ∷ hs; stack = refl; under = (b, refl, hands, opens.word); tasks = of_open L set m lt },
      below,
    );
  },
)

pub members_promote_as_merged : MembersPromoteAsMerged
members_promote_as_merged L n x merged set m lt opens s parts same fs hs below b hands = (
  standing L n x (open_global_frame L.set m) (frames.Active b ∷ hs) parts s.run.memory,
  calls_at merged (calls_opening x m b hs parts s.run.memory) (x.opening m) b hs refl opens.target ∙ rw opens.code refl,
  record {
    memory = refl;
    status = refl;
    units = same;
    stacks = (
      hs,
      record { outer = frames.Active b ∷ hs; stack = refl; under = (b, refl, hands, opens.word); tasks = of_open L set m lt },
      below,
    );
  },
)
