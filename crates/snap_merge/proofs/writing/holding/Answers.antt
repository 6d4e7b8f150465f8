use Rattle.std.proofs.Common.{subst}
use Rattle.spec_loading.specs.SoundSets.{HoldBytes}
use Rattle.merge_module.specs.Laws.{IsMergeable}
use Rattle.snap_merge.proofs.Answered.{if_ok, sound_loader}
use Rattle.snap_merge.proofs.Made.{holding_of}
use Rattle.snap_merge.proofs.writing.holding.Goals as goal

pub read_behind-requires-clause-sound : goal.read_behind-requires-clause-sound
read_behind-requires-clause-sound c =
    let known : IsMergeable c.args.linked.now = record { shape = c.links.ensures.shape; links = c.links.ensures.links; pages = c.has_few_pages.ensures; hosts = c.hosts_have_integers.ensures.supported } in
    sound_loader c.linked_sets_never_get_stuck.ensures.sound c.args.linked.now c.args.store.now.run known (subst HoldBytes c.requires.same c.holds_bytes.ensures) c.requires.taken.none

pub returns : goal.returns
returns c =
    let known : IsMergeable c.args.linked.now = record { shape = c.links.ensures.shape; links = c.links.ensures.links; pages = c.has_few_pages.ensures; hosts = c.hosts_have_integers.ensures.supported } in
    if_ok c.made-module.result (holding_of c.linked_sets_keep.ensures c.merged_modules_are_formed.ensures.formed c.parts_can_be_held.ensures.held c.parts_can_be_held.ensures.refer
    c.args.linked.now known (subst HoldBytes c.requires.same c.holds_bytes.ensures) c.args.store.now.run c.requires.taken) c.made-module.ensures
