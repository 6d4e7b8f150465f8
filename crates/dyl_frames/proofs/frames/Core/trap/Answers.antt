use Rattle.std.proofs.Common.{ap, inl}
use Rattle.dyl_frames.proofs.Giving.{traps_from, traps_core}
use Rattle.wasm_machine.specs.Machines.{MachineState}
use Rattle.dyl_frames.proofs.FewFrames.{few_ended}
use Rattle.dyl_frames.proofs.frames.Core.trap.Goals as goal

pub trap-requires : goal.trap-requires
trap-requires g c = inl c.requires.loading

pub returns-clause-stepped : goal.returns-clause-stepped
returns-clause-stepped g c D = traps_from (g.V.View.seen c.args.view.now) c.args.self.now c.requires.core.sound c.requires.loading c.args.why c.trap.new.self c.trap.ensures D

pub returns-clause-core : goal.returns-clause-core
returns-clause-core g c =
    let w = g.V.View.seen c.args.view.now in
    record {
      sound = traps_core w c.args.self.now c.requires.core.sound c.requires.loading c.args.why c.trap.new.self c.trap.ensures;
      few = few_ended c.args.self.now c.requires.core.few c.trap.new.self (ap (λ (x : MachineState). x.stack.frames) c.trap.ensures);
    }
