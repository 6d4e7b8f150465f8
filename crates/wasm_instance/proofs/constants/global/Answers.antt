use Rattle.wasm_instance.proofs.constants.global.Goals as goal

pub value-requires-clause-typed : goal.value-requires-clause-typed
value-requires-clause-typed c = (c.args.g.now.ty.value, c.requires.fits)
