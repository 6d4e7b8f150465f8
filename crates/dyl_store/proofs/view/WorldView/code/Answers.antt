use Rattle.spec_loading.specs.spec_linking.LinkedSets.{wasm_of}
use Rattle.spec_loading.specs.spec_binary.Indices.{function_at}
use Rattle.dyl_store.proofs.Members.{found_in, own_code, own_locals, own_body}
use Rattle.dyl_store.proofs.view.WorldView.code.Goals as goal

pub unit-member-requires : goal.unit-member-requires
unit-member-requires c = found_in (wasm_of c.args.self.now.linked c.args.unit) (λ w. function_at w c.args.f) c.requires

pub code_of-requires-clause-own : goal.code_of-requires-clause-own
code_of-requires-clause-own c = own_code (wasm_of c.args.self.now.linked c.args.unit) c.unit-member.result.now.checked.now c.unit-member.ensures.unit.member c.args.f c.requires

pub returns-clause-locals : goal.returns-clause-locals
returns-clause-locals c = own_locals (wasm_of c.args.self.now.linked c.args.unit) c.unit-member.result.now.checked.now c.unit-member.ensures.unit.member c.args.f _ c.code_of.ensures.locals

pub returns-clause-body : goal.returns-clause-body
returns-clause-body c = own_body (wasm_of c.args.self.now.linked c.args.unit) c.unit-member.result.now.checked.now c.unit-member.ensures.unit.member c.args.f _ c.code_of.ensures.body
