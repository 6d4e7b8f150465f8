use Rattle.std.proofs.Common.{rules, SFits, w64, subst, ◌∙◌}
use Rattle.std.proofs.lemmas.Int.{to_z-of_z}
use Rattle.spec_reading.specs.spec_binary.Number.{SpellsSigned, IsShortest, Appends}
use Rattle.spec_reading.proofs.of_spec_binary.Joined.{on_ok}
use Rattle.wasm_encode.proofs.TypeForms.{val_type_written}
use Rattle.wasm_encode.proofs.Instructions.{no_type_written, value_type_written, type_index_written}
use Rattle.wasm_encode.proofs.instr.put_block_type.Goals as goal

pub returns-in_ok-push-in-Empty : goal.returns-in_ok-push-in-Empty
returns-in_ok-push-in-Empty c = no_type_written c.args.ty _ _ c.in-Empty.is c.in_ok-push-in-Empty.ensures.items

pub returns-in_ok-push-in-Value : goal.returns-in_ok-push-in-Value
returns-in_ok-push-in-Value c = value_type_written c.args.ty _ _ c.in-Value.value c.in-Value.is (val_type_written c.in-Value.value c.type_byte.result _ _ c.type_byte.ensures c.in_ok-push-in-Value.ensures.items)

pub returns-in-Index : goal.returns-in-Index
returns-in-Index c =
    let fits : SFits w64 c.from.result = search rules in
    let same = to_z-of_z w64 c.from.result fits ∙ c.from.ensures in
    on_ok c.put_s33.result
    (λ p. type_index_written c.args.ty _ _ c.in-Index.number c.in-Index.is (subst (λ z. Appends (IsShortest (SpellsSigned 33 z)) c.args.to.now.items c.put_s33.new.to.items) same p)) c.put_s33.ensures.ok
