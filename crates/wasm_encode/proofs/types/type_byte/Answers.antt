use Rattle.spec_reading.specs.spec_binary.Types.{i32, i64, f32, f64, reference, func_ref, extern_ref}
use Rattle.wasm_encode.proofs.types.type_byte.Goals as goal

pub returns-in-I32 : goal.returns-in-I32
returns-in-I32 c = rw c.in-I32.is i32

pub returns-in-I64 : goal.returns-in-I64
returns-in-I64 c = rw c.in-I64.is i64

pub returns-in-F32 : goal.returns-in-F32
returns-in-F32 c = rw c.in-F32.is f32

pub returns-in-F64 : goal.returns-in-F64
returns-in-F64 c = rw c.in-F64.is f64

pub returns-in-FuncRef : goal.returns-in-FuncRef
returns-in-FuncRef c = rw c.in-FuncRef.is (reference func_ref)

pub returns-in-ExternRef : goal.returns-in-ExternRef
returns-in-ExternRef c = rw c.in-ExternRef.is (reference extern_ref)
