-- The answer of a reply that fits the type and the memory fits them too.
use Rattle.std.proofs.Common.{◌≡◌, ℕ, zero, suc, ◌+◌, ◌/◌, true, List, [], ◌∷◌, length, Option, Some, None, IsSomeAnd, IfSome, IsTrue, refl, ap, subst, leb, le-leb}
use Rattle.std.proofs.lemmas.Bool.{and_from}
use Rattle.spec_hosts.specs.wasm_form.declared.types.ValType.{ValType}
use Rattle.spec_hosts.specs.wasm_form.declared.types.FuncType.{FuncType}
use Rattle.spec_hosts.specs.spec_runtime.Memories.{MemoryInstance, little}
use Rattle.spec_hosts.specs.spec_runtime.Hosts.{number_fits, numbers_fit, writes_fit, fits_results}
use Rattle.host_table.specs.declared.host.Put.{Put}
use Rattle.host_table.specs.declared.host.Reply.{Reply}
use Rattle.host_table.specs.Answers.{result_fits, PutFits, ReplyFits}
use Rattle.host_calls.specs.Replies.{results_of, writes_of, answer_of}

results_fit : (types : List ValType) (n : ℕ) → IsTrue (result_fits types n) → IsTrue (numbers_fit types (results_of types n))
results_fit [] n fits = refl
results_fit (t ∷ []) n fits = and_from (number_fits t n) true fits refl
results_fit (t ∷ u ∷ ts) n fits = absurd cc

length-little : (len value : ℕ) → length (little len value) ≡ len
length-little zero value = refl
length-little (suc len) value = ap suc (length-little len (value / 256))

put_inside : (memory : MemoryInstance) (put : Option Put) → PutFits (length memory.bytes) put → IsTrue (writes_fit (writes_of put) memory)
put_inside memory None fits = refl
put_inside memory (Some p) fits =
    let inside = (fits p refl).2 in
    let long = length-little p.len p.bytes in
    and_from (leb (p.at + length (little p.len p.bytes)) (length memory.bytes)) true (rw long (le-leb (p.at + p.len) (length memory.bytes) inside)) refl

reply_fits : (ty : FuncType) (memory : MemoryInstance) (r : Reply) → ReplyFits ty (length memory.bytes) r → IsTrue (fits_results ty.results memory (answer_of ty r))
reply_fits ty memory r fits = and_from (numbers_fit ty.results (results_of ty.results r.result)) (writes_fit (writes_of r.put) memory) (results_fit ty.results r.result fits.result_fits) (put_inside memory r.put fits.put_fits)

-- a reply that fits the entry that was called, if that has this type
pub entry_fits : {E : Type 0} (type_of : E → FuncType) (entry : Option E) (ty : FuncType) (memory : MemoryInstance) (size : ℕ) (r : Reply)
    → IsSomeAnd entry (λ e. type_of e ≡ ty) → IfSome entry (λ e. ReplyFits (type_of e) size r) → size ≡ length memory.bytes → IsTrue (fits_results ty.results memory (answer_of ty r))
entry_fits type_of None ty memory size r typed fits whole = absurd typed
entry_fits type_of (Some e) ty memory size r typed fits whole = reply_fits ty memory r (subst (λ n. ReplyFits ty n r) whole (subst (λ t. ReplyFits t size r) typed fits))
