-- A module that is read from a file has no more of anything than the file has bytes, and so has a member of a closed set.
use Rattle.std.proofs.Common.{◌≡◌, ℕ, ◌+◌, List, [], ◌∷◌, sym, ap, ◌∙◌, subst, arith, Ok, refl}
use Rattle.std.proofs.lemmas.List.Elements.{All-weaker}
use Rattle.std.proofs.lemmas.List.Sums.{sum_by-append}
use Rattle.spec_execution.specs.wasm_form.declared.module.Module.{Module}
use Rattle.spec_execution.specs.spec_binary.Number.{SpellsUnsigned}
use Rattle.spec_execution.specs.spec_binary.Types.{SpellsFuncType, SpellsTableType}
use Rattle.spec_execution.specs.spec_binary.Parts.{SpellsImport, SpellsGlobal, SpellsExport, SpellsElem, SpellsCode, SpellsData}
use Rattle.spec_execution.specs.spec_binary.Modules.{SpellsModule}
use Rattle.spec_execution.proofs.of_spec_binary.UnsignedSpelling.{unsigned_some}
use Rattle.spec_execution.proofs.of_spec_binary.SpelledItems.{items_within, type_long, import_long, table_long, global_long, export_long, elem_long, code_long, data_long}
use Rattle.spec_execution.proofs.of_spec_binary.SpelledParts.{AreSpelled, module_spelled, decoded_text}
use Rattle.spec_linking.specs.Sets.{Member}
use Rattle.spec_linking.specs.Gathering.{total_size, IsMember}
use Rattle.spec_linking.specs.Counts.{AreFew}
use Rattle.spec_linking.specs.Laws.{MembersAreFew}

parts_few : (m : Module) (size : ℕ) → AreSpelled m size → AreFew m size
parts_few m size is =
    let a = items_within SpellsFuncType type_long m.types is.types.word is.types.spelled in
    let b = items_within SpellsImport import_long m.imports is.imports.word is.imports.spelled in
    let c = items_within (SpellsUnsigned 32) (λ x w s. unsigned_some s) m.funcs is.funcs.word is.funcs.spelled in
    let d = items_within SpellsTableType table_long m.tables is.tables.word is.tables.spelled in
    let e = items_within SpellsGlobal global_long m.globals is.globals.word is.globals.spelled in
    let f = items_within SpellsExport export_long m.exports is.exports.word is.exports.spelled in
    let g = items_within SpellsElem elem_long m.elems is.elems.word is.elems.spelled in
    let h = items_within SpellsCode code_long m.codes is.codes.word is.codes.spelled in
    let i = items_within SpellsData data_long m.datas is.datas.word is.datas.spelled in
    let few = is.few in
    record { all = omega arith }

-- ---- a member

pub member_text : (m : Member) (is : IsMember m) → SpellsModule m.wasm is.bytes
member_text m is = decoded_text is.bytes (Ok m.wasm) is.read.told m.wasm refl

pub member_spelled : (m : Member) → IsMember m → AreSpelled m.wasm m.size
member_spelled m is = subst (AreSpelled m.wasm) (sym is.read.size) (module_spelled m.wasm is.bytes (member_text m is))

pub member_few : (m : Member) → IsMember m → AreFew m.wasm m.size
member_few m is = parts_few m.wasm m.size (member_spelled m is)

-- ---- a set

pub members_are_few : MembersAreFew
members_are_few S is = All-weaker IsMember (λ m. AreFew m.wasm m.size) member_few S.members is.members

pub total_cons : (x : Member) (xs : List Member) → total_size (x ∷ xs) ≡ x.size + total_size xs
total_cons x xs =
    let none : 0 + x.size ≡ x.size = omega arith in
    sum_by-append (λ (m : Member). m.size) (x ∷ []) xs ∙ ap (λ k. k + total_size xs) none
