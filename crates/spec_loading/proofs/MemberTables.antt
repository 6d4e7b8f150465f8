-- The tables that a member of a set numbers are of references, since a file spells no other.
use Rattle.std.proofs.Common.{◌≡◌, ℕ, true, List, [], ◌∷◌, refl}
use Rattle.std.specs.List.{All}
use Rattle.std.proofs.lemmas.List.Elements.{All-nil, All-cons, All-head, All-tail, All-append}
use Rattle.spec_linking.specs.wasm_form.declared.types.ValType.{ValType}
use Rattle.spec_linking.specs.wasm_form.declared.types.TableType.{TableType}
use Rattle.spec_linking.specs.wasm_form.declared.module.ImportDesc.{ImportDesc}
use Rattle.spec_linking.specs.wasm_form.declared.module.Import.{Import}
use Rattle.spec_linking.specs.spec_binary.IndexSpaces.{tables_in, imports_of, table_space}
use Rattle.spec_linking.specs.spec_binary.Types.{SpellsRefType, func_ref, extern_ref, SpellsTableType, table}
use Rattle.spec_linking.specs.spec_binary.Parts.{SpellsImportDesc, function as imported_function, table as imported_table, memory as imported_memory, global as imported_global, SpellsImport, «import»}
use Rattle.spec_linking.specs.spec_binary.WellFormed.{is_reference_type, IsFormedTable}
use Rattle.spec_linking.proofs.of_spec_binary.Joined.{each_all}
use Rattle.spec_linking.specs.Sets.{Member}
use Rattle.spec_linking.specs.Gathering.{IsMember}
use Rattle.spec_linking.proofs.FewParts.{member_spelled}

reference_formed : {t : ValType} {w : List ℕ} → SpellsRefType t w → is_reference_type t ≡ true
reference_formed func_ref = refl
reference_formed extern_ref = refl

table_formed : (ty : TableType) (w : List ℕ) → SpellsTableType ty w → IsFormedTable ty
table_formed ty _ (table reference limits) = reference_formed reference

abbrev AreFormed : ImportDesc → Type 0
AreFormed d = All IsFormedTable (tables_in d)

desc_formed : {d : ImportDesc} {w : List ℕ} → SpellsImportDesc d w → AreFormed d
desc_formed (imported_function s) = All-nil IsFormedTable
desc_formed (imported_table {ty} {w} s) = All-cons IsFormedTable ty [] (table_formed ty w s) (All-nil IsFormedTable)
desc_formed (imported_memory s) = All-nil IsFormedTable
desc_formed (imported_global s) = All-nil IsFormedTable

import_formed : (i : Import) (w : List ℕ) → SpellsImport i w → AreFormed i.desc
import_formed i _ («import» from field desc) = desc_formed desc

imports_formed : (is : List Import) → All (λ i. AreFormed i.desc) is → All IsFormedTable (imports_of tables_in is)
imports_formed [] all = All-nil IsFormedTable
imports_formed (i ∷ is) all =
    All-append IsFormedTable (tables_in i.desc) (imports_of tables_in is) (All-head (λ j. AreFormed j.desc) i is all)
    (imports_formed is (All-tail (λ j. AreFormed j.desc) i is all))

pub tables_formed : (m : Member) → IsMember m → All IsFormedTable (table_space m.wasm)
tables_formed m is =
    let spelled = member_spelled m is in
    All-append IsFormedTable (imports_of tables_in m.wasm.imports) m.wasm.tables
    (imports_formed m.wasm.imports (each_all {Spells = SpellsImport} (λ i. AreFormed i.desc) import_formed spelled.imports.spelled))
    (each_all {Spells = SpellsTableType} IsFormedTable table_formed spelled.tables.spelled)
