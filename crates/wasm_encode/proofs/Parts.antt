-- What the writers of imports, globals, exports and bodies write.
use Rattle.std.proofs.Common.{◌≡◌, ℕ, ◌^◌, ◌≤◌, List, [], ◌∷◌, ◌++◌, length, length-append, refl, sym, subst, arith}
use Rattle.wasm_form.specs.declared.types.Limits.{Limits}
use Rattle.wasm_form.specs.declared.types.TableType.{TableType}
use Rattle.wasm_form.specs.declared.types.GlobalType.{GlobalType}
use Rattle.wasm_form.specs.declared.instr.Expr.{Expr}
use Rattle.wasm_form.specs.declared.module.ImportDesc.{ImportDesc}
use Rattle.wasm_form.specs.declared.module.ImportDesc.TheVariants as imported
use Rattle.wasm_form.specs.declared.module.Import.{Import}
use Rattle.wasm_form.specs.declared.module.GlobalDef.{GlobalDef}
use Rattle.wasm_form.specs.declared.module.ExportDesc.{ExportDesc}
use Rattle.wasm_form.specs.declared.module.ExportDesc.TheVariants as exported
use Rattle.wasm_form.specs.declared.module.Export.{Export}
use Rattle.wasm_form.specs.declared.module.Group.{Group}
use Rattle.wasm_form.specs.declared.module.Code.{Code}
use Rattle.spec_reading.specs.spec_binary.Number.{SpellsUnsigned, IsShortest, Appends}
use Rattle.spec_reading.specs.spec_binary.Name.{SpellsName}
use Rattle.spec_reading.specs.spec_binary.Sequence.{SpellsVec}
use Rattle.spec_reading.specs.spec_binary.Types.{SpellsValType, SpellsLimits, SpellsTableType, SpellsGlobalType}
use Rattle.spec_reading.specs.spec_binary.Instructions.{SpellsExpr}
use Rattle.spec_reading.specs.spec_binary.Trees.{nesting_all}
use Rattle.spec_reading.specs.spec_binary.Parts as part
use Rattle.spec_reading.specs.spec_binary.Parts.{SpellsByte, byte, SpellsConstant, constant, SpellsImportDesc, SpellsImport, import, SpellsGlobal, SpellsExportDesc, SpellsExport, export, SpellsGroup, group, SpellsFunc, func, SpellsCode, code}
use Rattle.spec_reading.specs.spec_binary.Joined.{IsByte, Joined, IsSized}
use Rattle.wasm_encode.specs.SectionSizes.{IsTooLongBody}
use Rattle.spec_reading.proofs.of_spec_binary.Joined.{joined, behind, unjoined, itself, whole, appends_byte, appends_joined, appends_like, appends_after, shortest_size}
use Rattle.wasm_encode.proofs.TypeForms.{coded_written}

pub byte_is : {b : ℕ} {w : List ℕ} → SpellsByte b w → IsByte b w
byte_is byte = refl

pub byte_written : (b : ℕ) (old new : List ℕ) → new ≡ old ++ b ∷ [] → Appends (IsShortest (SpellsByte b)) old new
byte_written b old new e = appends_like old new (λ w p. subst (SpellsByte b) (sym p) byte) (λ other s. itself other (byte_is s)) (appends_byte old new b e)

pub constant_expr : {e : Expr} {w : List ℕ} → SpellsConstant e w → SpellsExpr e w
constant_expr (constant flat s) = s

pub constant_written : (e : Expr) (old new : List ℕ) → nesting_all e.list ≡ 0 → Appends (IsShortest (SpellsExpr e)) old new → Appends (IsShortest (SpellsConstant e)) old new
constant_written e old new flat = appends_like old new (λ w s. constant flat s) (λ other s. itself other (constant_expr s))

-- imports
pub import_function : {n : ℕ} {w : List ℕ} → SpellsImportDesc (imported.Func n) w → Joined (IsByte 0x00) (SpellsUnsigned 32 n) w
import_function (part.function s) = behind _ _ s

pub import_table : {ty : TableType} {w : List ℕ} → SpellsImportDesc (imported.Table ty) w → Joined (IsByte 0x01) (SpellsTableType ty) w
import_table (part.table s) = behind _ _ s

pub import_memory : {limits : Limits} {w : List ℕ} → SpellsImportDesc (imported.Space limits) w → Joined (IsByte 0x02) (SpellsLimits limits) w
import_memory (part.memory s) = behind _ _ s

pub import_global : {ty : GlobalType} {w : List ℕ} → SpellsImportDesc (imported.Global ty) w → Joined (IsByte 0x03) (SpellsGlobalType ty) w
import_global (part.global s) = behind _ _ s

module _ (d : ImportDesc) (old : List ℕ) where
  pub import_function_written : (n : ℕ) (new : List ℕ) → d ≡ imported.Func n → Appends (IsShortest (Joined (IsByte 0x00) (SpellsUnsigned 32 n))) old new → Appends (IsShortest (SpellsImportDesc d)) old new
  import_function_written n new is written =
      subst (λ e. Appends (IsShortest (SpellsImportDesc e)) old new) (sym is) (coded_written 0x00 old new (λ w s. part.function s) (λ other s. itself other (import_function s)) written)

  pub import_table_written : (ty : TableType) (middle new : List ℕ) → d ≡ imported.Table ty → middle ≡ old ++ 0x01 ∷ [] → Appends (IsShortest (SpellsTableType ty)) middle new
      → Appends (IsShortest (SpellsImportDesc d)) old new
  import_table_written ty middle new is e written =
      subst (λ e. Appends (IsShortest (SpellsImportDesc e)) old new) (sym is)
      (coded_written 0x01 old new (λ w s. part.table s) (λ other s. itself other (import_table s)) (appends_after 0x01 old middle new e written))

  pub import_memory_written : (limits : Limits) (middle new : List ℕ) → d ≡ imported.Space limits → middle ≡ old ++ 0x02 ∷ [] → Appends (IsShortest (SpellsLimits limits)) middle new
      → Appends (IsShortest (SpellsImportDesc d)) old new
  import_memory_written limits middle new is e written =
      subst (λ e. Appends (IsShortest (SpellsImportDesc e)) old new) (sym is)
      (coded_written 0x02 old new (λ w s. part.memory s) (λ other s. itself other (import_memory s)) (appends_after 0x02 old middle new e written))

  pub import_global_written : (ty : GlobalType) (middle new : List ℕ) → d ≡ imported.Global ty → middle ≡ old ++ 0x03 ∷ [] → Appends (IsShortest (SpellsGlobalType ty)) middle new
      → Appends (IsShortest (SpellsImportDesc d)) old new
  import_global_written ty middle new is e written =
      subst (λ e. Appends (IsShortest (SpellsImportDesc e)) old new) (sym is)
      (coded_written 0x03 old new (λ w s. part.global s) (λ other s. itself other (import_global s)) (appends_after 0x03 old middle new e written))

pub import_parts : {i : Import} {w : List ℕ} → SpellsImport i w → Joined (SpellsName i.module) (Joined (SpellsName i.field) (SpellsImportDesc i.desc)) w
import_parts (import s t u) = joined _ _ s (joined _ _ t u)

pub import_written : (i : Import) (old first second new : List ℕ) → Appends (IsShortest (SpellsName i.module)) old first → Appends (IsShortest (SpellsName i.field)) first second
    → Appends (IsShortest (SpellsImportDesc i.desc)) second new → Appends (IsShortest (SpellsImport i)) old new
import_written i old first second new a b c =
    appends_like old new (unjoined (SpellsImport i) (λ w u s. unjoined (λ x. SpellsImport i (w ++ x)) (λ v x t d. import s t d) u)) (λ other s. itself other (import_parts s))
    (appends_joined old first new a (appends_joined first second new b c))

-- globals
pub global_parts : {g : GlobalDef} {w : List ℕ} → SpellsGlobal g w → Joined (SpellsGlobalType g.ty) (SpellsConstant g.init) w
global_parts (part.global s t) = joined _ _ s t

pub global_written : (g : GlobalDef) (old middle new : List ℕ) → Appends (IsShortest (SpellsGlobalType g.ty)) old middle → Appends (IsShortest (SpellsConstant g.init)) middle new
    → Appends (IsShortest (SpellsGlobal g)) old new
global_written g old middle new a b =
    appends_like old new (unjoined (SpellsGlobal g) (λ w v s t. part.global s t)) (λ other s. itself other (global_parts s)) (appends_joined old middle new a b)

-- exports
abbrev pub kind_of : ExportDesc → ℕ
kind_of (exported.Func n) = 0x00
kind_of (exported.Table n) = 0x01
kind_of (exported.Space n) = 0x02
kind_of (exported.Global n) = 0x03

abbrev pub number_of : ExportDesc → ℕ
number_of (exported.Func n) = n
number_of (exported.Table n) = n
number_of (exported.Space n) = n
number_of (exported.Global n) = n

pub export_parts : {d : ExportDesc} {w : List ℕ} → SpellsExportDesc d w → Joined (IsByte (kind_of d)) (SpellsUnsigned 32 (number_of d)) w
export_parts (part.function s) = behind _ _ s
export_parts (part.table s) = behind _ _ s
export_parts (part.memory s) = behind _ _ s
export_parts (part.global s) = behind _ _ s

pub export_made : (d : ExportDesc) (w : List ℕ) → SpellsUnsigned 32 (number_of d) w → SpellsExportDesc d (kind_of d ∷ w)
export_made (exported.Func n) w s = part.function s
export_made (exported.Table n) w s = part.table s
export_made (exported.Space n) w s = part.memory s
export_made (exported.Global n) w s = part.global s

pub desc_written : (d e : ExportDesc) (old new : List ℕ) → e ≡ d → Appends (IsShortest (Joined (IsByte (kind_of d)) (SpellsUnsigned 32 (number_of d)))) old new
    → Appends (IsShortest (SpellsExportDesc e)) old new
desc_written d e old new same written =
    subst (λ x. Appends (IsShortest (SpellsExportDesc x)) old new) (sym same) (coded_written (kind_of d) old new (export_made d) (λ other s. itself other (export_parts s)) written)

pub whole_export_parts : {e : Export} {w : List ℕ} → SpellsExport e w → Joined (SpellsName e.name) (SpellsExportDesc e.desc) w
whole_export_parts (export s t) = joined _ _ s t

pub export_written : (e : Export) (old middle new : List ℕ) → Appends (IsShortest (SpellsName e.name)) old middle → Appends (IsShortest (SpellsExportDesc e.desc)) middle new
    → Appends (IsShortest (SpellsExport e)) old new
export_written e old middle new a b =
    appends_like old new (unjoined (SpellsExport e) (λ w v s t. export s t)) (λ other s. itself other (whole_export_parts s)) (appends_joined old middle new a b)

-- bodies
pub group_parts : {g : Group} {w : List ℕ} → SpellsGroup g w → Joined (SpellsUnsigned 32 g.count) (SpellsValType g.ty) w
group_parts (group s t) = joined _ _ s t

pub group_written : (g : Group) (old middle new : List ℕ) → Appends (IsShortest (SpellsUnsigned 32 g.count)) old middle → Appends (IsShortest (SpellsValType g.ty)) middle new
    → Appends (IsShortest (SpellsGroup g)) old new
group_written g old middle new a b =
    appends_like old new (unjoined (SpellsGroup g) (λ w v s t. group s t)) (λ other s. itself other (group_parts s)) (appends_joined old middle new a b)

pub func_parts : {c : Code} {w : List ℕ} → SpellsFunc c w → Joined (SpellsVec SpellsGroup c.locals) (SpellsExpr c.body) w
func_parts (func s t) = joined _ _ s t

func_written : (c : Code) (old middle new : List ℕ) → Appends (IsShortest (SpellsVec SpellsGroup c.locals)) old middle → Appends (IsShortest (SpellsExpr c.body)) middle new
    → Appends (IsShortest (SpellsFunc c)) old new
func_written c old middle new a b =
    appends_like old new (unjoined (SpellsFunc c) (λ w v s t. func s t)) (λ other s. itself other (func_parts s)) (appends_joined old middle new a b)

least_code : {c : Code} {other : List ℕ} (size w : List ℕ) → IsShortest (SpellsUnsigned 32 (length w)) size → IsShortest (SpellsFunc c) w → SpellsCode c other → length (size ++ w) ≤ length other
least_code size w n p (code {size = z} {w = x} m s) =
    let inside : length w ≤ length x = p.least x s in
    let sizes : length size ≤ length z = shortest_size (length w) size n (length x) z inside m in
    omega (arith, length-append size w, length-append z x)

sized_code : (c : Code) (contents w : List ℕ) → IsShortest (SpellsFunc c) contents → IsSized contents w → IsShortest (SpellsCode c) w
sized_code c contents w p sized =
    subst (λ l. IsShortest (SpellsCode c) l) (sym sized.parts)
    (record { spelled = code sized.shortest.spelled p.spelled; least = λ other s. least_code sized.size contents sized.shortest p s })

pub code_written : (c : Code) (middle contents : List ℕ) → Appends (IsShortest (SpellsVec SpellsGroup c.locals)) [] middle → Appends (IsShortest (SpellsExpr c.body)) middle contents → (old new : List ℕ)
    → Appends (IsSized contents) old new → Appends (IsShortest (SpellsCode c)) old new
code_written c middle contents locals body old new (w, sized, e) = (w, sized_code c contents w (whole contents (func_written c [] middle contents locals body)) sized, e)

pub code_too_long : (c : Code) (middle contents : List ℕ) → Appends (IsShortest (SpellsVec SpellsGroup c.locals)) [] middle → Appends (IsShortest (SpellsExpr c.body)) middle contents
    → 2 ^ 32 ≤ length contents → IsTooLongBody c
code_too_long c middle contents locals body h =
    let p = whole contents (func_written c [] middle contents locals body) in
    record { word = contents; spelled = p.spelled; long = λ v s. let least : length contents ≤ length v = p.least v s in omega arith }
