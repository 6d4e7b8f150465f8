-- Members of a set are few, and each has fewer than 2^32 of anything: so numbers of what all have together fit.
use Rattle.std.proofs.Common.{◌≡◌, ◌<◌, ◌≤◌, ◌+◌, ◌*◌, ◌^◌, ℕ, List, [], ◌∷◌, ◌++◌, length, Option, Some, None, Bool, true, false, if◌then◌else◌, is_none, sym, subst, arith, length-append}
use Rattle.std.specs.List.{filter}
use Rattle.std.proofs.lemmas.List.Sums.{length-filter, count_by-le-length}
use Rattle.wasm_form.specs.declared.module.ImportDesc.{ImportDesc}
use Rattle.wasm_form.specs.declared.module.ImportDesc.TheVariants as imported
use Rattle.wasm_form.specs.declared.module.Import.{Import}
use Rattle.wasm_form.specs.declared.module.Export.{Export}
use Rattle.wasm_form.specs.declared.module.Module.{Module}
use Rattle.spec_loading.specs.spec_binary.WellFormed.{IsWellFormed}
use Rattle.spec_loading.specs.spec_linking.Definitions.{defined_function}
use Rattle.spec_loading.specs.spec_linking.Orders.{is_among}
use Rattle.spec_loading.specs.spec_binary.IndexSpaces.{tables_in, imports_of, table_space}
use Rattle.spec_loading.specs.spec_linking.LinkedSets.{LinkedSet, wasm_of}
use Rattle.spec_loading.specs.spec_linking.Slots.{segment_slot, with_function, functions_with, defined_functions, fresh_of}
use Rattle.spec_loading.specs.spec_linking.Slots as slots
use Rattle.merge_start.specs.declared.numbers.Places.{Places}
use Rattle.merge_start.specs.Listed.{Fit, spans_at, behind}

-- ---- tables

one_table : (d : ImportDesc) → length (tables_in d) ≤ 1
one_table (imported.Func t) = omega arith
one_table (imported.Table ty) = omega arith
one_table (imported.Space limits) = omega arith
one_table (imported.Global ty) = omega arith

tables_within : (is : List Import) → length (imports_of tables_in is) ≤ length is
tables_within [] = omega arith
tables_within (i ∷ is) = (let later = tables_within is in let one = one_table i.desc in omega (arith, length-append (tables_in i.desc) (imports_of tables_in is)))

few_tables : (wasm : Module) → IsWellFormed wasm → length (table_space wasm) < 2 ^ 33
few_tables wasm formed =
    let imports = tables_within wasm.imports in
    let short = formed.imports.0 in
    let own = formed.tables.0 in
    omega (arith, length-append (imports_of tables_in wasm.imports) wasm.tables)

-- ---- places

-- so many members have no more than these
pub record AreWithin (m : ℕ) (at : Places) : Type 0 where
  pub elems : at.elems ≤ m * 2 ^ 32
  pub datas : at.datas ≤ m * 2 ^ 32
  pub tables : at.tables ≤ m * 2 ^ 33

module _ (m : ℕ) (at : Places) (within : AreWithin m at) (wasm : Module) (formed : IsWellFormed wasm) where
  pub spans_fit : m ≤ 256 → Fit (spans_at at wasm)
  spans_fit few =
      let elems = within.elems in
      let datas = within.datas in
      let tables = within.tables in
      let more_elems = formed.elems.0 in
      let more_datas = formed.datas.0 in
      let more_tables = few_tables wasm formed in
      (omega arith, omega arith, omega arith)

  pub next_within : AreWithin (m + 1) (behind (spans_at at wasm))
  next_within =
      let elems = within.elems in
      let datas = within.datas in
      let tables = within.tables in
      let more_elems = formed.elems.0 in
      let more_datas = formed.datas.0 in
      let more_tables = few_tables wasm formed in
      record { elems = omega arith; datas = omega arith; tables = omega arith }

-- ---- fresh slots

one_more : (known : List ℕ) (o : Option ℕ) → length (with_function known o) ≤ length known + 1
one_more known None = omega arith
one_more known (Some f) = go (is_among f known)
  where
    go : (b : Bool) → length (if b then known else known ++ f ∷ []) ≤ length known + 1
    go true = omega arith
    go false = omega (arith, length-append known (f ∷ []))

functions_within : (wasm : Module) (known : List ℕ) (es : List Export) → length (functions_with wasm known es) ≤ length known + length es
functions_within wasm known [] = omega arith
functions_within wasm known (e ∷ es) =
    let one = one_more known (defined_function wasm e) in
    let more = functions_within wasm (with_function known (defined_function wasm e)) es in
    omega arith

filter_few : {A : Type 0} (p : A → Bool) (xs : List A) → length (filter p xs) ≤ length xs
filter_few p xs = (let few = count_by-le-length p xs in omega (arith, length-filter p xs))

-- a member has fewer fresh slots than exports
pub fresh_few : (L : LinkedSet) (m : ℕ) (wasm : Module) → IsWellFormed wasm → wasm_of L m ≡ Some wasm → length (fresh_of L m) < 2 ^ 32
fresh_few L m wasm formed found =
    let among : length (slots.fresh_in L m (Some wasm)) < 2 ^ 32 =
    (let short = formed.exports.0 in let all = functions_within wasm [] wasm.exports in
    let few : length (filter (λ f. is_none (segment_slot L m f)) (defined_functions wasm)) ≤ length (defined_functions wasm) =
    filter_few (λ f. is_none (segment_slot L m f)) (defined_functions wasm) in
    omega arith) in
    subst (λ o. length (slots.fresh_in L m o) < 2 ^ 32) (sym found) among
