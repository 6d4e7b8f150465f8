-- A module weighs no more than the bytes that spell it.
use Rattle.std.proofs.Common.{◌≡◌, ℕ, ◌≤◌, List, length, length-append, ap, subst, arith}
use Rattle.wasm_form.specs.declared.module.Module.{Module}
use Rattle.spec_reading.specs.spec_binary.Sections.{section as one_section}
use Rattle.spec_reading.specs.spec_binary.Modules.{header, SpellsModule}
use Rattle.wasm_encode.specs.SectionSizes.{types, imports, funcs, tables, memories, globals, exports, elems, codes, datas, IsContents}
use Rattle.wasm_encode.specs.Written.{SpellsCustom}
use Rattle.wasm_encode.specs.Begun.{Costs, nothing, section, Accounts}
use Rattle.wasm_encode.specs.Weight.{sum_of, type_weight, import_weight, global_weight, export_weight, elem_weight, code_weight, data_weight, custom_weight, section_weight, weight}
use Rattle.wasm_encode.proofs.Lengths.{each_about, contents_about, custom_about}
use Rattle.wasm_encode.proofs.Costs.{accounts_of}

-- what a section holds weighs no more than the section costs
cost_least : {IsLeftOut : Type 0} {Holds : List ℕ → Type 0} (m : Module) (id : ℕ) {cost : ℕ} → ((w : List ℕ) → Holds w → IsContents m id w)
    → (IsLeftOut → section_weight m id ≡ 0) → Costs IsLeftOut Holds id cost → section_weight m id ≤ cost
cost_least m id holds none (nothing out) = (let nothing_there = none out in omega arith)
cost_least m id holds none (section {contents} s (one_section {size} number) le) =
    let least = (contents_about (holds contents s)).least in
    let sum = length-append size contents in
    omega arith

pub weight_least : (m : Module) (bytes : List ℕ) → SpellsModule m bytes → weight m ≤ length bytes
weight_least m bytes is =
    let all = subst (λ f. Accounts f (length is.sections)) is.fields (accounts_of is.chain) in
    let a = cost_least m 1 (λ w s. types s) (λ e. ap (sum_of type_weight) e) all.types in
    let b = cost_least m 2 (λ w s. imports s) (λ e. ap (sum_of import_weight) e) all.imports in
    let c = cost_least m 3 (λ w s. funcs s) (λ e. ap length e) all.funcs in
    let d = cost_least m 4 (λ w s. tables s) (λ e. ap length e) all.tables in
    let e = cost_least m 5 (λ w s. memories s) (λ e. ap length e) all.memories in
    let f = cost_least m 6 (λ w s. globals s) (λ e. ap (sum_of global_weight) e) all.globals in
    let g = cost_least m 7 (λ w s. exports s) (λ e. ap (sum_of export_weight) e) all.exports in
    let h = cost_least m 9 (λ w s. elems s) (λ e. ap (sum_of elem_weight) e) all.elems in
    let i = cost_least m 10 (λ w s. codes s) (λ e. ap (sum_of code_weight) e) all.codes in
    let j = cost_least m 11 (λ w s. datas s) (λ e. ap (sum_of data_weight) e) all.datas in
    let k = (each_about SpellsCustom custom_weight custom_about m.customs all.customs_word all.customs).least in
    omega (arith, all.enough, ap length is.parts, length-append header is.sections)
