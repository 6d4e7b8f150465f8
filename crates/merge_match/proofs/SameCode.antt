-- What a step reads of a module is its code.
use Rattle.std.proofs.Common.{◌≡◌, ℕ, List, [], None, refl, sym, ap, ◌∙◌, subst}
use Rattle.spec_loading.specs.wasm_form.declared.types.FuncType.{FuncType}
use Rattle.spec_loading.specs.wasm_form.declared.module.Import.{Import}
use Rattle.spec_loading.specs.wasm_form.declared.module.Code.{Code}
use Rattle.spec_loading.specs.wasm_form.declared.module.Module.{Module}
use Rattle.spec_loading.specs.spec_execution.OneModule.{ModuleState, module_step}
use Rattle.spec_loading.specs.spec_linking.LinkedSets.{LinkedSet}
use Rattle.merge_match.specs.Renumbering.{Numbers}
use Rattle.merge_match.specs.SameCode.{SameCode}
use Rattle.merge_match.specs.Laws.{HasParts, SameCodeStepsAlike, SameCodeHasParts}

-- the module that has this code and nothing else
abbrev with_code : List FuncType → List Import → List ℕ → List Code → Module
with_code types imports funcs codes = record {
  types = types;
  imports = imports;
  funcs = funcs;
  tables = [];
  memories = [];
  globals = [];
  exports = [];
  start = None;
  elems = [];
  data_count = None;
  codes = codes;
  datas = [];
  customs = [];
}

abbrev pub bare : Module → Module
bare m = with_code m.types m.imports m.funcs m.codes

pub bare_same : (one other : Module) → SameCode one other → bare other ≡ bare one
bare_same one other same = λ i. with_code (same.types i) (same.imports i) (same.funcs i) (same.codes i)

pub bare_steps : (m : Module) (t : ModuleState) → module_step m t ≡ module_step (bare m) t
bare_steps m t = refl

pub same_code_steps_alike : SameCodeStepsAlike
same_code_steps_alike one other same t =
    bare_steps other t ∙ ap (λ m. module_step m t) (bare_same one other same) ∙ sym (bare_steps one t)

module _ (L : LinkedSet) (n : Numbers) (m : Module) where
  bare_has_parts : HasParts L n m → HasParts L n (bare m)
  bare_has_parts is = record {
    types = is.types;
    targets = is.targets;
    functions = is.functions;
    stubs = is.stubs;
    loader = is.loader;
    hosts = is.hosts;
    types_of_hosts = is.types_of_hosts;
    globals = is.globals;
    tables = is.tables;
    elems = is.elems;
    datas = is.datas;
  }

  has_parts_of_bare : HasParts L n (bare m) → HasParts L n m
  has_parts_of_bare is = record {
    types = is.types;
    targets = is.targets;
    functions = is.functions;
    stubs = is.stubs;
    loader = is.loader;
    hosts = is.hosts;
    types_of_hosts = is.types_of_hosts;
    globals = is.globals;
    tables = is.tables;
    elems = is.elems;
    datas = is.datas;
  }

pub same_code_has_parts : SameCodeHasParts
same_code_has_parts L n one other same is =
    has_parts_of_bare L n other (subst (λ m. HasParts L n m) (sym (bare_same one other same)) (bare_has_parts L n one is))
