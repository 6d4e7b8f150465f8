use Rattle.std.proofs.Common.{sym, ap, ◌∙◌}
use Rattle.wasm_form.specs.declared.runtime.LoaderCall.{LoaderCall}
use Rattle.wasm_form.specs.declared.runtime.LoaderCall.TheVariants.{Dlopen, Dlsym, Dlclose, Dlerror}
use Rattle.wasm_form.specs.declared.runtime.Ref.TheVariants.{Loader}
use Rattle.spec_loading.specs.spec_linking.Slots.{slot_of}
use Rattle.dyl_link.proofs.linked_set.Linked.loader_slot.Goals as goal

pub returns-in-Dlopen : goal.returns-in-Dlopen
returns-in-Dlopen c = c.tables.ensures.slots (Loader Dlopen) ∙ ap (λ (call : LoaderCall). slot_of c.args.self.now (Loader call)) (sym c.in-Dlopen.is)

pub returns-in-Dlsym : goal.returns-in-Dlsym
returns-in-Dlsym c = c.tables.ensures.slots (Loader Dlsym) ∙ ap (λ (call : LoaderCall). slot_of c.args.self.now (Loader call)) (sym c.in-Dlsym.is)

pub returns-in-Dlclose : goal.returns-in-Dlclose
returns-in-Dlclose c = c.tables.ensures.slots (Loader Dlclose) ∙ ap (λ (call : LoaderCall). slot_of c.args.self.now (Loader call)) (sym c.in-Dlclose.is)

pub returns-in-Dlerror : goal.returns-in-Dlerror
returns-in-Dlerror c = c.tables.ensures.slots (Loader Dlerror) ∙ ap (λ (call : LoaderCall). slot_of c.args.self.now (Loader call)) (sym c.in-Dlerror.is)
