use Rattle.std.proofs.Common.{IfOk, sym, subst}
use Rattle.wasm_form.specs.declared.runtime.LoaderCall.{LoaderCall}
use Rattle.dyl_frames.specs.Cores.{loader_arguments}
use Rattle.dyl_store.specs.Calls.{Answers}
use Rattle.dyl_store.proofs.running.Running.answer.Goals as goal

pub returns-in-Dlopen-clause-answers : goal.returns-in-Dlopen-clause-answers
returns-in-Dlopen-clause-answers c =
    subst
    (λ (w : LoaderCall). IfOk c.open_module.result (λ e. Answers c.args.self.now.linked.now w (loader_arguments w c.args.first c.args.second) e c.args.self.now c.open_module.new.self))
    (sym c.in-Dlopen.is) c.open_module.ensures.answers

pub returns-in-Dlsym-clause-answers : goal.returns-in-Dlsym-clause-answers
returns-in-Dlsym-clause-answers c =
    subst (λ (w : LoaderCall). Answers c.args.self.now.linked.now w (loader_arguments w c.args.first c.args.second) c.find_symbol.result c.args.self.now c.find_symbol.new.self) (sym c.in-Dlsym.is) c.find_symbol.ensures.answers

pub returns-in-Dlclose-clause-answers : goal.returns-in-Dlclose-clause-answers
returns-in-Dlclose-clause-answers c =
    subst (λ (w : LoaderCall). Answers c.args.self.now.linked.now w (loader_arguments w c.args.first c.args.second) c.close_module.result c.args.self.now c.close_module.new.self) (sym c.in-Dlclose.is) c.close_module.ensures.answers

pub returns-in-Dlerror-clause-answers : goal.returns-in-Dlerror-clause-answers
returns-in-Dlerror-clause-answers c =
    subst (λ (w : LoaderCall). Answers c.args.self.now.linked.now w (loader_arguments w c.args.first c.args.second) c.tell_error.result c.args.self.now c.tell_error.new.self) (sym c.in-Dlerror.is) c.tell_error.ensures.answers
