-- A name that the host doesn't declare isn't defined by the host.
use Rattle.std.proofs.Common.{◌≡◌, ℕ, Bool, true, false, List, [], ◌∷◌, Option, Some, None, slice_get, refl, codes}
use Rattle.std.specs.Prelude.{bytes_eq, if◌then◌else◌}
use Rattle.wasm_form.specs.declared.runtime.LoaderCall.TheVariants.{Dlopen, Dlsym, Dlclose, Dlerror}
use Rattle.spec_loading.specs.spec_binary.Options.{◌>>=◌}
use Rattle.spec_loading.specs.spec_runtime.Names.{HostName}
use Rattle.spec_loading.specs.spec_linking.Sets.{ClosedSet}
use Rattle.spec_loading.specs.spec_linking.Orders.{scope}
use Rattle.spec_loading.specs.spec_linking.Definitions as defined
use Rattle.spec_loading.specs.spec_linking.declared.fault.Kind.{Kind}
use Rattle.spec_loading.specs.spec_linking.LinkedSets.{LinkedSet, definition, host_defined, is_host_for, weak_for}

module _ (hosts : List HostName) where
  neither : (a b : defined.Definition) → host_defined a hosts ≡ [] → host_defined b hosts ≡ [] → host_defined (defined.or_defined a b) hosts ≡ []
  neither defined.Undefined b first second = second
  neither _ b first second = first

  either : (b : Bool) (d e : defined.Definition) → host_defined d hosts ≡ [] → host_defined e hosts ≡ [] → host_defined (if b then d else e) hosts ≡ []
  either true d e first second = first
  either false d e first second = second

  of_loader : (name : List ℕ) → host_defined (defined.named_in defined.loader_names name) hosts ≡ []
  of_loader name =
      either (bytes_eq name (codes "dlopen")) (defined.LoaderFunction Dlopen) _ refl (
      either (bytes_eq name (codes "dlsym")) (defined.LoaderFunction Dlsym) _ refl (
      either (bytes_eq name (codes "dlclose")) (defined.LoaderFunction Dlclose) _ refl (
      either (bytes_eq name (codes "dlerror")) (defined.LoaderFunction Dlerror) _ refl (
      either (bytes_eq name (codes "__heap_base")) defined.HeapBase _ refl (
      either (bytes_eq name (codes "__heap_end")) defined.HeapEnd _ refl refl)))))

  of_member : (m : ℕ) (symbol : Option defined.Symbol) → host_defined (defined.defined_by m symbol) hosts ≡ []
  of_member m None = refl
  of_member m (Some (defined.FunctionSymbol f)) = refl
  of_member m (Some (defined.DataSymbol place)) = refl

  of_members : (S : ClosedSet) (name : List ℕ) (ms : List ℕ) → host_defined (defined.searched S ms name) hosts ≡ []
  of_members S name [] = refl
  of_members S name (m ∷ ms) =
      neither (defined.member_definition S m name) (defined.searched S ms name) (of_member m (slice_get S.members m >>= λ member. defined.symbol_of member.wasm name)) (of_members S name ms)

  of_weak : (weak : Bool) → host_defined (defined.where_so weak defined.WeakSymbol) hosts ≡ []
  of_weak true = refl
  of_weak false = refl

  undeclared_so : (S : ClosedSet) (m : ℕ) (name : List ℕ) (weak : Bool) → host_defined (defined.resolved S m name false weak) hosts ≡ []
  undeclared_so S m name weak =
      neither (defined.found S m name) (defined.where_so weak defined.WeakSymbol)
      (neither (defined.named_in defined.loader_names name) (defined.searched S (scope S m) name) (of_loader name) (of_members S name (scope S m)))
      (of_weak weak)

pub undeclared : (L : LinkedSet) (hosts : List HostName) (m : ℕ) (of_kind : Kind) (name : List ℕ) → is_host_for L.names of_kind name ≡ false → host_defined (definition L m of_kind name) hosts ≡ []
undeclared L hosts m of_kind name none = rw none (undeclared_so hosts L.set m name (weak_for L m name))
