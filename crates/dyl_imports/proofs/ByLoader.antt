-- A name has the loader's definition exactly where the loader gives it.
use Rattle.std.proofs.Common.{◌≡◌, ℕ, Bool, true, false, ◌&&◌, List, [], ◌∷◌, Option, Some, None, slice_get, refl, ◌∙◌}
use Rattle.wasm_form.specs.declared.module.Import.{Import}
use Rattle.spec_loading.specs.spec_binary.Options.{◌>>=◌}
use Rattle.spec_loading.specs.spec_linking.Sets.{ClosedSet}
use Rattle.spec_loading.specs.spec_linking.Orders.{scope}
use Rattle.spec_loading.specs.spec_linking.Definitions as defined
use Rattle.spec_loading.specs.spec_linking.declared.fault.Kind.{Kind}
use Rattle.spec_loading.specs.spec_linking.declared.fault.Kind.TheVariants as kind
use Rattle.spec_loading.specs.spec_linking.Imports as imports
use Rattle.spec_loading.specs.spec_linking.LinkedSets.{LinkedSet, definition, is_host_for, weak_for}
use Rattle.spec_loading.specs.Members.{is_loader, loader_as}
use Rattle.dyl_imports.specs.Uses.{shares_function}

neither : (a b : defined.Definition) → is_loader a ≡ false → is_loader b ≡ false → is_loader (defined.or_defined a b) ≡ false
neither defined.Undefined b first second = second
neither _ b first second = first

first_decides : (a b : defined.Definition) → is_loader b ≡ false → is_loader (defined.or_defined a b) ≡ is_loader a
first_decides defined.Undefined b second = second
first_decides _ b second = refl

of_member : (m : ℕ) (symbol : Option defined.Symbol) → is_loader (defined.defined_by m symbol) ≡ false
of_member m None = refl
of_member m (Some (defined.FunctionSymbol f)) = refl
of_member m (Some (defined.DataSymbol place)) = refl

of_members : (S : ClosedSet) (name : List ℕ) (ms : List ℕ) → is_loader (defined.searched S ms name) ≡ false
of_members S name [] = refl
of_members S name (m ∷ ms) =
    neither (defined.member_definition S m name) (defined.searched S ms name) (of_member m (slice_get S.members m >>= λ member. defined.symbol_of member.wasm name)) (of_members S name ms)

of_rest : (declared weak : Bool) → is_loader (defined.or_defined (defined.where_so declared defined.HostFunction) (defined.where_so weak defined.WeakSymbol)) ≡ false
of_rest true weak = refl
of_rest false true = refl
of_rest false false = refl

by_name : (L : LinkedSet) (m : ℕ) (of_kind : Kind) (name : List ℕ) → is_loader (definition L m of_kind name) ≡ is_loader (defined.named_in defined.loader_names name)
by_name L m of_kind name =
    first_decides (defined.found L.set m name) (defined.or_defined (defined.where_so (is_host_for L.names of_kind name) defined.HostFunction) (defined.where_so (weak_for L m name) defined.WeakSymbol)) (of_rest (is_host_for L.names of_kind name) (weak_for L m name))
    ∙ first_decides (defined.named_in defined.loader_names name) (defined.searched L.set (scope L.set m) name) (of_members L.set name (scope L.set m))

with_true : (b : Bool) → b ≡ (b && true)
with_true true = refl
with_true false = refl

with_false : (b : Bool) → false ≡ (b && false)
with_false true = refl
with_false false = refl

pub loader_by_name : (L : LinkedSet) (m : ℕ) (i : Import) (u : imports.ImportUse) → loader_as L m i u ≡ (is_loader (defined.named_in defined.loader_names i.field) && shares_function u)
loader_by_name L m i (imports.EnvFunction t) = by_name L m kind.Function i.field ∙ with_true (is_loader (defined.named_in defined.loader_names i.field))
loader_by_name L m i imports.SlotCell = by_name L m kind.Func i.field ∙ with_true (is_loader (defined.named_in defined.loader_names i.field))
loader_by_name L m i _ = with_false (is_loader (defined.named_in defined.loader_names i.field))
