-- The addresses that are kept are those of the set.
use Rattle.std.proofs.Common.{◌≡◌, List, [], ◌∷◌, length, map, refl, ap, ◌∙◌}
use Rattle.spec_loading.specs.spec_linking.LinkedSets.{LinkedSet}
use Rattle.dyl_link.specs.dyl_search.declared.set.Member.{Member}
use Rattle.dyl_link.specs.dyl_search.Gathers.{member_of}
use Rattle.dyl_addresses.specs.Sets.{module_of, wasms}
use Rattle.dyl_addresses.specs.Kept.{AreAddressesOf, addresses_of}
use Rattle.dyl_addresses.proofs.Items.{items_are}
use Rattle.dyl_addresses.proofs.GlobalAddresses.{global_is}
use Rattle.dyl_addresses.proofs.TableAddresses.{table_is}

pub modules_are : (xs : List Member) → map module_of xs ≡ wasms (map member_of xs)
modules_are [] = refl
modules_are (x ∷ xs) = ap (λ l. module_of x ∷ l) (modules_are xs)

-- the modules of what is kept are those of the set
pub of_modules : (L : LinkedSet) (xs : List Member) → map member_of xs ≡ L.set.members → map module_of xs ≡ wasms L.set.members
of_modules L xs same = modules_are xs ∙ ap wasms same

pub addresses_are : (L : LinkedSet) → AreAddressesOf L (addresses_of L)
addresses_are L = record {
  globals = global_is L;
  tables = table_is L;
  elems = items_are L (λ x. length x.elems);
  datas = items_are L (λ x. length x.datas);
}
