-- The set links where its pages suffice.
use Rattle.std.proofs.Common.{◌≡◌, ℕ, suc, ◌+◌, ◌<◌, ◌≤◌, Bool, true, false, cond, nat_le, nat_eq, List, [], ◌∷◌, ◌++◌, length, Option, Some, None, refl, sym, ap, ◌∙◌, subst, arith, zero-add, bytes_eq}
use Rattle.std.specs.Prelude.{◌||◌, codes, slice_get, is_some}
use Rattle.std.specs.List.{flat_map, find}
use Rattle.std.specs.Map.{lookup}
use Rattle.wasm_form.specs.declared.types.FuncType.{FuncType}
use Rattle.wasm_form.specs.declared.module.Module.{Module}
use Rattle.spec_reading.specs.spec_binary.Exports.{relocations_name, constructors_name}
use Rattle.spec_reading.proofs.of_spec_binary.Lists.{holds_at}
use Rattle.spec_linking.specs.spec_runtime.Names.{HostName, HostNames, HostModule, Unknown, Fits, OtherType, host_module, host_typed, declares, module_match, is_rest_type}
use Rattle.spec_linking.specs.declared.fault.Kind.TheVariants as kind
use Rattle.spec_linking.specs.declared.fault.LinkFault.{LinkFault}
use Rattle.spec_linking.specs.declared.fault.LinkFault.TheVariants.{MemoryLimit, TableLimit, OwnMemory, IllTyped}
use Rattle.spec_linking.specs.Records.{DylinkRecord}
use Rattle.spec_linking.specs.Sets.{Member, ClosedSet}
use Rattle.spec_linking.specs.Plans.{LinkOptions, sizes_of, limit, pages_limit, regions_limit}
use Rattle.spec_linking.specs.Definitions.{Definition, env_name}
use Rattle.spec_linking.specs.LinkedSets.{LinkedSet, definition, is_declared, is_named, host_named, host_defined, where_declared, host_of_import, hosts_from, hosts_of, first_names}
use Rattle.spec_linking.specs.Slots.{linked_plan, table_entries}
use Rattle.spec_linking.specs.Links.{Finding, ◌or_else◌, unless, first_fault, import_fault, tls_fault, loader_call_fault, member_fault, members_fault, data_cell_fault, slot_cell_fault, function_fault, host_fault, match_fault, has_first_type, is_host_of, covers, is_type_of, set_entry, fault_without, duplicate_fault, duplicates_from, limit_fault, link_fault}
use Rattle.dyl_section.specs.Recorded.{record_of}
use Rattle.dyl_gen.specs.Generated as made
use Rattle.dyl_gen.specs.Generated.{function_name, value_name, is_main, next, one_number, four_numbers}
use Rattle.dyl_gen.specs.Laws.{CanWrite, IsMemoryLimit}
use Rattle.dyl_gen.proofs.Valid.{member_by}
use Rattle.dyl_gen.proofs.Members.{IsContent, of_member, of_further, OfSet, IsOfSet, IsMemberOf, at_file}
use Rattle.dyl_gen.proofs.Defined.{IsValue, IsFunction, next_value, next_function}
use Rattle.dyl_gen.proofs.Limits.{regions_fit, entries_fit}

-- ---- findings

both_none : (a b : Finding) → a ≡ None → b ≡ None → a or_else b ≡ None
both_none a b e f = ap (λ x. x or_else b) e ∙ f

value_fits : (m : ℕ) (name : List ℕ) (d : Definition) → IsValue d → data_cell_fault m name d ≡ None
value_fits m name d is = ap (data_cell_fault m name) is.1

slot_fits : (L : LinkedSet) (m : ℕ) (name : List ℕ) (d : Definition) → IsFunction L d → slot_cell_fault m name d ≡ None
slot_fits L m name d is = ap (slot_cell_fault m name) is.2

function_fits : (L : LinkedSet) (m : ℕ) (name : List ℕ) (d : Definition) → IsFunction L d → function_fault L m name (Some one_number) d ≡ None
function_fits L m name d is =
    ap (function_fault L m name (Some one_number)) is.2 ∙ ap (λ o. unless (is_type_of (Some one_number) o) (IllTyped m kind.Function name)) is.3

-- no host function defines what a member does
no_host : (L : LinkedSet) (d : Definition) (hosts : List HostName) → IsFunction L d → host_defined d hosts ≡ []
no_host L d hosts is = ap (λ x. host_defined x hosts) is.2

-- a name that is declared with a type is declared
fits_declared : (m : HostModule) (name : List ℕ) (ty : FuncType) → module_match m name ty ≡ Fits → declares name m ≡ true
fits_declared m name ty fits = by (lookup (bytes_eq name) m.functions) refl
  where
    or_true : (b : Bool) → (b || true) ≡ true
    or_true true = refl
    or_true false = refl

    rest : (b c : Bool) → cond b (cond c Fits OtherType) Unknown ≡ Fits → (b || false) ≡ true
    rest true c e = refl
    rest false c e = absurd cc

    by : (found : Option FuncType) → lookup (bytes_eq name) m.functions ≡ found → declares name m ≡ true
    by (Some declared) e = ap (λ o. m.rest || is_some o) e ∙ or_true m.rest
    by None e = ap (λ o. m.rest || is_some o) e ∙ rest m.rest (is_rest_type ty) (rw (e, module_match) at fits)

abbrev wasi : List ℕ
wasi = codes "wasi_snapshot_preview1"

abbrev write : List ℕ
write = codes "fd_write"

abbrev put : HostName
put = record { module_name = wasi; name = write; ty = four_numbers }

module _ (n : ℕ) (some : 0 < n) (range : n ≤ 255) (S : ClosedSet) (is : IsOfSet n S) (link : LinkOptions) (names : HostNames) (can : CanWrite names) where
  abbrev L : LinkedSet
  L = record { set = S; options = link; names = names }

  -- ---- a member of the set, by its number there and that of its file

  module _ (m k : ℕ) (member : Member) (at : slice_get S.members m ≡ Some member) (lt : k < n) (of : IsMemberOf n k member.wasm member.dylink) where
    abbrev x : ℕ
    x = next n k

    abbrev cell : Finding
    cell = data_cell_fault m (value_name x) (definition L m kind.Mem (value_name x))

    abbrev slot : Finding
    slot = slot_cell_fault m (function_name x) (definition L m kind.Func (function_name x))

    abbrev called : Finding
    called = function_fault L m (function_name x) (Some one_number) (definition L m kind.Function (function_name x))

    is_cell : cell ≡ None
    is_cell = value_fits m (value_name x) (definition L m kind.Mem (value_name x)) (next_value n range S is link names m k member at lt of kind.Mem)

    is_function : (of_kind : _) → IsFunction L (definition L m of_kind (function_name x))
    is_function of_kind = next_function n range S is link names m k member at lt of of_kind

    is_slot : slot ≡ None
    is_slot = slot_fits L m (function_name x) (definition L m kind.Func (function_name x)) (is_function kind.Func)

    is_called : called ≡ None
    is_called = function_fits L m (function_name x) (definition L m kind.Function (function_name x)) (is_function kind.Function)

    -- the host functions that the main module imports
    main_hosts : (note : List ℕ) → flat_map (host_of_import L m (member_by true n k x note)) (member_by true n k x note).imports ≡ put ∷ []
    main_hosts note =
        let slot_hosts = host_defined (definition L m kind.Func (function_name x)) (host_named env_name (function_name x) (host_typed names env_name (function_name x))) in
        let called_hosts = host_defined (definition L m kind.Function (function_name x)) (host_named env_name (function_name x) (Some one_number)) in
        let put_hosts = where_declared (is_declared names wasi write) (put ∷ []) in
        let one : slot_hosts ≡ [] = no_host L (definition L m kind.Func (function_name x)) (host_named env_name (function_name x) (host_typed names env_name (function_name x))) (is_function kind.Func) in
        let two : called_hosts ≡ [] = no_host L (definition L m kind.Function (function_name x)) (host_named env_name (function_name x) (Some one_number)) (is_function kind.Function) in
        let three : put_hosts ≡ put ∷ [] = ap (λ b. where_declared b (put ∷ [])) (fits_declared (host_module names wasi) write four_numbers can) in
        ap (λ hs. hs ++ (called_hosts ++ (put_hosts ++ []))) one ∙ ap (λ hs. hs ++ (put_hosts ++ [])) two ∙ ap (λ hs. hs ++ []) three

    -- the faults of a member's module and record
    abbrev fault_in : Module → DylinkRecord → Finding
    fault_in wasm d =
        unless (nat_eq (length wasm.memories) 0) (OwnMemory m)
        or_else (first_fault (tls_fault m) d.exports
        or_else (loader_call_fault m wasm relocations_name
        or_else (loader_call_fault m wasm constructors_name
        or_else first_fault (import_fault L m wasm) wasm.imports)))

    faultless_by : has_first_type L wasi write (Some four_numbers) ≡ true → (note : List ℕ) (b : Bool) → fault_in (member_by b n k x note) (record_of (made.dylink n k)) ≡ None
    faultless_by first note true =
        let host = host_fault L m wasi write (Some four_numbers) in
        let fits : host ≡ None = ap (λ b. match_fault m write b (covers names wasi write (Some four_numbers))) first ∙ ap (match_fault m write true) can in
        both_none cell (slot or_else (called or_else (host or_else None))) is_cell
        (both_none slot (called or_else (host or_else None)) is_slot (both_none called (host or_else None) is_called (both_none host None fits refl)))
    faultless_by first note false = both_none cell (slot or_else None) is_cell (both_none slot None is_slot refl)

    faultless : has_first_type L wasi write (Some four_numbers) ≡ true → member_fault L m member ≡ None
    faultless first =
        ap (λ w. fault_in w member.dylink) of.is ∙ ap (λ d. fault_in (made.member n k of.note) d) of.says
        ∙ faultless_by first of.note (is_main k)

  -- ---- the main module

  record HasMain : Type 0 where
    main : Member
    others : List Member
    are : S.members ≡ main ∷ others
    of : IsMemberOf n 0 main.wasm main.dylink

  has_main : HasMain
  has_main = by S.members refl
    where
      by : (ms : List Member) → S.members ≡ ms → HasMain
      by [] e = (let some = is.shape.some in let none = ap (length {A = Member}) e in absurd (omega arith))
      by (main ∷ others) e =
          let at : slice_get S.members 0 ≡ Some main = ap (λ (ms : List Member). slice_get ms 0) e in
          record { main = main; others = others; are = e; of = at_file range some (is.first main others e) (holds_at (OfSet n) S.members 0 main is.each at).content }

  put_is_first : has_first_type L wasi write (Some four_numbers) ≡ true
  put_is_first =
      let has = has_main in
      let at : slice_get S.members 0 ≡ Some has.main = ap (λ (ms : List Member). slice_get ms 0) has.are in
      let rest = hosts_from L 1 has.others in
      let hosts : flat_map (host_of_import L 0 has.main.wasm) has.main.wasm.imports ≡ put ∷ [] =
      ap (λ (w : Module). flat_map (host_of_import L 0 w) w.imports) has.of.is ∙ main_hosts 0 0 has.main at some has.of has.of.note in
      let all : hosts_of L ≡ first_names [] ((put ∷ []) ++ rest) =
      ap (λ ms. first_names [] (hosts_from L 0 ms)) has.are ∙ ap (λ hs. first_names [] (hs ++ rest)) hosts in
      ap (λ hs. is_host_of (Some four_numbers) (find (is_named wasi write) hs)) all

  -- ---- all members

  member_none : (m : ℕ) (member : Member) → slice_get S.members m ≡ Some member → member_fault L m member ≡ None
  member_none m member at = by (holds_at (OfSet n) S.members m member is.each at).content
    where
      by : IsContent n member.name member.wasm member.dylink → member_fault L m member ≡ None
      by (of_member k lt path note w d) = faultless m k member at lt (record { note = note; is = w; says = d }) put_is_first
      by (of_further path note w d) =
          ap (λ (w : Module). unless (nat_eq (length w.memories) 0) (OwnMemory m)
          or_else (first_fault (tls_fault m) member.dylink.exports
          or_else (loader_call_fault m w relocations_name
          or_else (loader_call_fault m w constructors_name
          or_else first_fault (import_fault L m w) w.imports)))) w
          ∙ ap (λ (d : DylinkRecord). first_fault (tls_fault m) d.exports or_else None) d

  members_none : (i : ℕ) (ms : List Member) → ((j : ℕ) (m : Member) → slice_get ms j ≡ Some m → member_fault L (i + j) m ≡ None) → members_fault L i ms ≡ None
  members_none i [] each = refl
  members_none i (m ∷ ms) each =
      let here : i + 0 ≡ i = omega arith in
      both_none (member_fault L i m) (members_fault L (i + 1) ms) (subst (λ k. member_fault L k m ≡ None) here (each 0 m refl))
      (members_none (i + 1) ms (λ j x e. (let there : i + suc j ≡ (i + 1) + j = omega arith in subst (λ k. member_fault L k x ≡ None) there (each (suc j) x e))))

  entered : fault_without (set_entry S.members) ≡ None
  entered =
      let has = has_main in
      ap (λ ms. fault_without (set_entry ms)) has.are ∙ ap (λ (w : Module). fault_without (set_entry (record has.main { wasm = w } ∷ []))) has.of.is

  pages : (b : Bool) (amount most : ℕ) (fault : LinkFault) → cond b None (Some (MemoryLimit amount most)) ≡ Some fault → IsMemoryLimit fault
  pages true amount most fault e = absurd cc
  pages false amount most fault e = (amount, most, (let same : MemoryLimit amount most ≡ fault = cc in sym same))

  or_nothing : (a : Finding) → (a or_else None) ≡ a
  or_nothing None = refl
  or_nothing (Some f) = refl

  pub links_by_pages : link.no_duplicates ≡ false → link_fault L ≡ pages_limit MemoryLimit (linked_plan L)
  links_by_pages may =
      let plan = linked_plan L in
      let sizes = sizes_of S link in
      let members = members_none 0 S.members (λ j m at. subst (λ k. member_fault L k m ≡ None) (sym (zero-add j)) (member_none j m at)) in
      let duplicate : duplicate_fault L ≡ None = ap (λ b. cond b (duplicates_from S.members 0 S.members) None) may in
      let last = both_none (regions_limit TableLimit plan sizes) (limit TableLimit (table_entries L) sizes.table_max) (regions_fit n L is TableLimit) (entries_fit n L is TableLimit) in
      ap (λ a. a or_else (duplicate_fault L or_else (fault_without (set_entry S.members) or_else limit_fault L))) members
      ∙ ap (λ a. a or_else (fault_without (set_entry S.members) or_else limit_fault L)) duplicate
      ∙ ap (λ a. a or_else limit_fault L) entered ∙ ap (λ a. pages_limit MemoryLimit plan or_else a) last ∙ or_nothing (pages_limit MemoryLimit plan)

  pub links_within_pages : (fault : LinkFault) → link.no_duplicates ≡ false → link_fault L ≡ Some fault → IsMemoryLimit fault
  links_within_pages fault may e =
      let plan = linked_plan L in
      pages (nat_le plan.pages plan.pages_max) plan.pages plan.pages_max fault (sym (links_by_pages may) ∙ e)
