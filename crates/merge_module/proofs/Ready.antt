-- The members of a linked set, its entry and its merged module are ready for the generated code.
use Rattle.std.proofs.Common.{◌≡◌, ℕ, ◌<◌, ◌≤◌, true, length, slice_get, Option, Some, None, refl, sym, ap, ◌∙◌, subst, arith}
use Rattle.std.specs.Prelude.{IfSome, is_some, IsTrue}
use Rattle.spec_reading.specs.wasm_form.declared.module.Module.{Module}
use Rattle.spec_reading.specs.wasm_form.declared.runtime.Ref.{Ref}
use Rattle.spec_reading.specs.wasm_form.declared.runtime.Ref.TheVariants.{Own}
use Rattle.spec_reading.specs.spec_binary.Options.{◌>>=◌}
use Rattle.spec_reading.specs.spec_binary.Indices.{function_type}
use Rattle.spec_reading.proofs.of_spec_binary.Lists.{got, holds_at}
use Rattle.spec_loading.proofs.of_spec_validation.Parts.{parts_fit}
use Rattle.spec_loading.specs.spec_linking.Sets.{Member}
use Rattle.spec_loading.specs.spec_linking.Gathering.{IsMember, IsSet}
use Rattle.spec_loading.specs.spec_linking.Imports.{importing}
use Rattle.spec_loading.specs.spec_linking.LinkedSets.{LinkedSet, wasm_of, ref_with, function_ref}
use Rattle.spec_loading.proofs.of_spec_linking.Importing.{importing_length}
use Rattle.spec_loading.specs.spec_linking.Slots.{linked_plan}
use Rattle.spec_loading.specs.spec_linking.Links.{set_entry}
use Rattle.std.proofs.lemmas.Option.{slice_get_past}
use Rattle.spec_reading.specs.spec_binary.IndexSpaces.{functions_in}
use Rattle.spec_reading.specs.wasm_form.declared.types.FuncType.{FuncType}
use Rattle.spec_loading.proofs.of_spec_safety.Lookups.{went_on}
use Rattle.spec_loading.specs.declared.task.Phase.{Phase}
use Rattle.spec_loading.specs.Phases.{phase_function}
use Rattle.spec_loading.specs.Members.{uses_loader, set_view}
use Rattle.spec_loading.specs.LoadedSet.{callee_of, phase_callee}
use Rattle.spec_loading.specs.Laws.{IsCallable}
use Rattle.merge_start.specs.Started.{MemberReady, EntryReady, StartReady, OpenReady, IsReady}
use Rattle.merge_dl.specs.Called.{SearchesMember}
use Rattle.merge_dl.specs.Ready.{LoaderReady}
use Rattle.merge_dl.specs.Laws.{LengthsAreGiven, MembersAreSearchedSoon}
use Rattle.merge_module.specs.MergedModule.{finders_of}
use Rattle.spec_loading.proofs.SlotWords.{table_within}
use Rattle.merge_module.proofs.SlotFunctions.{own_named}
use Rattle.merge_module.proofs.PlannedWords.{stack_within}
use Rattle.merge_index.proofs.Counted.{few_members}
use Rattle.merge_module.proofs.Known.{IsKnown}
use Rattle.merge_module.proofs.References.{IsDefined}
use Rattle.merge_module.proofs.SpelledConstants.{constants_fit}
use Rattle.merge_index.proofs.FewItems.{member_spelled}
use Rattle.merge_module.proofs.SetMembers.{member_formed}
use Rattle.merge_module.proofs.Joins.{own_defined}
use Rattle.merge_module.proofs.MemberEffects.{segments_ready}
use Rattle.merge_module.proofs.OwnNumbers.{n, x, merged}
use Rattle.merge_module.proofs.Generated as generated
use Rattle.merge_module.proofs.LoaderFunctions.{open_there, length_there, find_there, call_there}

module _ (L : LinkedSet) (K : IsKnown L) (few : (linked_plan L).pages_max ≤ 16384) where
  abbrev set : IsSet L.set
  set = K.set

  pub callable : (m : ℕ) (member : Member) → slice_get L.set.members m ≡ Some member → m < length L.set.members → (p : Phase) (f : ℕ)
      → phase_function p m member.wasm ≡ Some f → (r : Ref) × ((set_view L).target m f ≡ Some r) × IsCallable L r
  callable m member at lt p f e =
      let there = K.callees p m lt in
      let is : phase_callee L p m ≡ callee_of L m (Some f) = ap (λ (o : Option Member). o >>= (λ y. Some y.wasm) >>= λ wasm. callee_of L m (phase_function p m wasm)) at ∙ ap (callee_of L m) e in
      let r = went_on ((set_view L).target m f) (λ r. Some (Some r)) there.0 (sym is ∙ there.1) in
      let same : there.0 ≡ Some r.0 = (let q = r.2 in cc) in
      (r.0, r.1, subst (λ o. IfSome o (IsCallable L)) same there.2)

  member_ready : (m : ℕ) → m < length L.set.members → MemberReady L (n L set) (x L set) (merged L set) m
  member_ready m lt =
      let found = got L.set.members m lt in
      let member = found.0 in
      let at = found.1 in
      let here : wasm_of L m ≡ Some member.wasm = ap (λ (o : Option Member). o >>= λ y. Some y.wasm) at in
      let is = holds_at IsMember L.set.members m member set.members at in
      let fits = parts_fit member.wasm is.read.valid in
      let formed = member_formed member is in
      let slots = K.slots m lt in
      let sized = K.table in
      let most = table_within L K.links in
      record {
        wasm = member.wasm;
        found = here;
        effects = segments_ready L K few m member at fits.elems fits.datas formed.elems.1 formed.datas.1 (constants_fit member.wasm member.size (member_spelled member is));
        slot = omega arith;
        fresh = omega arith;
        target = λ p. generated.phase_target L set m member at lt p;
        code = λ p. generated.phase_there L set m member at lt p;
        callable = callable m member at lt;
      }

  pub entry_ready : EntryReady L
  entry_ready =
      let there = K.entry in
      let f = there.0 in
      let set_there = went_on (set_entry L.set.members) (λ g. Some (Own 0 g)) (Own 0 f) there.1 in
      let same : set_there.0 ≡ f = (let q = set_there.2 in cc) in
      let own = own_defined L K 0 f (subst (λ (t : Option FuncType). IsTrue (is_some t)) (sym there.2) refl) in
      record { function = f; entry = set_there.1 ∙ ap Some same; target = own_named L 0 f own.0 own.1 own.2; callable = there.2 }

  pub is_ready : IsReady L (n L set) (x L set) (merged L set)
  is_ready = record { members = member_ready; entry = entry_ready }

pub start_ready : (L : LinkedSet) (set : IsSet L.set) → StartReady L (n L set) (x L set) (merged L set)
start_ready L set = record { start = refl; target = generated.entry_target L set; code = generated.entry_there L set }

-- what the functions of the loader stand on, where they are used
module _ (lengths : LengthsAreGiven) (searches : MembersAreSearchedSoon) (L : LinkedSet) (K : IsKnown L)
    (few : (linked_plan L).pages_max ≤ 16384) (used : uses_loader L ≡ true) where
  open_ready : (m : ℕ) → m < length L.set.members → OpenReady L (n L K.set) (x L K.set) (merged L K.set) m
  open_ready m lt =
      let found = got L.set.members m lt in
      let there = open_there L K.set used m found.0 found.1 in
      let count = few_members L K.set in
      record { target = there.target; code = there.code; word = omega arith }

  find_ready : (m : ℕ) → m < length L.set.members → SearchesMember 8 L m (merged L K.set) ((finders_of L (x L K.set)).find m)
  find_ready m lt =
      let y = got L.set.members m lt in
      let here : wasm_of L m ≡ Some y.0.wasm = ap (λ (o : Option Member). o >>= λ z. Some z.wasm) y.1 in
      searches L K.set K.links m y.0.wasm here (merged L K.set) ((finders_of L (x L K.set)).find m) (find_there L K.set used m y.0 y.1)

  pub loader_ready : LoaderReady L (n L K.set) (x L K.set) (finders_of L (x L K.set)) (merged L K.set)
  loader_ready = record {
    texts = (let within = stack_within L K.links few in omega arith);
    error = refl;
    promoted = refl;
    lengths = lengths (merged L K.set) (finders_of L (x L K.set)).length (length_there L K.set used);
    finds = find_ready;
    calls = call_there L K.set used;
    opens = open_ready;
  }
