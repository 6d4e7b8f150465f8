-- A name that isn't UTF-8 is defined by no member: names of the binary format are UTF-8 (WebAssembly Core 2.0, section 5.2.4).
use Rattle.std.proofs.Common.{◌≡◌, ℕ, Bool, true, false, List, [], ◌∷◌, IsUtf8, Option, Some, None, slice_get, bytes_eq, refl, ap, sym, ◌∙◌, subst}
use Rattle.std.specs.Prelude.{All, Result, Ok}
use Rattle.std.proofs.lemmas.List.Elements.{All-nil, All-head, All-tail, All-weaker}
use Rattle.std.proofs.lemmas.Slice.Eq.{bytes_eq-Decides}
use Rattle.spec_loading.specs.wasm_form.declared.module.Export.{Export}
use Rattle.spec_loading.specs.wasm_form.declared.module.ExportDesc.{ExportDesc}
use Rattle.spec_loading.specs.wasm_form.declared.module.Module.{Module}
use Rattle.spec_loading.specs.spec_binary.Sequence.{SpellsVec, vec}
use Rattle.spec_loading.proofs.of_spec_binary.Joined.{each_all}
use Rattle.spec_loading.proofs.of_spec_binary.NameSpelling.{name_utf8}
use Rattle.spec_loading.specs.spec_binary.declared.fault.DecodeFault.{DecodeFault}
use Rattle.spec_loading.specs.spec_binary.Options.{◌>>=◌}
use Rattle.spec_loading.specs.spec_binary.Parts.{SpellsExport, export}
use Rattle.spec_loading.specs.spec_binary.Sections.{Progress, Contents, custom, types, imports, funcs, tables, memories, globals, exports, start, elems, data_count, codes, datas, Chain, done, next}
use Rattle.spec_loading.specs.spec_binary.Modules.{SpellsModule}
use Rattle.spec_loading.specs.spec_binary.DecodeAnswers.{DecodeAnswer, spelled}
use Rattle.spec_loading.specs.spec_binary.Exports.{exported_as}
use Rattle.spec_loading.proofs.of_spec_binary.Lists.{holds_at}
use Rattle.spec_loading.specs.spec_linking.Sets.{Member, ClosedSet}
use Rattle.spec_loading.specs.spec_linking.Gathering.{IsMember, IsSet}
use Rattle.spec_loading.specs.spec_linking.Definitions.{Undefined, or_defined, is_one_of, reserved_names, desc_symbol, symbol_of, defined_by, member_definition, searched}

abbrev HasText : Export → Type 0
HasText e = IsUtf8 e.name

export_text : (e : Export) (w : List ℕ) → SpellsExport e w → HasText e
export_text e w (export n d) = name_utf8 n

exports_texts : {es : List Export} {w : List ℕ} → SpellsVec SpellsExport es w → All HasText es
exports_texts (vec n s) = each_all HasText export_text s

contents_texts : {s t : Progress} {id : ℕ} {w : List ℕ} → Contents s id w t → All HasText s.fields.exports → All HasText t.fields.exports
contents_texts (custom bytes n) texts = texts
contents_texts (types order v) texts = texts
contents_texts (imports order v) texts = texts
contents_texts (funcs order v) texts = texts
contents_texts (tables order v) texts = texts
contents_texts (memories order v) texts = texts
contents_texts (globals order v) texts = texts
contents_texts (exports order v) texts = exports_texts v
contents_texts (start order n) texts = texts
contents_texts (elems order v) texts = texts
contents_texts (data_count order n) texts = texts
contents_texts (codes order v) texts = texts
contents_texts (datas order v) texts = texts

chain_texts : {s t : Progress} {k : ℕ} {w : List ℕ} → Chain s k w t → All HasText s.fields.exports → All HasText t.fields.exports
chain_texts done texts = texts
chain_texts (next framed held chain) texts = chain_texts chain (contents_texts held texts)

module_texts : (m : Module) (bytes : List ℕ) → SpellsModule m bytes → All HasText m.exports
module_texts m bytes is = subst (λ (x : Module). All HasText x.exports) is.fields (chain_texts is.chain (All-nil HasText))

decoded_texts : (bytes : List ℕ) (r : Result Module DecodeFault) → DecodeAnswer bytes r → (m : Module) → r ≡ Ok m → All HasText m.exports
decoded_texts bytes _ (spelled {m = n} text within counts) m e = (let same : n ≡ m = cc in subst (λ (x : Module). All HasText x.exports) same (module_texts n bytes text))
decoded_texts bytes _ _ m e = absurd cc

-- ---- a name that no member exports

undefined : (name : List ℕ) (m : Module) → exported_as name m.exports ≡ None → symbol_of m name ≡ None
undefined name m none = by (is_one_of name reserved_names) refl
  where
    by : (b : Bool) → is_one_of name reserved_names ≡ b → symbol_of m name ≡ None
    by true p = rw p refl
    by false p = rw p (ap (λ (o : Option ExportDesc). o >>= desc_symbol m) none)

abbrev pub ExportsNo : List ℕ → Member → Type 0
ExportsNo name member = exported_as name member.wasm.exports ≡ None

module _ (name : List ℕ) (S : ClosedSet) (without : All (ExportsNo name) S.members) where
  no_definition : (m : ℕ) → member_definition S m name ≡ Undefined
  no_definition m = by (slice_get S.members m) refl
    where
      by : (o : Option Member) → slice_get S.members m ≡ o → member_definition S m name ≡ Undefined
      by None p = ap (λ (o : Option Member). defined_by m (o >>= λ member. symbol_of member.wasm name)) p
      by (Some member) p =
          ap (λ (o : Option Member). defined_by m (o >>= λ member. symbol_of member.wasm name)) p
          ∙ ap (defined_by m) (undefined name member.wasm (holds_at (ExportsNo name) S.members m member without p))

  pub none_searched : (ms : List ℕ) → searched S ms name ≡ Undefined
  none_searched [] = refl
  none_searched (m ∷ ms) = ap (λ d. or_defined d (searched S ms name)) (no_definition m) ∙ none_searched ms

-- ---- a name that isn't UTF-8

module _ (name : List ℕ) (broken : IsUtf8 name → ⊥) where
  not_exported : (es : List Export) → All HasText es → exported_as name es ≡ None
  not_exported [] texts = refl
  not_exported (e ∷ es) texts = by (bytes_eq name e.name) refl (not_exported es (All-tail HasText e es texts))
    where
      by : (b : Bool) → bytes_eq name e.name ≡ b → exported_as name es ≡ None → exported_as name (e ∷ es) ≡ None
      by true p rest = (let same : name ≡ e.name = (bytes_eq-Decides name e.name).0 p in absurd (broken (subst IsUtf8 (sym same) (All-head HasText e es texts))))
      by false p rest = rw p rest

  member_without : (member : Member) → IsMember member → ExportsNo name member
  member_without member this = not_exported member.wasm.exports (decoded_texts this.bytes (Ok member.wasm) this.read.told member.wasm refl)

  pub no_text : (S : ClosedSet) → IsSet S → (ms : List ℕ) → searched S ms name ≡ Undefined
  no_text S is ms = none_searched name S (All-weaker IsMember (ExportsNo name) member_without S.members is.members) ms
