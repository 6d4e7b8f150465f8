-- Reading sections and modules (WebAssembly Core 2.0, sections 5.5.2 to 5.5.16).
use Rattle.std.specs.Prelude.{ℕ, zero, suc, Bool, ◌&&◌, List, [], ◌∷◌, length, take, drop, Option, None, Some, Result, Ok, Err, nat_eq, nat_lt, bytes_eq, if◌then◌else◌}
use Rattle.std.specs.List.{list_all}
use Rattle.spec_binary.specs.wasm_form.declared.module.Code.{Code}
use Rattle.spec_binary.specs.wasm_form.declared.module.Module.{Module}
use Rattle.spec_binary.specs.Trees.{every_of}
use Rattle.spec_binary.specs.Sections.{Progress, at_start, with_custom, with_types, with_imports, with_funcs, with_tables, with_memories, with_globals, with_exports, with_start, with_elems, with_data_count, with_codes, with_datas}
use Rattle.spec_binary.specs.Modules.{header}
use Rattle.spec_binary.specs.WellFormed.{names_no_data}
use Rattle.spec_binary.specs.declared.fault.DecodeFault.{DecodeFault}
use Rattle.spec_binary.specs.declared.fault.DecodeFault.TheVariants.{Malformed, Counts}
use Rattle.spec_binary.specs.Saturated.{saturated}
use Rattle.spec_reading.specs.Steps.{Break, ◌>>=◌, Read, whole}
use Rattle.spec_reading.specs.Values.{number_at, cut_at, name_at, vec_at}
use Rattle.spec_reading.specs.Types.{func_type_at, table_type_at, limits_at}
use Rattle.spec_reading.specs.Parts.{import_at, global_at, export_at, elem_at, data_at}
use Rattle.spec_reading.specs.Bodies.{Room, usual_room, bodies_at}

-- behind so many sections nothing more is well spelled
abbrev pub in_section : {A : Type 0} → ℕ → Result A Break → Result A DecodeFault
in_section sections (Ok x) = Ok x
in_section sections (Err e) = Err (Malformed sections)

abbrev pub with_name : Progress → List ℕ × List ℕ → Progress
with_name s custom = with_custom s custom.0 custom.1

unfoldable pub custom_at : ℕ → Progress → List ℕ → Result Progress DecodeFault
custom_at sections s text = in_section sections (name_at text) >>= λ custom. Ok (with_name s custom)

-- contents that are read so and take all of the text, in a section of this rank
unfoldable pub field_at : {A : Type 0} → (List ℕ → Read A) → (Progress → A → Progress) → ℕ → ℕ → Progress → List ℕ → Result Progress DecodeFault
field_at read put rank sections s text =
    if nat_lt s.last rank then (in_section sections (whole (read text)) >>= λ x. Ok (put s x)) else Err (Malformed sections)

-- what was read, if nothing follows it
abbrev pub all_of : {A : Type 0} → ℕ → A × List ℕ → Result A DecodeFault
all_of sections (x, []) = Ok x
all_of sections (x, b ∷ bs) = Err (Malformed sections)

unfoldable pub codes_at : Room → ℕ → List ℕ → Result (List Code) DecodeFault
codes_at room sections text = do
  k ← in_section sections (number_at 32 text)
  codes ← bodies_at room sections k.0 0 k.1
  all_of sections codes

unfoldable pub code_section_at : Room → ℕ → Progress → List ℕ → Result Progress DecodeFault
code_section_at room sections s text = if nat_lt s.last 11 then (codes_at room sections text >>= λ xs. Ok (with_codes s xs)) else Err (Malformed sections)

-- the contents of the section with this number
unfoldable pub contents_at : Room → ℕ → Progress → ℕ → List ℕ → Result Progress DecodeFault
contents_at room sections s id text =
    if nat_eq id 0 then custom_at sections s text
    else if nat_eq id 1 then field_at (vec_at func_type_at) with_types 1 sections s text
    else if nat_eq id 2 then field_at (vec_at import_at) with_imports 2 sections s text
    else if nat_eq id 3 then field_at (vec_at (number_at 32)) with_funcs 3 sections s text
    else if nat_eq id 4 then field_at (vec_at table_type_at) with_tables 4 sections s text
    else if nat_eq id 5 then field_at (vec_at limits_at) with_memories 5 sections s text
    else if nat_eq id 6 then field_at (vec_at global_at) with_globals 6 sections s text
    else if nat_eq id 7 then field_at (vec_at export_at) with_exports 7 sections s text
    else if nat_eq id 8 then field_at (number_at 32) with_start 8 sections s text
    else if nat_eq id 9 then field_at (vec_at elem_at) with_elems 9 sections s text
    else if nat_eq id 10 then code_section_at room sections s text
    else if nat_eq id 11 then field_at (vec_at data_at) with_datas 12 sections s text
    else if nat_eq id 12 then field_at (number_at 32) with_data_count 10 sections s text
    else Err (Malformed sections)

-- the section at the front, behind so many
unfoldable pub section_at : Room → ℕ → Progress → List ℕ → Result (Progress × List ℕ) DecodeFault
section_at room sections s [] = Err (Malformed sections)
section_at room sections s (id ∷ text) = do
  contents ← in_section sections (cut_at text)
  t ← contents_at room sections s id contents.0
  Ok (t, contents.1)

-- fewer than `fuel` sections up to the end of the text, behind `count` of them
unfoldable pub chain_at : Room → ℕ → ℕ → Progress → List ℕ → Result Progress DecodeFault
chain_at room fuel count s [] = Ok s
chain_at room zero count s (b ∷ bs) = Err (Malformed (saturated count))
chain_at room (suc fuel) count s (b ∷ bs) = do
  t ← section_at room (saturated count) s (b ∷ bs)
  chain_at room fuel (suc count) t.0 t.1

-- a body that names no data segment
abbrev pub leaves_data : Code → Bool
leaves_data c = every_of names_no_data c.body.list

abbrev pub is_data_counted : Option ℕ → Module → Bool
is_data_counted (Some n) m = nat_eq n (length m.datas)
is_data_counted None m = list_all leaves_data m.codes

abbrev pub counts_agree : Module → Bool
counts_agree m = nat_eq (length m.codes) (length m.funcs) && is_data_counted m.data_count m

abbrev pub counted : Module → Result Module DecodeFault
counted m = if counts_agree m then Ok m else Err Counts

-- the header, and the sections behind it
unfoldable pub sections_at : Room → List ℕ → Result Progress DecodeFault
sections_at room bytes = if bytes_eq (take 8 bytes) header then chain_at room (length bytes) 0 at_start (drop 8 bytes) else Err (Malformed 0)

-- what is to say of bytes
unfoldable pub answer_of : List ℕ → Result Module DecodeFault
answer_of bytes = sections_at usual_room bytes >>= λ s. counted s.fields
