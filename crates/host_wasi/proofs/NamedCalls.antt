-- A pass over the calls.
use Rattle.std.proofs.Common.{◌≡◌, ℕ, ◌+◌, ◌<◌, ◌≤◌, List, Some, cond, Bool, map, drop, length, get_or, ap, ◌∙◌, add-one, arith}
use Rattle.std.proofs.Math.Seq.{drop-cons}
use Rattle.std.proofs.Math.ListN.{drop_of_length-le}
use Rattle.std.specs.Str.{bytes_eq}
use Rattle.spec_hosts.specs.wasm_form.declared.types.FuncType.{FuncType}
use Rattle.spec_hosts.specs.spec_runtime.Names.{HostNames, with_name, with_names}
use Rattle.spec_hosts.specs.Calls.{wasi_name, name_of, type_of_call, first_named, host_name_of}
use Rattle.host_wasi.specs.Wants.{meant}
use Rattle.host_wasi.specs.declared.calls.Call.{Call}

first_named_first : (name : List ℕ) (cs : List Call) (i : ℕ) (d : Call) → i < length cs
    → first_named name (map meant (drop i cs)) ≡ cond (bytes_eq name (name_of (meant (get_or cs i d)))) (Some (meant (get_or cs i d))) (first_named name (map meant (drop (i + 1) cs)))
first_named_first name cs i d lt = rw (add-one, drop-cons cs i d)

-- the first call that is left has the name, or a later one
pub first_named_next : (name : List ℕ) (cs : List Call) (i : ℕ) (d : Call) (b : Bool) → i < length cs → bytes_eq name (name_of (meant (get_or cs i d))) ≡ b
    → first_named name (map meant (drop i cs)) ≡ cond b (Some (meant (get_or cs i d))) (first_named name (map meant (drop (i + 1) cs)))
first_named_next name cs i d b lt test =
    first_named_first name cs i d lt ∙ ap (λ t. cond t (Some (meant (get_or cs i d))) (first_named name (map meant (drop (i + 1) cs)))) test

-- the first call that is left is declared
pub with_names_next : (old new : HostNames) (cs : List Call) (i : ℕ) (d : Call) (name : List ℕ) (ty : FuncType) → i < length cs
    → name ≡ name_of (meant (get_or cs i d)) → ty ≡ type_of_call (meant (get_or cs i d)) → new ≡ with_name old (record { module_name = wasi_name; name = name; ty = ty })
    → with_names new (map host_name_of (map meant (drop (i + 1) cs))) ≡ with_names old (map host_name_of (map meant (drop i cs)))
with_names_next old new cs i d name ty lt named typed declared = grind (arith, drop-cons cs i d, named, typed, declared)

-- no call is left
pub with_names_done : (names declared : HostNames) (cs : List Call) (i : ℕ) → length cs ≤ i → with_names names (map host_name_of (map meant (drop i cs))) ≡ declared → names ≡ declared
with_names_done names declared cs i le so_far = rw drop_of_length-le at so_far
