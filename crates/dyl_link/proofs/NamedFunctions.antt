-- Each number of a function of a member of a linked set names a function.
use Rattle.std.proofs.Common.{◌≡◌, ◌<◌, length, Option, Some, None, refl, arith, slice_get}
use Rattle.std.specs.Prelude.{unwrap_or, is_some, IsTrue}
use Rattle.spec_loading.specs.spec_binary.Options.{◌>>=◌}
use Rattle.spec_loading.specs.spec_binary.IndexSpaces.{function_space}
use Rattle.spec_loading.specs.spec_linking.Sets.{Member}
use Rattle.spec_loading.specs.spec_linking.Gathering.{IsMember}
use Rattle.spec_loading.specs.spec_linking.LinkedSets.{function_ref}
use Rattle.spec_loading.specs.Laws.{LinkedIsTyped}
use Rattle.spec_loading.proofs.of_spec_validation.Parts.{parts_fit}
use Rattle.spec_loading.proofs.of_spec_safety.Lookups.{holds_at}
use Rattle.spec_loading.proofs.of_spec_safety.Spaces.{function_has_type}
use Rattle.dyl_link.specs.Laws.{FunctionsAreThere}

pub named_there : LinkedIsTyped → FunctionsAreThere
named_there law L shape links m f less = go (slice_get L.set.members m) refl less
  where
    go : (o : Option Member) → slice_get L.set.members m ≡ o → f < unwrap_or ((o >>= λ x. Some x.wasm) >>= λ wasm. Some (length (function_space wasm))) 0 → IsTrue (is_some (function_ref L m f))
    go None e lt = absurd (omega arith)
    go (Some x) e lt =
        let member : IsMember x = holds_at IsMember L.set.members m x shape.members e in
        let ty = function_has_type x.wasm (parts_fit x.wasm member.read.valid) f lt in
        let named = law L shape links m f x ty.0 e ty.1 in
        rw named.1 refl
