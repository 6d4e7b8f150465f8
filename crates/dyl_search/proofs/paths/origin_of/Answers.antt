use Rattle.std.proofs.Common.{◌≡◌, subst, ℕ, take, length, ◌-◌, ◌++◌, ◌∷◌, []}
use Rattle.dyl_search.proofs.Origins.{no_origin, an_origin}
use Rattle.dyl_search.proofs.paths.origin_of.Goals as goal

pub returns-in-None : goal.returns-in-None
returns-in-None c = no_origin c.args.path.now c.folder_of.result.now c.folder_of.ensures c.in-None.ensures.cases

pub returns-in-Some : goal.returns-in-Some
returns-in-Some c = let h = c.in-Some.ensures.cases in
    let P : ℕ → Type 0 = λ k. c.folder_of.result.now ≡ take (length c.folder_of.result.now - k) c.folder_of.result.now ++ 47 ∷ [] in
    an_origin c.args.path.now c.folder_of.result.now c.in-Some.origin.now h.0 c.folder_of.ensures h.1.0 (subst P h.1.0 h.1.1) h.2
