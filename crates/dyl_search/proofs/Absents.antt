-- How the count of Absent answers rises.
use Rattle.std.proofs.Common.{◌≡◌, ℕ, List, [], ◌∷◌, ◌++◌, Some, None, refl, sym, ap, ◌∙◌, subst, append-nil, append_assoc}
use Rattle.dyl_outside.specs.Faults.{RisesByOne}
use Rattle.spec_linking.specs.Sets.{Files, Member, SetOptions}
use Rattle.spec_linking.specs.Gathering.{first_in, Reaches, tried_from, tried_next}
use Rattle.dyl_search.specs.Absents.{RisesOnce, RisesAt, BreaksOff}

module _ (files : Files) where
  -- ---- at one path

  pub rises_there : (path bytes : List ℕ) (before now : ℕ) → files path ≡ Some bytes → now ≡ before → RisesAt files (path ∷ []) before now
  rises_there path bytes before now there same = (before, subst (λ o. RisesOnce o before before) (sym there) refl, same)

  pub rises_nowhere : (path : List ℕ) (before now : ℕ) → files path ≡ None → RisesByOne before now → RisesAt files (path ∷ []) before now
  rises_nowhere path before now none rises = (now, subst (λ o. RisesOnce o before now) (sym none) rises, refl)

  -- ---- at some paths, and then at others

  pub rises_append : (us vs : List (List ℕ)) (a b c : ℕ) → RisesAt files us a b → RisesAt files vs b c → RisesAt files (us ++ vs) a c
  rises_append [] vs a b c h k = subst (λ n. RisesAt files vs n c) h k
  rises_append (u ∷ us) vs a b c h k = (h.0, h.1, rises_append us vs h.0 b c h.2 k)

  rises_split : (us vs : List (List ℕ)) (a c : ℕ) → RisesAt files (us ++ vs) a c → (b : ℕ) × RisesAt files us a b × RisesAt files vs b c
  rises_split [] vs a c h = (a, refl, h)
  rises_split (u ∷ us) vs a c h = (let rest = rises_split us vs h.0 c h.2 in (rest.0, (h.0, h.1, rest.1), rest.2))

  rises_same : (us vs : List (List ℕ)) (a b : ℕ) → us ≡ vs → RisesAt files us a b → RisesAt files vs a b
  rises_same us vs a b same h = subst (λ ws. RisesAt files ws a b) same h

  -- ---- of members

  module _ (o : SetOptions) where
    -- those that are tried for a further member
    pub rises_more : (before members : List Member) (m : Member) (a b c : ℕ) → RisesAt files (tried_from files o before members) a b → RisesAt files (tried_next files o (before ++ members)) b c
        → RisesAt files (tried_from files o before (members ++ m ∷ [])) a c
    rises_more before [] m a b c h k =
        rises_append (tried_next files o before) [] a c c
        (rises_append [] (tried_next files o before) a b c h (rises_same (tried_next files o (before ++ [])) (tried_next files o before) b c (ap (tried_next files o) (append-nil before)) k)) refl
    rises_more before (x ∷ xs) m a b c h k =
        let parts = rises_split (tried_next files o before) (tried_from files o (before ++ x ∷ []) xs) a b h in
        rises_append (tried_next files o before) (tried_from files o (before ++ x ∷ []) (xs ++ m ∷ [])) a parts.0 c parts.1
        (rises_more (before ++ x ∷ []) xs m parts.0 b c parts.2
        (rises_same (tried_next files o (before ++ x ∷ xs)) (tried_next files o ((before ++ x ∷ []) ++ xs)) b c (ap (tried_next files o) (sym (append_assoc before (x ∷ []) xs))) k))

    -- nothing more was tried
    pub rises_all : (members : List Member) (a b : ℕ) → RisesAt files (tried_from files o [] members) a b → RisesAt files (tried_from files o [] members ++ []) a b
    rises_all members a b h = rises_append (tried_from files o [] members) [] a b b h refl

    -- ---- where gathering broke off

    pub nothing_left : (members : List Member) → Reaches (first_in files) o members → BreaksOff files o (tried_from files o [] members ++ tried_next files o members) []
    nothing_left members reached = record { members = members; reached = reached; parts = sym (append-nil (tried_from files o [] members ++ tried_next files o members)) }

    pub breaks_off : (members : List Member) (tried left : List (List ℕ)) → Reaches (first_in files) o members → tried_next files o members ≡ tried ++ left
        → BreaksOff files o (tried_from files o [] members ++ tried) left
    breaks_off members tried left reached parts = record {
      members = members;
      reached = reached;
      parts = ap (λ l. tried_from files o [] members ++ l) parts ∙ sym (append_assoc (tried_from files o [] members) tried left);
    }
