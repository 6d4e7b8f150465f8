-- Words that are drawn one after the other.
use Rattle.std.proofs.Common.{◌≡◌, ℕ, suc, ◌+◌, ◌-◌, ◌<◌, List, [], ◌∷◌, ◌++◌, Result, Ok, Err, inr, subst, refl, arith}
use Rattle.spec_hosts.specs.dyl_outside.declared.fault.IoFault.{IoFault}
use Rattle.spec_hosts.specs.dyl_outside.declared.fault.IoFault.TheVariants.{Failed, Memory}
use Rattle.spec_hosts.specs.dyl_outside.Ambient.{AmbientState, GivesWord}
use Rattle.spec_hosts.specs.wasm_form.declared.runtime.Answer.{Answer}
use Rattle.spec_hosts.specs.Calls.{refused, io}
use Rattle.spec_hosts.specs.Hosted.{Draws, DrawsSome}
use Rattle.spec_hosts.proofs.Begun.{none_drawn}
use Rattle.host_wasi.specs.Uses.{Drawn}

-- from here on the rest of the words makes the whole
pub record LeadsFrom (first : AmbientState) (count : ℕ) (clock : AmbientState) (left : ℕ) (words : List ℕ) : Type 0 where
  pub drawn : (go : List ℕ → Answer) (answer : Answer) (last : AmbientState) → Draws left words go answer clock last → Draws count [] go answer first last
  pub some : (last : AmbientState) → DrawsSome left clock last → DrawsSome count first last

module _ (first clock next : AmbientState) (count i : ℕ) (words : List ℕ) (lt : i < count) where
  one_more : suc (count - (i + 1)) ≡ count - i
  one_more = omega arith

  -- one more word was given
  pub leads_on : (word : ℕ) → GivesWord (Ok word) clock next → LeadsFrom first count clock (count - i) words → LeadsFrom first count next (count - (i + 1)) (words ++ word ∷ [])
  leads_on word given so_far = record {
    drawn = λ go answer last more. so_far.drawn go answer last (subst (λ n. Draws n words go answer clock last) one_more (Ok word, next, given, more));
    some = λ last more. so_far.some last (subst (λ n. DrawsSome n clock last) one_more (inr (Ok word, next, given, more)));
  }

  -- this was the last word that was asked for
  pub some_here : (result : Result ℕ IoFault) → GivesWord result clock next → LeadsFrom first count clock (count - i) words → DrawsSome count first next
  some_here result given so_far = so_far.some next (subst (λ n. DrawsSome n clock next) one_more (inr (result, next, given, none_drawn (count - (i + 1)) next next refl)))

  -- no word was given
  pub ends_here : (fault : IoFault) → GivesWord (Err fault) clock next → LeadsFrom first count clock (count - i) words → Drawn count (Err fault) first next
  ends_here Failed given so_far = λ go. so_far.drawn go (refused io) next (subst (λ n. Draws n words go (refused io) clock next) one_more (Err Failed, next, given, (refl, refl)))
  ends_here Memory given so_far = tt
