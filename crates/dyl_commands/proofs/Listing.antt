-- What comes of listing a set that links.
use Rattle.std.proofs.Common.{◌≡◌, [], Some, Result, Ok, Err, refl, ◌∙◌, subst, inl, inr}
use Rattle.std.specs.FinMap.{get}
use Rattle.spec_hosts.specs.dyl_outside.declared.fault.IoFault.{IoFault}
use Rattle.spec_hosts.specs.dyl_outside.declared.fault.IoFault.TheVariants as io
use Rattle.spec_hosts.specs.dyl_outside.FileMap.{FileMap}
use Rattle.spec_hosts.specs.dyl_outside.Files.{FilesState}
use Rattle.spec_hosts.specs.dyl_outside.Sink.{SinkState, Puts}
use Rattle.spec_hosts.specs.spec_runtime.Names.{HostNames}
use Rattle.spec_loading.specs.spec_linking.LinkedSets.{LinkedSet}
use Rattle.dyl_link.specs.dyl_search.declared.set.SetOptions.{SetOptions}
use Rattle.dyl_link.specs.dyl_search.Gathers.{options_of}
use Rattle.dyl_link.specs.declared.options.LinkOptions.{LinkOptions}
use Rattle.dyl_link.specs.Sets as links
use Rattle.dyl_front.specs.declared.order.Order.TheVariants as order
use Rattle.dyl_front.specs.declared.outcome.Outcome.{Outcome}
use Rattle.dyl_front.specs.declared.outcome.Outcome.TheVariants.{Done, WriteFault, Memory}
use Rattle.dyl_front.specs.Listing.{listing_of}
use Rattle.dyl_commands.specs.Linking.{LinksAt}
use Rattle.dyl_commands.specs.Runs.{PutsListing, PlanWorks}
use Rattle.dyl_commands.specs.Served.{Serves, Gets, Lists}

module _ (names : HostNames) (o : SetOptions) (l : LinkOptions) (L : LinkedSet) (old new : FilesState) (gets : Gets names (options_of o) (links.options_of l) (Ok L) old new) (sink after : SinkState) where
  links_at : (files : FileMap) → old.told ≡ Some files → LinksAt names (get files) (options_of o) (links.options_of l)
  links_at files told = record { set = gets.got.set; gathered = gets.got.gathered files told; links = gets.got.links }

  pub plan_serves : (answer : Outcome) → Lists L answer sink after → Serves names (Ok (order.Plan o l)) answer old new sink.faults after.faults
  plan_serves (Done []) h = record { tells = links_at; leaves = λ files told. gets.files ∙ told; caused = refl; inner = refl }
  plan_serves WriteFault h = record { tells = links_at; leaves = λ files told. gets.files ∙ told; caused = h.count; inner = refl }
  plan_serves Memory h = record { tells = λ files told. tt; leaves = λ files told. gets.files ∙ told; caused = tt; inner = refl }
  plan_serves _ h = absurd h

  puts_listing : (result : Result (Unit {0}) IoFault) → Puts (listing_of L) result sink after → PutsListing old.told names (options_of o) (links.options_of l) result sink after
  puts_listing result put = record {
    set = gets.got.set;
    there = record { gathered = gets.got.gathered; shape = gets.got.shape; links = gets.got.links };
    put = subst (λ (M : LinkedSet). Puts (listing_of M) result sink after) gets.got.is put;
  }

  pub plan_works : (answer : Outcome) → Lists L answer sink after → PlanWorks old.told names (options_of o) (links.options_of l) answer sink after
  plan_works (Done []) h = puts_listing (Ok tt) h
  plan_works WriteFault h = puts_listing (Err io.Failed) h
  plan_works Memory (inl same) = inl same
  plan_works Memory (inr put) = inr (io.Memory, puts_listing (Err io.Memory) put)
  plan_works _ h = absurd h
