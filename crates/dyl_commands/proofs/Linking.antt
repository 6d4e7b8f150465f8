-- What comes of gathering and linking.
use Rattle.std.proofs.Common.{◌≡◌, ◌≤◌, ℕ, List, [], Result, Ok, Err, refl, subst}
use Rattle.std.specs.Option.{ForSome}
use Rattle.std.specs.FinMap.{get}
use Rattle.spec_hosts.specs.dyl_outside.Faults.{Rises}
use Rattle.spec_hosts.specs.dyl_outside.Files.{FilesState}
use Rattle.spec_reading.specs.spec_binary.declared.fault.DecodeFault.TheVariants as decode
use Rattle.spec_loading.specs.spec_validation.declared.fault.CheckFault.TheVariants as check
use Rattle.spec_hosts.specs.spec_runtime.Names.{HostNames}
use Rattle.spec_loading.specs.spec_linking.declared.fault.RecordFault.TheVariants as records
use Rattle.spec_loading.specs.spec_linking.declared.fault.SetFault.{SetFault}
use Rattle.spec_loading.specs.spec_linking.declared.fault.SetFault.TheVariants as set
use Rattle.spec_loading.specs.spec_linking.declared.fault.LinkFault.{LinkFault}
use Rattle.spec_loading.specs.spec_linking.declared.fault.LinkFault.TheVariants as link
use Rattle.spec_loading.specs.spec_linking.Sets.{ClosedSet, SetOptions}
use Rattle.spec_loading.specs.spec_linking.Gathering.{IsGathered, IsSet}
use Rattle.spec_loading.specs.spec_linking.Plans.{LinkOptions}
use Rattle.spec_loading.specs.spec_linking.LinkedSets.{LinkedSet}
use Rattle.spec_loading.specs.spec_linking.Links.{Links, link_fault}
use Rattle.dyl_link.specs.dyl_search.Absents.{CountsFor}
use Rattle.dyl_link.specs.dyl_search.Found.{ReadsOf}
use Rattle.dyl_link.specs.dyl_search.Gathers.{Stops, IsWhole}
use Rattle.dyl_link.specs.Answers.{IsFirst}
use Rattle.dyl_front.specs.declared.outcome.Outcome.{Outcome}
use Rattle.dyl_front.specs.declared.outcome.Outcome.TheVariants.{Set, Link, Memory}
use Rattle.dyl_commands.specs.Linking.{linked}
use Rattle.dyl_commands.specs.Counts.{ReadsFor, TriedForSet}
use Rattle.dyl_commands.specs.Served.{IsNotGot, Gets, LinksTo, set_outcome, link_outcome}
use Rattle.dyl_commands.proofs.Counting.{at_least, tried_wanting}

-- a set that links, by the names that were declared
pub links_to : (l : LinkOptions) (S : ClosedSet) (names also : HostNames) (L : LinkedSet) → names ≡ also → L ≡ linked names l S → Links L → LinksTo (linked also l S) (Ok L)
links_to l S names also L same is links =
    let here : L ≡ linked also l S = subst (λ n. L ≡ linked n l S) same is in
    (here, subst Links here links)

-- one that doesn't
first_fault_to : (L : LinkedSet) (fault : LinkFault) → IsFirst fault (link_fault L) → LinksTo L (Err (link_outcome fault))
first_fault_to L link.Memory h = tt
first_fault_to L fault h = h (λ is. cc)

pub links_not : (l : LinkOptions) (S : ClosedSet) (names also : HostNames) (fault : LinkFault) → names ≡ also → IsFirst fault (link_fault (linked names l S)) → LinksTo (linked also l S) (Err (link_outcome fault))
links_not l S names also fault same h = first_fault_to (linked also l S) fault (subst (λ n. IsFirst fault (link_fault (linked n l S))) same h)

module _ (names : HostNames) (o : SetOptions) (l : LinkOptions) (old new : FilesState) (files : new.told ≡ old.told) (writes : new.write_faults ≡ old.write_faults) (absents : old.absents ≤ new.absents) where
  abbrev Found : Outcome → Type 0
  Found answer = IsNotGot names o l answer old new

  -- no set is linked
  none : (answer : Outcome) → Found answer → ReadsFor answer old.read_faults new.read_faults → TriedForSet old.told o answer old.absents new.absents → Gets names o l (Err answer) old new
  none answer h reads tried = record { got = tt; fault = h; files = files; reads = reads; writes = writes; absents = absents; tried = tried }

  -- a set was gathered
  pub got : (S : ClosedSet) (r : Result LinkedSet Outcome) → ForSome old.told (λ m. IsGathered (get m) o (Ok S)) → IsSet S → new.read_faults ≡ old.read_faults
      → CountsFor old.told o (Ok S) old.absents new.absents → LinksTo (linked names l S) r → Gets names o l r old new
  got S (Ok L) gathered shape reads tried links = record {
    got = record { set = S; gathered = gathered; shape = shape; links = links.1; is = links.0 };
    fault = tt;
    files = files;
    reads = reads;
    writes = writes;
    absents = absents;
    tried = (S, tried);
  }
  got S (Err Memory) gathered shape reads tried links =
      none Memory (record { tells = λ m told. tt; caused = tt; inner = refl }) (at_least old.read_faults new.read_faults reads) (tried_wanting old.told o (Ok S) old.absents new.absents tried)
  got S (Err (Link link.Memory)) gathered shape reads tried links = absurd links
  got S (Err (Link fault)) gathered shape reads tried links =
      none (Link fault) (record { tells = λ m told. record { set = S; gathered = gathered m told; found = links }; caused = tt; inner = refl }) reads (S, tried)
  got S (Err _) gathered shape reads tried links = absurd links

  -- none was
  pub not_got : (fault : SetFault) → ForSome old.told (λ m. Stops (get m) o fault) → IsWhole fault → ReadsOf {A = ClosedSet} (Err fault) old.read_faults new.read_faults
      → ((name : List ℕ) → fault ≡ set.Missing name → Rises old.absents new.absents) → CountsFor old.told o (Err fault) old.absents new.absents → Gets names o l (Err (set_outcome fault)) old new
  not_got set.Memory stops whole reads absent tried = none Memory (record { tells = λ m told. tt; caused = tt; inner = refl }) (at_least old.read_faults new.read_faults reads) tried
  not_got (set.ReadFault path) stops whole reads absent tried = none (Set (set.ReadFault path)) (record { tells = stops; caused = reads; inner = refl }) reads tried
  not_got (set.Missing name) stops whole reads absent tried = none (Set (set.Missing name)) (record { tells = stops; caused = absent name refl; inner = refl }) reads tried
  not_got (set.Decode n decode.Memory) stops whole reads absent tried = absurd whole
  not_got (set.Record n records.Memory) stops whole reads absent tried = absurd whole
  not_got (set.Check n check.Memory) stops whole reads absent tried = absurd whole
  not_got fault stops whole reads absent tried = none (Set fault) (record { tells = stops; caused = tt; inner = refl }) reads tried
