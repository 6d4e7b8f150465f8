-- What files give to run: a set that links, or a module that opens.
use Rattle.std.proofs.Common.{◌≡◌, Bool, true, false, ap, ◌∙◌, subst}
use Rattle.spec_hosts.specs.spec_runtime.Names.{HostNames}
use Rattle.spec_hosts.specs.declared.ran.Ran as ran
use Rattle.spec_loading.specs.spec_linking.Sets.{Files, SetOptions}
use Rattle.spec_loading.specs.spec_linking.Plans.{LinkOptions}
use Rattle.spec_loading.specs.spec_linking.LinkedSets.{LinkedSet}
use Rattle.spec_loading.specs.spec_linking.Links.{Links}
use Rattle.run_loaded.specs.Courses.{Origin, OfModule, OfSet}
use Rattle.dyl_front.specs.declared.outcome.Outcome.TheVariants.{Ran}
use Rattle.dyl_commands.specs.Linking.{linked, LinksAt}
use Rattle.dyl_commands.specs.Traced.{IsProgram, IsLoaded}
use Rattle.dyl_commands.specs.Due.{TraceDue}

module _ (names : HostNames) (files : Files) (o : SetOptions) (l : LinkOptions) where
  pub relinked : (L : LinkedSet) → L.names ≡ names → L.options ≡ l → L ≡ linked names l L.set
  relinked L named with_options = ap (λ n. linked n L.options L.set) named ∙ ap (λ options. linked names options L.set) with_options

  links_at : (L : LinkedSet) → IsProgram names files false o l (OfSet L) → LinksAt names files o l
  links_at L h = record { set = L.set; gathered = h.2; links = subst Links (relinked L h.0 h.1) h.3 }

  -- it is loaded, and a run is due
  pub program_loaded : (one : Bool) (x : Origin) → IsProgram names files one o l x → IsLoaded names files one o l
  program_loaded false (OfSet L) h = links_at L h
  program_loaded false (OfModule m opening) h = absurd h
  program_loaded true (OfModule m opening) h = (m, h.0)
  program_loaded true (OfSet L) h = absurd h

  pub run_due : (one : Bool) (x : Origin) → IsProgram names files one o l x → (r : ran.Ran) → TraceDue names files one o l (Ran r)
  run_due false (OfSet L) h r = links_at L h
  run_due false (OfModule m opening) h r = absurd h
  run_due true (OfModule m opening) h r = record { wasm = m; file = h.0; opening = opening; opens = h.1 }
  run_due true (OfSet L) h r = absurd h
