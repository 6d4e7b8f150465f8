-- What is above the limits, where the regions lie.
-- Serves the contracts of this crate, which follow Links of `spec_linking`.
use Rattle.spec_loading.specs.spec_linking.declared.fault.PlanFault.{PlanFault}
use Rattle.spec_loading.specs.spec_linking.declared.fault.PlanFault.TheVariants as plan_faults
use Rattle.spec_loading.specs.spec_linking.declared.fault.LinkFault.{LinkFault}
use Rattle.spec_loading.specs.spec_linking.declared.fault.LinkFault.TheVariants.{MemoryLimit, TableLimit, Memory}
use Rattle.spec_loading.specs.spec_linking.Sets.{ClosedSet}
use Rattle.spec_loading.specs.spec_linking.Plans.{LinkOptions, plan_of, sizes_of, pages_limit, regions_limit}
use Rattle.spec_loading.specs.spec_linking.Links.{Finding, ◌or_else◌}

abbrev pub limit_of : PlanFault → LinkFault
limit_of (plan_faults.MemoryLimit pages most) = MemoryLimit pages most
limit_of (plan_faults.TableLimit entries most) = TableLimit entries most
limit_of plan_faults.Memory = Memory

-- the pages, and then the entries that the regions and the imports ask for
abbrev pub regions_fault : ClosedSet → LinkOptions → Finding
regions_fault S o = pages_limit MemoryLimit (plan_of S o) or_else regions_limit TableLimit (plan_of S o) (sizes_of S o)
