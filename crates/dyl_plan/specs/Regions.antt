-- Regions and sizes, as the definitions see them, and what placing answers.
-- Serves the contracts of this crate, which follow Plans of `spec_linking`.
use Rattle.std.specs.Prelude.{◌≡◌, ◌≢◌, ℕ, ◌≤◌, max, Option, Some, None, Result, Ok, Err}
use Rattle.spec_linking.specs.declared.fault.PlanFault.{PlanFault}
use Rattle.spec_linking.specs.declared.fault.PlanFault.TheVariants.{MemoryLimit, TableLimit, Memory}
use Rattle.spec_linking.specs.Plans as plans
use Rattle.dyl_plan.specs.declared.region.Region.{Region}
use Rattle.dyl_plan.specs.declared.region.Sizes.{Sizes}
use Rattle.dyl_plan.specs.declared.region.Space.{Space}
use Rattle.dyl_plan.specs.declared.region.Space.TheVariants as space
use Rattle.dyl_plan.specs.declared.plan.Ends.{Ends}

abbrev pub region_of : Region → plans.Region
region_of r = record { mem_size = r.mem_size; mem_align = r.mem_align; table_size = r.table_size; table_align = r.table_align }

abbrev pub asked : Sizes → plans.Sizes
asked s = record { stack = s.stack; pages_min = s.pages_min; pages_max = s.pages_max; table_min = s.table_min; table_max = s.table_max }

-- the alignments are powers of two below 2^32
abbrev pub HasAligns : Region → Type 0
HasAligns r = (r.mem_align ≤ 31) × (r.table_align ≤ 31)

abbrev pub size_in : Space → plans.Region → ℕ
size_in space.Memory r = r.mem_size
size_in space.Table r = r.table_size

abbrev pub align_in : Space → plans.Region → ℕ
align_in space.Memory r = r.mem_align
align_in space.Table r = r.table_align

-- the ends of a plan
abbrev pub ends_in : plans.Plan → Ends
ends_in p = record { stack_top = p.stack_top; heap_base = p.heap_base; pages = p.pages; table_end = p.table_end }

-- what is answered where this fault is found: Ok where none is, and otherwise that one; or that memory ran out
abbrev pub TellsFault : {A : Type 0} → Result A PlanFault → Option PlanFault → Type 0
TellsFault (Ok x) found = found ≡ None
TellsFault (Err e) found = e ≢ Memory → found ≡ Some e

-- what ends come to that are above what may be
abbrev pub ends_fault : Ends → plans.Sizes → Option PlanFault
ends_fault e sizes = plans.first_limit (plans.limit MemoryLimit e.pages sizes.pages_max) (plans.limit TableLimit (max e.table_end sizes.table_min) sizes.table_max)
