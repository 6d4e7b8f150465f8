use Rattle.run_loaded.proofs.Singles as one
use Rattle.run_loaded.proofs.Sets as set
use Rattle.run_loaded.proofs.loaded.Loaded.hosts.Goals as goal

pub returns-in-Module : goal.returns-in-Module
returns-in-Module c = rw c.in-Module.is (one.hosts_so c.in-Module.single c.hosts.result.now c.hosts.ensures)

pub returns-in-Set : goal.returns-in-Set
returns-in-Set c = rw c.in-Set.is (set.hosts_so c.in-Set.store c.hosts-in-Set.result.now c.hosts-in-Set.ensures)
