-- Which definition each clause of `serve` and of `perform` cites, and where it stands:
--
--   due       DueFor, Yields       Due            the outcome that is due, and what may be answered in its place
--   tells     TellsFor             Due            what an answer tells of the files
--   complete  IsComplete           Due            what is done where nothing outside fails
--   quiet     is_done              Due
--   files     LeavesFor            Files          what an answer leaves of the files
--   caused    Caused               Causes         when an answer may come, whatever the files tell
--   inner     has_inner_memory     Causes
--   counts    Counts               Counts         what an answer leaves of the counts of the files
--   does      DoesBy               Clauses        what is done to the devices: Does of Runs, and TellsErrors of Told for the line
--
-- These speak of what there is to say of a set (Linking), of several (Sets), of the start-up of one (StartUp), of the one file that is run
-- (OneFile), of a trace (Traced), and of a generated set (Generated). The contracts of what the clauses are had from cite the others: Fetched (reading a file), Served (each command),
-- GeneratedRuns (`gen`). What follows from the clauses is in Laws.
-- Part of the statement of `serve`.
pub mod Due
pub mod Files
pub mod Laws
pub mod Causes
pub mod Counts
pub mod Clauses
pub mod Runs
pub mod Told
pub mod Linking
pub mod StartUp
pub mod Sets
pub mod OneFile
pub mod Traced
pub mod Generated
pub mod Fetched
pub mod Served
pub mod GeneratedRuns
