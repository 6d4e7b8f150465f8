use Rattle.spec_loading.proofs.DistinctAddresses.{globals_are_numbered, tables_are_numbered, globals_are_distinct, tables_are_distinct, numbers_share_globals, numbers_share_tables, segments_are_distinct}
use Rattle.spec_loading.proofs.addresses_are_distinct.Goals as goal

pub returns-clause-global_numbers : goal.returns-clause-global_numbers
returns-clause-global_numbers c = globals_are_numbered

pub returns-clause-table_numbers : goal.returns-clause-table_numbers
returns-clause-table_numbers c = tables_are_numbered

pub returns-clause-globals : goal.returns-clause-globals
returns-clause-globals c = globals_are_distinct

pub returns-clause-tables : goal.returns-clause-tables
returns-clause-tables c = tables_are_distinct

pub returns-clause-shared_globals : goal.returns-clause-shared_globals
returns-clause-shared_globals c = numbers_share_globals

pub returns-clause-shared_tables : goal.returns-clause-shared_tables
returns-clause-shared_tables c = numbers_share_tables

pub returns-clause-segments : goal.returns-clause-segments
returns-clause-segments c = segments_are_distinct
