use Rattle.spec_loading.proofs.AllGlobals.{globals_are_all}
use Rattle.spec_loading.proofs.OpeningValues.{globals_begin, globals_have_values, imports_begin, shared_table_begins, own_tables_begin, elems_begin, datas_begin}
use Rattle.spec_loading.proofs.opening_store_has_first_values.Goals as goal

pub returns-clause-all : goal.returns-clause-all
returns-clause-all c = globals_are_all

pub returns-clause-globals : goal.returns-clause-globals
returns-clause-globals c = globals_begin

pub returns-clause-values : goal.returns-clause-values
returns-clause-values c = globals_have_values

pub returns-clause-imports : goal.returns-clause-imports
returns-clause-imports c = imports_begin

pub returns-clause-shared_table : goal.returns-clause-shared_table
returns-clause-shared_table c = shared_table_begins

pub returns-clause-own_tables : goal.returns-clause-own_tables
returns-clause-own_tables c = own_tables_begin

pub returns-clause-elems : goal.returns-clause-elems
returns-clause-elems c = elems_begin

pub returns-clause-datas : goal.returns-clause-datas
returns-clause-datas c = datas_begin
