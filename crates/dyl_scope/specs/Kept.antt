-- What is kept of the members that were told of.
-- Serves the contracts of this crate, which follow Definitions of `spec_linking`.
use Rattle.std.specs.Prelude.{List, [], length, map}
use Rattle.std.specs.List.{range_with_len}
use Rattle.dyl_scope.specs.Names.{Defined, with_all, definition_value}
use Rattle.dyl_scope.specs.Orders.{needed_in, closure_by, post_order_by}
use Rattle.dyl_scope.specs.Scopes.{Scopes}
use Rattle.dyl_scope.specs.declared.maker.Told.{Told}

abbrev pub names_by : Told → Defined
names_by t = with_all [] (map definition_value t.definitions)

abbrev pub kept_of : List Told → Scopes
kept_of ts = record {
  names = map names_by ts;
  closures = map (closure_by (needed_in ts) (length ts)) (range_with_len 0 (length ts));
  orders = map (post_order_by (needed_in ts) (length ts)) (range_with_len 0 (length ts));
}
