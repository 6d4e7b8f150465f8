use Rattle.std.proofs.Common.{◌<◌, ◌^◌, length, arith}
use Rattle.dyl_section.proofs.Shortest.{vec_length, vec_each}
use Rattle.spec_reading.proofs.of_spec_binary.Joined.{on_ok, vec_written}
use Rattle.dyl_section.proofs.write.put_vec.Goals as goal

pub overflow_cast-items : goal.overflow_cast-items
overflow_cast-items g c = let h : length c.args.items.now < 2 ^ 32 = vec_length c.args.items.now c.requires in omega arith

pub put_each-requires : goal.put_each-requires
put_each-requires g c = vec_each c.args.items.now c.requires

pub returns : goal.returns
returns g c = on_ok c.put_each.result (vec_written c.args.items.now _ c.put_u32.new.to.items _ c.in_ok-put_u32.ensures.ok) c.put_each.ensures
