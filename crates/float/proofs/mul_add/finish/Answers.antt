use Rattle.float.proofs.mul_add.Left.{shift_lt}
use Rattle.float.proofs.mul_add.finish.Goals as goal

pub overflow_shl-x : goal.overflow_shl-x
overflow_shl-x c = shift_lt c.args.x c.args.y c.shift-s.result c.requires c.shift-s.ensures
