use Rattle.std.proofs.Common.{vec_len}
use Rattle.nq_execute.proofs.load.+load_reversed.Given as goal

abbrev pub decreases-load_reversed : goal.decreases-load_reversed
decreases-load_reversed g l = vec_len l.rest
