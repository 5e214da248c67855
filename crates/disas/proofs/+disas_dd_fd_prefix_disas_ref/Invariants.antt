-- The decoder hands the prefix step all n bytes, and it hands back the last n - 1: the measures are 2n + 1 and 2n.
use Rattle.std.proofs.Common.{◌+◌, length}
use Rattle.disas.proofs.+disas_dd_fd_prefix_disas_ref.Given as goal

abbrev pub decreases-disas_dd_fd_prefix : goal.decreases-disas_dd_fd_prefix
decreases-disas_dd_fd_prefix l = length l.ins.now + length l.ins.now

abbrev pub decreases-disas_ref : goal.decreases-disas_ref
decreases-disas_ref l = length l.ins.now + length l.ins.now + 1
