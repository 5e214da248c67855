-- The measure is the count of free bytes.
use Rattle.replay_staged.proofs.Outcomes.+add_all.Given as goal

abbrev pub decreases-add_all : goal.decreases-add_all
decreases-add_all g l = l.request.free
