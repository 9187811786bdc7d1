-- A half is half as wide.
-- Assumes nothing.
use Rattle.word.proofs.+select_in.Given as goal

abbrev pub decreases-select_in : goal.decreases-select_in
decreases-select_in l = l.width
