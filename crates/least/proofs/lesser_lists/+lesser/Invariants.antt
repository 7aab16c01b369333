use Rattle.least.proofs.Words.{◌+◌, ◌*◌, left}
use Rattle.least.proofs.lesser_lists.+lesser.Given as goal

abbrev pub decreases-choose_rest : goal.decreases-choose_rest
decreases-choose_rest l = 2 * left l.rest.now

abbrev pub decreases-choose_by : goal.decreases-choose_by
decreases-choose_by l = 2 * left l.next.now + 1
