use Rattle.conditions.specs.Conditions.{k1}
use Rattle.rankcheck.proofs.find_k1.Given as goal

abbrev pub ghost-first_wrong : goal.ghost-first_wrong
ghost-first_wrong a = k1 a.test.0.now
