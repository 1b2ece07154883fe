use Rattle.conditions.specs.Conditions.{k2}
use Rattle.posscheck.proofs.find_k2.Given as goal

abbrev pub ghost-first_wrong : goal.ghost-first_wrong
ghost-first_wrong a = k2 a.test.0.now
