use Rattle.conditions.specs.Conditions.{k4}
use Rattle.edgecheck.proofs.find_k4.Given as goal

abbrev pub ghost-first_wrong : goal.ghost-first_wrong
ghost-first_wrong a = k4 a.test.0.now
