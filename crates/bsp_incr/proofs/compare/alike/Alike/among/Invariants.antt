use Rattle.std.proofs.Common.{◌≡◌, ◌<◌, All, length, true}
use Rattle.bsp_incr.specs.Inside.Alike.{CostsAlike, EndsAlike}
use Rattle.bsp_incr.proofs.Alike.{AreAlikeBut}
use Rattle.bsp_incr.proofs.compare.alike.Alike.among.Given as goal

-- what is the same, but for the processes that are left
abbrev pub invariant-loop-process : goal.invariant-loop-process
invariant-loop-process l = record {
  table : l.alike.ends ≡ true → l.dirty.same_table ≡ true;
  ends : l.alike.ends ≡ true → AreAlikeBut EndsAlike l.old l.new l.process-iterator;
  costs : l.alike.costs ≡ true → AreAlikeBut CostsAlike l.old l.new l.process-iterator;
  known : All (λ p. p < length l.new) l.process-iterator;
}
