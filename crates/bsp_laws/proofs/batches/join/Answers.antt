use Rattle.std.proofs.Common.{rules, ◌≡◌, ◌++◌, subst, sym}
use Rattle.bsp_laws.specs.Batches.{IsSequence}
use Rattle.bsp_laws.proofs.Sequences.{sequence}
use Rattle.bsp_laws.proofs.batches.join.Goals as goal

pub returns-clause-law : goal.returns-clause-law
returns-clause-law c =
    let first = c.args.first.now in
    let second = c.args.second.now in
    let is : c.from_vec.result ≡ first ++ second = search rules in
    subst (IsSequence first second) (sym is) (sequence first second)
