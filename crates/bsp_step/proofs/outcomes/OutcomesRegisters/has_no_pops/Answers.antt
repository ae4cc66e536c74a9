use Rattle.std.proofs.Common.{[], ◌≡◌, All, List, map, ℕ}
use Rattle.std.proofs.lemmas.Bool.{OnTrue_at, OnTrue_from}
use Rattle.std.proofs.lemmas.List.Elements.{All-map}
use Rattle.bsp_step.specs.OutcomeParts.{OutcomeParts}
use Rattle.bsp_step.proofs.outcomes.OutcomesRegisters.has_no_pops.Goals as goal

pub returns : goal.returns
returns c =
    let of : OutcomeParts → List ℕ = λ o. o.pops in
    OnTrue_from c.is_without.result (All (λ row. row ≡ []) (map of c.args.self.now)) (λ none. All-map (λ row. row ≡ []) of c.args.self.now (OnTrue_at none c.is_without.ensures))
