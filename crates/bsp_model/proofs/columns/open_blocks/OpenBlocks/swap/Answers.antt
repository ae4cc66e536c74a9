use Rattle.std.proofs.Common.{◌≡◌, [], ℕ, List, take, ap, ◌∙◌}
use Rattle.bsp_model.specs.Opened.{Opened}
use Rattle.bsp_model.specs.Inside.Blocks.{blocks_of, AreBlocks}
use Rattle.bsp_model.specs.Inside.OpenBlocks.{opened_blocks}
use Rattle.bsp_model.proofs.BlocksOf.{no_blocks, AreBlocks-none}
use Rattle.bsp_model.proofs.OpenRows.{take-paired, take_law}
use Rattle.bsp_model.proofs.columns.open_blocks.OpenBlocks.swap.Goals as goal

-- the rows that are taken
taken : {X : Type 0} (new : Opened X) (rows known : List (List X)) (place : ℕ) → new ≡ record { rows = take place rows; last = [] } → rows ≡ known → new ≡ record { rows = take place known; last = [] }
taken new rows known place is same = is ∙ ap (λ rs. record { rows = take place rs; last = [] }) same

pub invariant_of-self : goal.invariant_of-self
invariant_of-self g c =
    let pairs = c.column.inside.pairs in
    let none = AreBlocks-none g.X.Block.IsKept in
    let heads = taken c.swap.new.self _ pairs.0 c.args.place c.swap.ensures.taken (λ i. (c.column-inside.view_is i).pairs.0) in
    let words = taken c.swap-2.new.self _ pairs.1 c.args.place c.swap-2.ensures.taken (λ i. (c.column-inside.view_is i).pairs.1) in
    rw (heads, words) record { rows = take_law (AreBlocks g.X.Block.IsKept) pairs.0 pairs.1 c.args.place none c.column.invariant; last = none }

pub returns-clause-taken : goal.returns-clause-taken
returns-clause-taken g c =
    let pairs = c.column.inside.pairs in
    let heads = taken c.swap.new.self _ pairs.0 c.args.place c.swap.ensures.taken (λ i. (c.column-inside.view_is i).pairs.0) in
    let words = taken c.swap-2.new.self _ pairs.1 c.args.place c.swap-2.ensures.taken (λ i. (c.column-inside.view_is i).pairs.1) in
    let rows = take-paired (blocks_of g.X.Block.of) pairs.0 pairs.1 c.args.place in
    let none = no_blocks g.X.Block.of [] in
    (λ i. opened_blocks g.X.Block.of (heads i) (words i))
    ∙ (λ i. record { rows = rows i; last = none i })
    ∙ ap (λ rs. record { rows = take c.args.place rs; last = [] }) c.column.view_is
