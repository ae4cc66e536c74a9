-- Blocks of several processes, and behind them those of the open row: heads and words.
use Rattle.std.specs.Prelude.{ℕ, List}
use Rattle.bsp_model.specs.Columns.{row_at}
use Rattle.bsp_model.specs.Opened.{Opened}
use Rattle.bsp_model.specs.Inside.Blocks.{blocks_of, AreBlocks}
use Rattle.bsp_model.specs.Inside.Columns.{paired}

abbrev pub opened_blocks : {H X : Type 0} → (H × (List ℕ) → X) → Opened (H × ℕ) → Opened ℕ → Opened X
opened_blocks of heads words = record { rows = paired (blocks_of of) heads.rows words.rows; last = blocks_of of heads.last words.last }

pub record AreOpenBlocks {H : Type 0} (IsKept : H × (List ℕ) → Type 0) (heads : Opened (H × ℕ)) (words : Opened ℕ) : Type 0 where
  pub rows : (k : ℕ) → AreBlocks IsKept (row_at heads.rows k) (row_at words.rows k)
  pub last : AreBlocks IsKept heads.last words.last
