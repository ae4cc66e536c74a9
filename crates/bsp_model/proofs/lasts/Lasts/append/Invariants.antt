use Rattle.std.proofs.Common.{◌≡◌, ◌≤◌, ◌++◌, [], get_or, length, take, ℕ}
use Rattle.bsp_model.proofs.lasts.Lasts.append.Given as goal

-- the lists so far are taken, and the lists behind them have not changed
abbrev pub invariant-loop-number : goal.invariant-loop-number
invariant-loop-number l = record {
  taken : l.self ≡ l.initial.self ++ take l.number l.initial.more-inside.own.items;
  behind : (k : ℕ) → l.number ≤ k → get_or l.more-inside.own.items k [] ≡ get_or l.initial.more-inside.own.items k [];
  many : length l.more-inside.own.items ≡ length l.initial.more-inside.own.items;
  count : l.more-inside.count ≡ l.initial.more-inside.count;
  rows : l.more-inside.rows ≡ l.initial.more-inside.rows;
  order : l.number ≤ l.number-end;
  end : l.number-end ≡ l.more-inside.count;
}
