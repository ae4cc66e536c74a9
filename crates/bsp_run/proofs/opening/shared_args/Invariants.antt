use Rattle.std.specs.Vec.{vec_capacity}
use Rattle.std.proofs.Common.{vec_len, length, ◌≡◌, take}
use Rattle.bsp_run.proofs.opening.shared_args.Given as goal

abbrev pub invariant-loop-words : goal.invariant-loop-words
invariant-loop-words l = record {
  all : l.shared.items ≡ take l.words-index l.args;
  count : vec_len l.shared ≡ l.words-index;
  room : vec_capacity l.shared ≡ length l.args;
}
