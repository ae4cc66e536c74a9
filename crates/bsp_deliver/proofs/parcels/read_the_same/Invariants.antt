use Rattle.std.proofs.Common.{◌≡◌, take, map}
use Rattle.bsp_deliver.specs.Requests.{words_read}
use Rattle.bsp_deliver.proofs.parcels.read_the_same.Given as goal

-- the gets so far read the same words
abbrev pub invariant-loop-get : goal.invariant-loop-get
invariant-loop-get l = map (words_read l.old) (take l.get-index l.gets) ≡ map (words_read l.new) (take l.get-index l.gets)
