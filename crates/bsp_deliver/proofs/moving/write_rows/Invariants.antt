use Rattle.std.proofs.Common.{◌≡◌, List, take, fold}
use Rattle.bsp_model.specs.declared.request.Put.{Put}
use Rattle.bsp_deliver.specs.Inside.Gathering.{put_at}
use Rattle.bsp_deliver.proofs.moving.write_rows.Given as goal

-- The puts of the senders so far are written.
abbrev pub invariant-loop-sender : goal.invariant-loop-sender
invariant-loop-sender l = l.memories ≡ fold (λ ms (puts : List Put). fold (put_at l.places) ms puts) l.initial.memories (take l.sender l.rows)
