use Rattle.std.proofs.Common.{◌≤◌, ◌+◌, ◌*◌, ℕ, List, [], ◌∷◌, All, arith, take}
use Rattle.std.proofs.lemmas.List.Elements.{All-head, All-tail, All-take, All-weaker}
use Rattle.bsp_model.specs.Limits.{most_h, most_request_words}
use Rattle.bsp_deliver.specs.Cost.{largest}
use Rattle.bsp_causes.proofs.moved.Moved.most.Goals as goal

largest_within : (bound : ℕ) (ns : List ℕ) → All (λ n. n ≤ bound) ns → largest ns ≤ bound
largest_within bound [] h = omega arith
largest_within bound (n ∷ ns) h =
    let here : n ≤ bound = All-head (λ k. k ≤ bound) n ns h in
    let rest : largest ns ≤ bound = largest_within bound ns (All-tail (λ k. k ≤ bound) n ns h) in
    omega arith

front_within : (n : ℕ) (ns : List ℕ) → All (λ k. k + most_request_words * 0 ≤ most_h) ns → largest (take n ns) ≤ most_h
front_within n ns h =
    largest_within most_h (take n ns) (All-take (λ k. k ≤ most_h) n ns (All-weaker (λ k. k + most_request_words * 0 ≤ most_h) (λ k. k ≤ most_h) (λ k l. omega arith) ns h))

pub returns-clause-small : goal.returns-clause-small
returns-clause-small c =
    let n = c.args.nprocs in
    let sent = front_within n c.args.self.now.sent c.requires.room.sent in
    let received = front_within n c.args.self.now.received c.requires.room.received in
    omega (arith, c.max.ensures, c.largest-sent.ensures, c.largest-received.ensures)
