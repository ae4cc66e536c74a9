-- The messages of so many senders keep the limits of a queue.
use Rattle.std.proofs.Common.{ℕ, ◌+◌, ◌*◌, ◌≤◌, ◌==◌, Bool, List, [], ◌++◌, map, filter, length, All, arith}
use Rattle.std.proofs.lemmas.List.{length-append, length-map}
use Rattle.std.proofs.lemmas.List.Elements.{All-nil, All-append, All-map, All-filter, All-weaker}
use Rattle.std.proofs.lemmas.List.Sums.{length-filter, count_by-le-length}
use Rattle.bsp_model.specs.Limits.{most_processes, most_requests}
use Rattle.bsp_model.specs.declared.request.Send.{Send}
use Rattle.bsp_model.specs.declared.request.Message.{Message}
use Rattle.bsp_step.specs.OutcomeParts.{OutcomeParts, IsOutcome, IsShortSend}
use Rattle.bsp_step.specs.ViewParts.{IsShortMessage, IsQueue}
use Rattle.bsp_deliver.specs.Delivery.{message_of}

-- short messages, and no more from each sender than it may make requests
pub record IsQueueOf (senders : ℕ) (queue : List Message) : Type 0 where
  pub few : length queue ≤ most_requests * senders
  pub short : All IsShortMessage queue

pub no_senders : IsQueueOf 0 []
no_senders = record { few = omega arith; short = All-nil IsShortMessage }

few_messages : (d : ℕ) (sends : List Send) → length (map message_of (filter (λ (m : Send). m.target == d) sends)) ≤ length sends
few_messages d sends =
    let P : Send → Bool = λ m. m.target == d in
    omega (arith, length-map (filter P sends) message_of, length-filter P sends, count_by-le-length P sends)

short_messages : (d : ℕ) (sends : List Send) → All IsShortSend sends → All IsShortMessage (map message_of (filter (λ (m : Send). m.target == d) sends))
short_messages d sends h =
    let P : Send → Bool = λ m. m.target == d in
    All-map IsShortMessage message_of (filter P sends)
    (All-weaker IsShortSend (λ (m : Send). IsShortMessage (message_of m)) (λ m s. record { tag = s.tag; words = s.words }) (filter P sends) (All-filter P IsShortSend sends h))

-- one sender more
pub sender_more : (d senders : ℕ) (queue : List Message) (o : OutcomeParts) → IsQueueOf senders queue → IsOutcome o → IsQueueOf (senders + 1) (queue ++ map message_of (filter (λ (m : Send). m.target == d) o.sends))
sender_more d senders queue o h limits =
    let M = map message_of (filter (λ (m : Send). m.target == d) o.sends) in
    record {
      few = omega (arith, length-append queue M, few_messages d o.sends, limits.few_requests, h.few);
      short = All-append IsShortMessage queue M h.short (short_messages d o.sends limits.sends.each);
    }

pub queue_of_few : (senders : ℕ) (queue : List Message) → senders ≤ most_processes → IsQueueOf senders queue → IsQueue queue
queue_of_few senders queue l h = record { few = omega (arith, h.few); short = h.short }
