-- The tests of sameness decide equality.
use Rattle.std.proofs.Common.{◌≡◌, List, ◌==◌, ap}
use Rattle.std.specs.Bool.{Decides}
use Rattle.std.proofs.lemmas.Bool.Decides.{Decides-eqb, Decides-and, Decides-like}
use Rattle.bsp_model.specs.declared.request.Message.{Message}
use Rattle.bsp_table.specs.declared.area.Area.{Area}
use Rattle.bsp_deliver.proofs.SameDelivery.{Decides-pointwise, Decides-words}
use Rattle.bsp_table.specs.Same.{same_area, same_table}
use Rattle.bsp_model.specs.Same.{same_message, same_words}

pub Decides-area : (a b : Area) → Decides (same_area a b) (a ≡ b)
Decides-area a b =
    Decides-like (same_area a b)
    (λ (e : (a.start ≡ b.start) × (a.len ≡ b.len)). λ i. record { start = e.0 i; len = e.1 i })
    (λ (e : a ≡ b). (ap (λ (x : Area). x.start) e, ap (λ (x : Area). x.len) e))
    (Decides-and (a.start == b.start) (a.len == b.len) (Decides-eqb a.start b.start) (Decides-eqb a.len b.len))

pub Decides-table : (s t : List (List Area)) → Decides (same_table s t) (s ≡ t)
Decides-table s t = Decides-pointwise (Decides-pointwise Decides-area) s t

pub Decides-message : (m n : Message) → Decides (same_message m n) (m ≡ n)
Decides-message m n =
    Decides-like (same_message m n)
    (λ (e : (m.tag ≡ n.tag) × (m.words ≡ n.words)). λ i. record { tag = e.0 i; words = e.1 i })
    (λ (e : m ≡ n). (ap (λ (x : Message). x.tag) e, ap (λ (x : Message). x.words) e))
    (Decides-and (same_words m.tag n.tag) (same_words m.words n.words) (Decides-words m.tag n.tag) (Decides-words m.words n.words))
