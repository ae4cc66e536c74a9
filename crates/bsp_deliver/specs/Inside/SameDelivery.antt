-- When two deliveries depend on the same, as tests.
use Rattle.std.specs.Prelude.{ℕ, Bool, List, ◌==◌, ◌&&◌}
use Rattle.std.specs.Cmp.Lexicographic.{pointwise}
use Rattle.bsp_model.specs.Same.{same_words}
use Rattle.bsp_model.specs.declared.request.Put.{Put}
use Rattle.bsp_model.specs.declared.request.Get.{Get}
use Rattle.bsp_model.specs.declared.request.Send.{Send}
use Rattle.bsp_deliver.specs.Delivery.{DeliveryParts}

abbrev pub same_put : ℕ × Put → ℕ × Put → Bool
same_put p q = (p.0 == q.0) && (p.1.target == q.1.target) && (p.1.start == q.1.start) && same_words p.1.words q.1.words

abbrev pub same_send : ℕ × Send → ℕ × Send → Bool
same_send m n = (m.0 == n.0) && (m.1.target == n.1.target) && same_words m.1.tag n.1.tag && same_words m.1.words n.1.words

abbrev pub same_get : Get × List ℕ → Get × List ℕ → Bool
same_get g h =
    (g.0.owner == h.0.owner) && (g.0.start == h.0.start) && (g.0.len == h.0.len) && (g.0.into == h.0.into) && same_words g.1 h.1

-- All that a delivery depends on is the same.
abbrev pub same_delivery : DeliveryParts → DeliveryParts → Bool
same_delivery a b =
    same_words a.memory b.memory && pointwise same_get a.gets b.gets && pointwise same_put a.puts b.puts && pointwise same_send a.sends b.sends
