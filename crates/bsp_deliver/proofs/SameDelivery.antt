-- The tests of sameness decide equality.
use Rattle.std.proofs.Common.{◌≡◌, ℕ, Bool, List, ◌==◌, ◌&&◌, refl, ap}
use Rattle.std.specs.Bool.{Decides}
use Rattle.std.specs.Cmp.Lexicographic.{pointwise}
use Rattle.std.proofs.lemmas.Bool.Decides.{Decides-eqb, Decides-and, Decides-like}
use Rattle.std.proofs.lemmas.Slice.Eq.{slice_eq-Decides}
use Rattle.bsp_model.specs.declared.request.Put.{Put}
use Rattle.bsp_model.specs.declared.request.Get.{Get}
use Rattle.bsp_model.specs.declared.request.Send.{Send}
use Rattle.bsp_deliver.specs.Delivery.{DeliveryParts}
use Rattle.bsp_deliver.specs.Inside.SameDelivery.{same_put, same_send, same_get, same_delivery}
use Rattle.bsp_model.specs.Same.{same_words}

pub Decides-pointwise : {X : Type 0} {E : X → X → Bool} → ((a b : X) → Decides (E a b) (a ≡ b)) → (xs ys : List X) → Decides (pointwise E xs ys) (xs ≡ ys)
Decides-pointwise {E = E} each xs ys = slice_eq-Decides each xs ys (pointwise E xs ys) refl

pub Decides-words : (m n : List ℕ) → Decides (same_words m n) (m ≡ n)
Decides-words m n = Decides-pointwise Decides-eqb m n

pub Decides-put : (p q : ℕ × Put) → Decides (same_put p q) (p ≡ q)
Decides-put p q =
    let ends = (p.0 == q.0) && (p.1.target == q.1.target) in
    Decides-like (same_put p q)
    (λ (e : (((p.0 ≡ q.0) × (p.1.target ≡ q.1.target)) × (p.1.start ≡ q.1.start)) × (p.1.words ≡ q.1.words)). λ i. (e.0.0.0 i, record { target = e.0.0.1 i; start = e.0.1 i; words = e.1 i }))
    (λ (e : p ≡ q). (((ap (λ (x : ℕ × Put). x.0) e, ap (λ (x : ℕ × Put). x.1.target) e), ap (λ (x : ℕ × Put). x.1.start) e), ap (λ (x : ℕ × Put). x.1.words) e))
    (Decides-and (ends && (p.1.start == q.1.start)) (same_words p.1.words q.1.words)
    (Decides-and ends (p.1.start == q.1.start) (Decides-and (p.0 == q.0) (p.1.target == q.1.target) (Decides-eqb p.0 q.0) (Decides-eqb p.1.target q.1.target)) (Decides-eqb p.1.start q.1.start))
    (Decides-words p.1.words q.1.words))

pub Decides-send : (m n : ℕ × Send) → Decides (same_send m n) (m ≡ n)
Decides-send m n =
    let ends = (m.0 == n.0) && (m.1.target == n.1.target) in
    let tag = same_words m.1.tag n.1.tag in
    Decides-like (same_send m n)
    (λ (e : (((m.0 ≡ n.0) × (m.1.target ≡ n.1.target)) × (m.1.tag ≡ n.1.tag)) × (m.1.words ≡ n.1.words)). λ i. (e.0.0.0 i, record { target = e.0.0.1 i; tag = e.0.1 i; words = e.1 i }))
    (λ (e : m ≡ n). (((ap (λ (x : ℕ × Send). x.0) e, ap (λ (x : ℕ × Send). x.1.target) e), ap (λ (x : ℕ × Send). x.1.tag) e), ap (λ (x : ℕ × Send). x.1.words) e))
    (Decides-and (ends && tag) (same_words m.1.words n.1.words)
    (Decides-and ends tag (Decides-and (m.0 == n.0) (m.1.target == n.1.target) (Decides-eqb m.0 n.0) (Decides-eqb m.1.target n.1.target)) (Decides-words m.1.tag n.1.tag))
    (Decides-words m.1.words n.1.words))

pub Decides-get : (g h : Get × List ℕ) → Decides (same_get g h) (g ≡ h)
Decides-get g h =
    let one = (g.0.owner == h.0.owner) && (g.0.start == h.0.start) in
    let two = one && (g.0.len == h.0.len) in
    Decides-like (same_get g h)
    (λ (e : ((((g.0.owner ≡ h.0.owner) × (g.0.start ≡ h.0.start)) × (g.0.len ≡ h.0.len)) × (g.0.into ≡ h.0.into)) × (g.1 ≡ h.1)). λ i. (record { owner = e.0.0.0.0 i; start = e.0.0.0.1 i; len = e.0.0.1 i; into = e.0.1 i }, e.1 i))
    (λ (e : g ≡ h). ((((ap (λ (x : Get × List ℕ). x.0.owner) e, ap (λ (x : Get × List ℕ). x.0.start) e), ap (λ (x : Get × List ℕ). x.0.len) e), ap (λ (x : Get × List ℕ). x.0.into) e), ap (λ (x : Get × List ℕ). x.1) e))
    (Decides-and (two && (g.0.into == h.0.into)) (same_words g.1 h.1)
    (Decides-and two (g.0.into == h.0.into)
    (Decides-and one (g.0.len == h.0.len) (Decides-and (g.0.owner == h.0.owner) (g.0.start == h.0.start) (Decides-eqb g.0.owner h.0.owner) (Decides-eqb g.0.start h.0.start)) (Decides-eqb g.0.len h.0.len))
    (Decides-eqb g.0.into h.0.into))
    (Decides-words g.1 h.1))

-- The test answers true exactly where all four parts are equal.
pub Decides-delivery : (a b : DeliveryParts) → Decides (same_delivery a b) (a ≡ b)
Decides-delivery a b =
    let gets = pointwise same_get a.gets b.gets in
    let puts = pointwise same_put a.puts b.puts in
    let sends = pointwise same_send a.sends b.sends in
    let own = same_words a.memory b.memory in
    Decides-like (same_delivery a b)
    (λ (e : (((a.memory ≡ b.memory) × (a.gets ≡ b.gets)) × (a.puts ≡ b.puts)) × (a.sends ≡ b.sends)). λ i. record { memory = e.0.0.0 i; gets = e.0.0.1 i; puts = e.0.1 i; sends = e.1 i })
    (λ (e : a ≡ b). (((ap (λ (x : DeliveryParts). x.memory) e, ap (λ (x : DeliveryParts). x.gets) e), ap (λ (x : DeliveryParts). x.puts) e), ap (λ (x : DeliveryParts). x.sends) e))
    (Decides-and (own && gets && puts) sends
    (Decides-and (own && gets) puts (Decides-and own gets (Decides-words a.memory b.memory) (Decides-pointwise Decides-get a.gets b.gets)) (Decides-pointwise Decides-put a.puts b.puts))
    (Decides-pointwise Decides-send a.sends b.sends))
