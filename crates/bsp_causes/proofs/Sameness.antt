-- The tests of sameness decide equality.
use Rattle.std.proofs.Common.{◌≡◌, ◌==◌, ◌&&◌, Bool, sym, ap, ◌∙◌}
use Rattle.std.specs.Bool.{Decides}
use Rattle.std.proofs.lemmas.Bool.Decides.{Decides-eqb, Decides-and, Decides-like, same_from_decides}
use Rattle.bsp_model.specs.declared.request.Put.{Put}
use Rattle.bsp_model.specs.declared.request.Get.{Get}
use Rattle.bsp_model.specs.declared.request.Send.{Send}
use Rattle.bsp_model.specs.Same.{same_words}
use Rattle.bsp_deliver.proofs.SameDelivery.{Decides-words}
use Rattle.bsp_causes.specs.Same.{same_get, same_put, same_send}

pub Decides-put : (p q : Put) → Decides (same_put p q) (p ≡ q)
Decides-put p q =
    let ends = (p.target == q.target) && (p.start == q.start) in
    Decides-like (same_put p q)
    (λ (e : ((p.target ≡ q.target) × (p.start ≡ q.start)) × (p.words ≡ q.words)). λ i. record { target = e.0.0 i; start = e.0.1 i; words = e.1 i })
    (λ (e : p ≡ q). ((ap (λ (x : Put). x.target) e, ap (λ (x : Put). x.start) e), ap (λ (x : Put). x.words) e))
    (Decides-and ends (same_words p.words q.words) (Decides-and (p.target == q.target) (p.start == q.start) (Decides-eqb p.target q.target) (Decides-eqb p.start q.start)) (Decides-words p.words q.words))

pub Decides-send : (m n : Send) → Decides (same_send m n) (m ≡ n)
Decides-send m n =
    let tag = same_words m.tag n.tag in
    Decides-like (same_send m n)
    (λ (e : ((m.target ≡ n.target) × (m.tag ≡ n.tag)) × (m.words ≡ n.words)). λ i. record { target = e.0.0 i; tag = e.0.1 i; words = e.1 i })
    (λ (e : m ≡ n). ((ap (λ (x : Send). x.target) e, ap (λ (x : Send). x.tag) e), ap (λ (x : Send). x.words) e))
    (Decides-and ((m.target == n.target) && tag) (same_words m.words n.words) (Decides-and (m.target == n.target) tag (Decides-eqb m.target n.target) (Decides-words m.tag n.tag)) (Decides-words m.words n.words))

pub Decides-get : (g h : Get) → Decides (same_get g h) (g ≡ h)
Decides-get g h =
    let one = (g.owner == h.owner) && (g.start == h.start) in
    let two = one && (g.len == h.len) in
    Decides-like (same_get g h)
    (λ (e : (((g.owner ≡ h.owner) × (g.start ≡ h.start)) × (g.len ≡ h.len)) × (g.into ≡ h.into)). λ i. record { owner = e.0.0.0 i; start = e.0.0.1 i; len = e.0.1 i; into = e.1 i })
    (λ (e : g ≡ h). (((ap (λ (x : Get). x.owner) e, ap (λ (x : Get). x.start) e), ap (λ (x : Get). x.len) e), ap (λ (x : Get). x.into) e))
    (Decides-and two (g.into == h.into)
    (Decides-and one (g.len == h.len) (Decides-and (g.owner == h.owner) (g.start == h.start) (Decides-eqb g.owner h.owner) (Decides-eqb g.start h.start)) (Decides-eqb g.len h.len))
    (Decides-eqb g.into h.into))

-- a test of two values that are these two
pub test_along : {X : Type 0} (r test : Bool) {a b x y : X} → a ≡ x → b ≡ y → Decides r (a ≡ b) → Decides test (x ≡ y) → r ≡ test
test_along r test e f h k = same_from_decides r test (λ t. sym e ∙ h.0 t ∙ f, λ g. h.1 (e ∙ g ∙ sym f)) k
