-- Lists by process, of which the items of some processes lie apart.
use Rattle.std.proofs.Common.{◌≡◌, ◌≢◌, ◌<◌, ℕ, List, Option, None, Some, length, get_or, refl, ap, sym, ◌∙◌, arith}
use Rattle.std.proofs.lemmas.List.Elements.{All-get_or}
use Rattle.bsp_model.specs.Inside.Layers.{layered, AreApart}
use Rattle.bsp_model.specs.Replaced.{replaced}
use Rattle.bsp_model.specs.declared.layered.Apart.{Apart}
use Rattle.bsp_model.proofs.Replaced.{length-replaced, replaced-there, replaced-elsewhere}

pub length-layered : {X Y : Type 0} (items : X → List Y) (lay : X → List ℕ → X → X) → ((all : X) (ps : List ℕ) (new : X) → items (lay all ps new) ≡ replaced (items all) ps (items new))
    → (base : X) (apart : Option (Apart X)) → length (items (layered lay base apart)) ≡ length (items base)
length-layered items lay lays base None = refl
length-layered items lay lays base (Some apart) =
    ap length (lays base apart.processes.items apart.items) ∙ length-replaced (items base) apart.processes.items (items apart.items)

-- the item of a process that lies apart
pub item_apart : {X : Type 0} (base items : List X) (ps : List ℕ) (place pid : ℕ) (none : X) → AreApart base ps items → place < length ps → get_or ps place 0 ≡ pid
    → get_or items place none ≡ get_or (replaced base ps items) pid none
item_apart base items ps place pid none are inside there =
    let known : get_or ps place 0 < length base = All-get_or (λ p. p < length base) ps place 0 inside are.known in
    sym (replaced-there base ps items place none are.ascending inside (omega (arith, are.count, inside)) known)
    ∙ ap (λ p. get_or (replaced base ps items) p none) there

-- the item of another process
pub item_elsewhere : {X : Type 0} (base items : List X) (ps : List ℕ) (pid : ℕ) (none : X) → ((k : ℕ) → k < length ps → pid ≢ get_or ps k 0)
    → get_or base pid none ≡ get_or (replaced base ps items) pid none
item_elsewhere base items ps pid none other = sym (replaced-elsewhere base ps items pid none other)
