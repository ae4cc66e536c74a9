use Rattle.std.proofs.Common.{◌≡◌, ◌∙◌, ◌++◌, ℕ, List, OnOk, Option, sym, subst}
use Rattle.std.proofs.lemmas.Bool.{false≢true}
use Rattle.bsp_engine.specs.Changes.{other_lines, piece_if, same_lines}
use Rattle.bsp_engine.proofs.Changed.{untold_item, other_another}
use Rattle.bsp_engine.proofs.WholeAgain.{Decides-lines}
use Rattle.bsp_engine.proofs.change_lines.push_other_lines.Goals as goal

pub returns-then-same : goal.returns-then-same
returns-then-same c =
    rw c.in-Some.is (untold_item other_lines same_lines Decides-lines c.args.text.now.items c.args.pid c.in-Some.old.now c.args.new.now (sym (c.same.ensures.0 c.if-same.true)))

pub returns : goal.returns
returns c =
    let new = c.args.new.now in
    let told = λ (o : Option (List (List ℕ))). OnOk c.push_lines_or_silence-2.result (c.push_lines_or_silence-2.new.text.items ≡ c.args.text.now.items ++ piece_if other_lines c.args.pid o) in
    rw c.in-Some.is (subst told (other_another same_lines c.in-Some.old.now new (Decides-lines c.in-Some.old.now new) (λ e. false≢true (sym c.if-same.false ∙ c.same.ensures.1 (sym e)))) c.push_lines_or_silence-2.ensures)
