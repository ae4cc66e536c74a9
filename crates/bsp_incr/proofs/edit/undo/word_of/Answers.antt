use Rattle.std.proofs.Common.{◌≡◌, ◌<◌, ◌∙◌, [], ℕ, List, None, true, ap, sym, arith, length, get_or, unwrap_or}
use Rattle.std.specs.Prelude.{nat_lt, slice_get}
use Rattle.std.proofs.lemmas.Bool.Decides.{nat_tests}
use Rattle.std.proofs.lemmas.List.{get_or_default}
use Rattle.std.proofs.lemmas.Option.{unwrap_or-slice_get}
use Rattle.bsp_incr.proofs.edit.undo.word_of.Goals as goal

pub returns-in-None : goal.returns-in-None
returns-in-None c =
    let mems : List (List ℕ) = c.as_slice.result.now in
    let p = c.args.pid in
    let own : List ℕ = c.in-Some.memory.now in
    let found : nat_lt p (length mems) ≡ true = sym c.in-Some.ensures.lookup.0 in
    let here : p < length mems = grind (arith, nat_tests) in
    let memory : own ≡ get_or mems p [] = c.in-Some.ensures.lookup.1 ∙ get_or_default mems p _ [] here in
    let none : slice_get own c.args.addr ≡ None = sym c.load.ensures ∙ c.in-None.is in
    ap (λ o. unwrap_or o 0) (sym none) ∙ unwrap_or-slice_get own c.args.addr 0
    ∙ ap (λ (m : List ℕ). get_or m c.args.addr 0) (memory ∙ ap (λ (xs : List (List ℕ)). get_or xs p []) c.as_slice.ensures)
