use Rattle.std.proofs.Common.{◌≡◌, sym, refl, subst, map, true}
use Rattle.std.specs.Prelude.{IfErr, IfOk}
use Rattle.std.proofs.lemmas.Result.{IfOk-weaker}
use Rattle.clap.specs.Words.{App, FailsBy, fault_of, found_of, HasMatchesOf, is_simple_and_free, kind_of, matches_of, rows_of, takes}
use Rattle.clap.specs.declared.error.kind.ErrorKind.TheVariants.{OutOfMemory}
use Rattle.bsp_options.specs.Options.{tool_app}
use Rattle.bsp_options.proofs.options.read_matches.Goals as goal

pub returns-clause-rows : goal.returns-clause-rows
returns-clause-rows c =
    let app = tool_app c.args.tool.now.name.now in
    IfOk-weaker c.try_get_matches_from.result (HasMatchesOf app (map (λ w. w.now) c.args.words.now)) (λ m. rows_of (found_of m) ≡ matches_of app (map (λ w. w.now) c.args.words.now))
    (λ m has. (has refl).0)
    (subst (λ (a : App). IfOk c.try_get_matches_from.result (HasMatchesOf a (map (λ w. w.now) c.args.words.now))) c.in_ok-command.ensures c.try_get_matches_from.ensures.matches)

pub returns-clause-refused : goal.returns-clause-refused
returns-clause-refused c =
    subst (λ (a : App). IfErr c.try_get_matches_from.result (λ e. takes a (map (λ w. w.now) c.args.words.now) ≡ true → kind_of e ≡ OutOfMemory))
    c.in_ok-command.ensures c.try_get_matches_from.ensures.passes

pub returns-clause-kinds : goal.returns-clause-kinds
returns-clause-kinds c =
    subst (λ (a : App). FailsBy (fault_of a (map (λ w. w.now) c.args.words.now)) c.try_get_matches_from.result)
    c.in_ok-command.ensures (c.try_get_matches_from.ensures.kinds (subst (λ (a : App). is_simple_and_free a ≡ true) (sym c.in_ok-command.ensures) refl))
