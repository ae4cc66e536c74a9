use Rattle.std.proofs.Common.{◌≡◌, ◌∙◌, ap, false}
use Rattle.std.proofs.lemmas.Result.{IfOk-weaker}
use Rattle.clap.specs.Words.{AddsArg, App, Rule, app_of, new_app, rule_of, with_rule}
use Rattle.clap.specs.declared.builder.arg.Arg.{Arg}
use Rattle.clap.specs.declared.builder.command.Command.{Command}
use Rattle.bsp_options.specs.Options.{changes_rule, follow_rule, places_rule, quiet_rule, scratch_rule, tool_app, update_cost_rule, why_rule, with_version, workers_rule}
use Rattle.bsp_options.proofs.options.command.Goals as goal

-- the command with one more option
grown : (old : Command) (arg : Arg) (new : Command) (app : App) (rule : Rule) → app_of old ≡ app → arg.global ≡ false → rule_of arg ≡ rule → AddsArg old arg new → app_of new ≡ with_rule app rule
grown old arg new app rule before own is adds = adds.shape own ∙ ap (λ a. with_rule a (rule_of arg)) before ∙ ap (with_rule app) is

pub returns : goal.returns
returns c =
    let a0 = with_version (new_app c.args.tool.now.name.now) in
    let a1 = with_rule a0 workers_rule in
    let a2 = with_rule a1 scratch_rule in
    let a3 = with_rule a2 places_rule in
    let a4 = with_rule a3 changes_rule in
    let a5 = with_rule a4 why_rule in
    let a6 = with_rule a5 update_cost_rule in
    let a7 = with_rule a6 follow_rule in
    let e0 : app_of c.after_help.result ≡ a0 = rw (c.after_help.ensures, c.about.ensures, c.version.ensures) (ap with_version c.new.ensures.app) in
    let e1 = grown _ _ _ a0 workers_rule e0 c.workers_arg.ensures.own c.workers_arg.ensures.rule c.in_ok-arg.ensures in
    let e2 = grown _ _ _ a1 scratch_rule e1 c.flag_arg.ensures.own c.flag_arg.ensures.rule c.in_ok-arg-2.ensures in
    let e3 = grown _ _ _ a2 places_rule e2 c.flag_arg-2.ensures.own c.flag_arg-2.ensures.rule c.in_ok-arg-3.ensures in
    let e4 = grown _ _ _ a3 changes_rule e3 c.flag_arg-3.ensures.own c.flag_arg-3.ensures.rule c.in_ok-arg-4.ensures in
    let e5 = grown _ _ _ a4 why_rule e4 c.flag_arg-4.ensures.own c.flag_arg-4.ensures.rule c.in_ok-arg-5.ensures in
    let e6 = grown _ _ _ a5 update_cost_rule e5 c.flag_arg-5.ensures.own c.flag_arg-5.ensures.rule c.in_ok-arg-6.ensures in
    let e7 = grown _ _ _ a6 follow_rule e6 c.follow_arg.ensures.own c.follow_arg.ensures.rule c.in_ok-arg-7.ensures in
    IfOk-weaker c.arg-8.result (AddsArg c.in_ok-arg-7.field-0 c.flag_arg-6.result) (λ r. app_of r ≡ tool_app c.args.tool.now.name.now)
    (λ r adds. grown _ _ _ a7 quiet_rule e7 c.flag_arg-6.ensures.own c.flag_arg-6.ensures.rule adds) c.arg-8.ensures
