use Rattle.std.proofs.Common.{◌≡◌, ◌∙◌, Bor, ap, length, refl, subst, sym, unwrap_or}
use Rattle.bsp_model.specs.declared.input.Input.{Input}
use Rattle.bsp_step.specs.Turn.{turn_of}
use Rattle.bsp_run.specs.Run.{Run}
use Rattle.bsp_run.specs.Result.{result_of}
use Rattle.bsp_incr.proofs.Lawful.{edited_count}
use Rattle.bsp_engine.specs.Inside.Touched.{IsUpdateBetween}
use Rattle.bsp_engine.proofs.Endings.{count_result_memories}
use Rattle.bsp_engine.proofs.Made.{accepted_text, borrowed_or}
use Rattle.bsp_engine.proofs.live_blocks.apply_and_tell.Goals as goal

pub push_accepted-pushed-requires-clause-count : goal.push_accepted-pushed-requires-clause-count
push_accepted-pushed-requires-clause-count g c κs within =
    let session = c.live.inside.session in
    let runs = c.in-Ok.ensures.runs in
    let turn = turn_of (g.P.Program.acts session.program) (g.P.Program.ending session.program) in
    let old : c.unwrap_or-old.result.now ≡ session.history =
    ap (λ (x : Bor Run). x.now) c.unwrap_or-old.ensures ∙ borrowed_or c.as_ref.result c.history-new.result
    ∙ (λ k. unwrap_or (c.as_ref.ensures.value k) (c.history-new.ensures.history k)) ∙ c.in-Ok.ensures.before in
    c.len-nprocs.ensures ∙ ap (λ (i : Input). length i.mems) (c.input.ensures.input ∙ c.in-Ok.ensures.input) ∙ edited_count session.input c.args.batch.now
    ∙ sym (ap (λ (h : Run). length (result_of h).memories) old ∙ count_result_memories turn session.input session.history runs.before)

pub push_accepted-pushed-requires-clause-update : goal.push_accepted-pushed-requires-clause-update
push_accepted-pushed-requires-clause-update g c κs within =
    let session = c.live.inside.session in
    let batch = c.args.batch.now in
    let old : c.unwrap_or-old.result.now ≡ session.history =
    ap (λ (x : Bor Run). x.now) c.unwrap_or-old.ensures ∙ borrowed_or c.as_ref.result c.history-new.result
    ∙ (λ k. unwrap_or (c.as_ref.ensures.value k) (c.history-new.ensures.history k)) ∙ c.in-Ok.ensures.before in
    subst (λ (h : Run). IsUpdateBetween h batch c.in-Ok.update c.history-new.result.now) (sym old)
    (subst (λ (h : Run). IsUpdateBetween session.history batch c.in-Ok.update h) (sym c.history-new.ensures.history) (record {
      acts = g.P.Program.acts session.program;
      ending = g.P.Program.ending session.program;
      looks = g.P.Program.looks session.program;
      input = session.input;
      runs = c.in-Ok.ensures.runs;
    }))

pub returns-clause-text : goal.returns-clause-text
returns-clause-text g c =
    let session = c.live.inside.session in
    let old : c.unwrap_or-old.result.now ≡ session.history =
    ap (λ (x : Bor Run). x.now) c.unwrap_or-old.ensures ∙ borrowed_or c.as_ref.result c.history-new.result
    ∙ (λ k. unwrap_or (c.as_ref.ensures.value k) (c.history-new.ensures.history k)) ∙ c.in-Ok.ensures.before in
    accepted_text g.P.Program.acts g.P.Program.ending g.P.Program.looks c.program-program.result.now c.live.inside.detail _ c.args.live.now c.args.batch.now c.in-Ok.update session.history c.apply.new.session.history c.unwrap_or-old.result.now c.history-new.result.now c.push_accepted-pushed.result _ _
    c.live.view_is refl (c.program-program.ensures ∙ c.in-Ok.ensures.program) c.in-Ok.ensures.runs old c.history-new.ensures.history c.push_accepted-pushed.ensures
