-- A program that tells apart two views that are not alike.
use Rattle.std.proofs.Common.{◌≡◌, ◌≢◌, ℕ, Bool, true, false, cond, List, [], arith, refl, sym, ap, ◌∙◌}
use Rattle.std.proofs.lemmas.Bool.Decides.{same_from_decides, Decides-like}
use Rattle.bsp_model.specs.declared.fault.End.{End}
use Rattle.bsp_model.specs.declared.fault.End.TheVariants.{Sync, Halt}
use Rattle.bsp_step.specs.declared.outcome.Ended.{Ended}
use Rattle.bsp_step.specs.ViewParts.{ViewParts, IsView}
use Rattle.bsp_step.specs.Act.{Act}
use Rattle.bsp_step.specs.Footprint.{AreAlikeButForWords, AreAlike, IsFootprint}
use Rattle.bsp_step.specs.Turn.{abort_of, ended_of}
use Rattle.bsp_incr.specs.Inside.Reuse.{serves}
use Rattle.bsp_incr.proofs.Serving.{Decides-serves, serves-itself}
use Rattle.bsp_laws.specs.Least.{TellsApart}

joined : (u v w : ViewParts) → AreAlikeButForWords u v → AreAlikeButForWords v w → AreAlikeButForWords u w
joined u v w h k = record {
  nprocs = h.nprocs ∙ k.nprocs;
  pid = h.pid ∙ k.pid;
  step = h.step ∙ k.step;
  args = h.args ∙ k.args;
  table = h.table ∙ k.table;
  tag_size = h.tag_size ∙ k.tag_size;
  queue = h.queue ∙ k.queue;
  same_length = h.same_length ∙ k.same_length;
}

turned : (v w : ViewParts) → AreAlikeButForWords v w → AreAlikeButForWords w v
turned v w h = record {
  nprocs = sym h.nprocs;
  pid = sym h.pid;
  step = sym h.step;
  args = sym h.args;
  table = sym h.table;
  tag_size = sym h.tag_size;
  queue = sym h.queue;
  same_length = sym h.same_length;
}

-- views that are alike are so to a third view
onward : (acts : ViewParts → List Act) (ending : ViewParts → End) (looks : ViewParts → ℕ → Bool) → IsFootprint acts ending looks → (v x y : ViewParts) → IsView v → IsView x
    → AreAlike (looks x) x y → AreAlike (looks v) v x → AreAlike (looks v) v y
onward acts ending looks law v x y V X h k = record {
  parts = joined v x y k.parts h.parts;
  words = λ a l t. k.words a l t ∙ h.words a (omega (arith, l, k.parts.same_length)) (sym (law.looks_alike v x V X k.parts a) ∙ t);
}

back : (acts : ViewParts → List Act) (ending : ViewParts → End) (looks : ViewParts → ℕ → Bool) → IsFootprint acts ending looks → (x y : ViewParts) → IsView x → IsView y
    → AreAlike (looks x) x y → AreAlike (looks y) y x
back acts ending looks law x y X Y h = record {
  parts = turned x y h.parts;
  words = λ a l t. sym (h.words a (omega (arith, l, h.parts.same_length)) (law.looks_alike x y X Y h.parts a ∙ t));
}

-- so both serve a third one, or neither does
both_serve : (acts : ViewParts → List Act) (ending : ViewParts → End) (looks : ViewParts → ℕ → Bool) → IsFootprint acts ending looks → (v x y : ViewParts) → IsView v → IsView x → IsView y
    → AreAlike (looks x) x y → serves looks v x ≡ serves looks v y
both_serve acts ending looks law v x y V X Y h =
    same_from_decides (serves looks v x) (serves looks v y)
    (Decides-like (serves looks v x) (onward acts ending looks law v x y V X h) (onward acts ending looks law v y x V Y (back acts ending looks law x y X Y h)) (Decides-serves looks v x))
    (Decides-serves looks v y)

abbrev halts_if : Bool → End
halts_if b = cond b Halt Sync

abbrev ended_if : Bool → Ended
ended_if b = ended_of (abort_of (halts_if b)) (halts_if b)

ended_apart : (b c : Bool) → b ≡ true → c ≡ false → ended_if b ≢ ended_if c
ended_apart true false h k e = cc
ended_apart true true h k e = cc
ended_apart false c h k e = cc

not_yes : (b : Bool) → (b ≡ true → ⊥) → b ≡ false
not_yes true h = absurd (h refl)
not_yes false h = refl

pub told_apart : (acts : ViewParts → List Act) (ending : ViewParts → End) (looks : ViewParts → ℕ → Bool) → IsFootprint acts ending looks
    → (v w : ViewParts) → IsView v → IsView w → (AreAlike (looks v) v w → ⊥) → TellsApart looks v w
told_apart acts ending looks law v w V W other = record {
  acts = λ x. [];
  ending = λ x. halts_if (serves looks v x);
  footprint = record {
    acts_alike = λ x y X Y h. refl;
    ending_alike = λ x y X Y h. ap halts_if (both_serve acts ending looks law v x y V X Y h);
    looks_alike = law.looks_alike;
  };
  other = ended_apart (serves looks v v) (serves looks v w) (serves-itself looks v) (not_yes (serves looks v w) (λ t. other ((Decides-serves looks v w).0 t)));
}
