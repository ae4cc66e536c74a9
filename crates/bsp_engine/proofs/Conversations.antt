-- Conversations that go on: what was heard and said, piece by piece.
use Rattle.std.proofs.Common.{◌≡◌, ℕ, ◌+◌, ◌<◌, ◌≤◌, nat_lt, length, get_or, add-one, drop-cons, arith, true, false, cond, List, [], ◌∷◌, ◌++◌, drop, Option, Result, Ok, Err, refl, sym, ap, subst, ◌∙◌, inl, inr, append_assoc}
use Rattle.std.proofs.lemmas.Bool.Decides.{nat_tests}
use Rattle.std.specs.Prelude.{◌==◌, IfErr, IsErrAnd, OnErr, OnOk}
use Rattle.std.proofs.lemmas.List.{append-nil}
use Rattle.bsp_model.specs.Limits.{most_document_bytes}
use Rattle.bsp_engine.specs.declared.errors.EngineError.{EngineError}
use Rattle.bsp_engine.specs.declared.errors.EngineError.TheVariants.{Read, Write, OutOfMemory}
use Rattle.bsp_engine.specs.Talk.{Event, failed, heard, Fails, Goes, HasFailed, HasNotWritten, heard_in, said_in, whole_lines, unless_empty, all_lines, Due, Talks, Breaks, IsBeginning, IsDueForSome, TalksUntil}
use Rattle.bsp_engine.specs.Inside.Talk.{kept, lines_from, rest_from, Says, SaysPart, Answered, Stopped, AttendedIf, Attended, UnattendedIf, Unattended, IsGoing, BreaksOff, Ends}
use Rattle.bsp_engine.proofs.HeardLines.{whole_are, all_are}
use Rattle.bsp_engine.proofs.Logs.{goes_more, said_append, heard_only, heard_none, prompt_only, prompt_first, ended_only, says_nothing}

-- the answer to a line broke off in its text
stopped_write : (due now : Due) (line : List ℕ) (old new : Option (List Event)) (text : List ℕ) → ((later : List (List ℕ)) → due (line ∷ later) ≡ text ++ now later) → SaysPart old new text → Stopped due line old new Write
stopped_write due now line old new text next p = record {
  text = p.text;
  says = p.says;
  reason = p.unwritten;
  begins = λ later. (p.begins.0 ++ now later, next later ∙ (ap (λ l. l ++ now later) p.begins.1 ∙ append_assoc p.text p.begins.0 (now later)));
  whole = λ other. absurd (other refl);
}

pub stopped_part : (r : Result (Unit {0}) EngineError) (due now : Due) (line : List ℕ) (old new : Option (List Event)) (text : List ℕ) → ((later : List (List ℕ)) → due (line ∷ later) ≡ text ++ now later)
    → OnErr r (SaysPart old new text) → IfErr r (λ e. e ≡ Write) → IfErr r (λ e. Stopped due line old new e)
stopped_part (Ok u) due now line old new text next part is = tt
stopped_part (Err e) due now line old new text next part is = subst (λ (x : EngineError). Stopped due line old new x) (sym is) (stopped_write due now line old new text next part)

-- the error is handed on
pub stopped_on : (r : Result (Unit {0}) EngineError) (e : EngineError) (due : Due) (line : List ℕ) (old new : Option (List Event)) → IsErrAnd r (λ y. y ≡ e) → Stopped due line old new e → IfErr r (λ x. Stopped due line old new x)
stopped_on (Ok u) e due line old new same stopped = tt
stopped_on (Err y) e due line old new same stopped = subst (λ (x : EngineError). Stopped due line old new x) (sym same) stopped

-- there was no memory for it
pub stopped_before : (due : Due) (line : List ℕ) (log : Option (List Event)) → Stopped due line log log OutOfMemory
stopped_before due line log = record {
  text = [];
  says = says_nothing log;
  reason = tt;
  begins = λ later. (due (line ∷ later), refl);
  whole = λ other. refl;
}

-- lines of a text that comes in two pieces
lines_append : (begun xs ys : List ℕ) → lines_from begun (xs ++ ys) ≡ lines_from begun xs ++ lines_from (rest_from begun xs) ys
lines_append begun [] ys = refl
lines_append begun (x ∷ xs) ys =
    elim (x == 10) as (λ t. cond t (begun ∷ lines_from [] (xs ++ ys)) (lines_from (kept begun x) (xs ++ ys))
    ≡ cond t (begun ∷ lines_from [] xs) (lines_from (kept begun x) xs) ++ lines_from (cond t (rest_from [] xs) (rest_from (kept begun x) xs)) ys) [
      | true ↦ ap (λ l. begun ∷ l) (lines_append [] xs ys)
      | false ↦ lines_append (kept begun x) xs ys
    ]

rest_append : (begun xs ys : List ℕ) → rest_from begun (xs ++ ys) ≡ rest_from (rest_from begun xs) ys
rest_append begun [] ys = refl
rest_append begun (x ∷ xs) ys =
    elim (x == 10) as (λ t. cond t (rest_from [] (xs ++ ys)) (rest_from (kept begun x) (xs ++ ys))
    ≡ rest_from (cond t (rest_from [] xs) (rest_from (kept begun x) xs)) ys) [
      | true ↦ rest_append [] xs ys
      | false ↦ rest_append (kept begun x) xs ys
    ]

-- what lines are still due, once whole lines of these bytes were answered
others_of : List ℕ → List ℕ → List (List ℕ)
others_of begun left = lines_from begun left ++ unless_empty (rest_from begun left)

whole_more : (done left : List ℕ) → whole_lines (done ++ left) ≡ whole_lines done ++ lines_from (rest_from [] done) left
whole_more done left = sym (whole_are (done ++ left)) ∙ lines_append [] done left ∙ ap (λ l. l ++ lines_from (rest_from [] done) left) (whole_are done)

all_split : (done left : List ℕ) → all_lines (done ++ left) ≡ whole_lines done ++ others_of (rest_from [] done) left
unfolding others_of
all_split done left =
    all_are (done ++ left)
    ∙ (ap (λ l. l ++ unless_empty (rest_from [] (done ++ left))) (whole_more done left)
    ∙ (ap (λ r. (whole_lines done ++ lines_from (rest_from [] done) left) ++ unless_empty r) (rest_append [] done left)
    ∙ append_assoc (whole_lines done) (lines_from (rest_from [] done) left) (unless_empty (rest_from (rest_from [] done) left))))

-- the same in other words
pub goes_as : (due now : Due) (old new : Option (List Event)) (begun left begun' left' : List ℕ) → IsGoing due now old new begun left → begun ≡ begun' → left ≡ left' → IsGoing due now old new begun' left'
goes_as due now old new begun left begun' left' h e f = record {
  events = h.events;
  goes = h.goes;
  prompt = h.prompt;
  done = h.done;
  heard_all = h.heard_all ∙ ap (λ l. h.done ++ l) f;
  next = h.next;
  rest = sym e ∙ h.rest;
}

-- the first text went out
pub goes_first : (now : Due) (old new : Option (List Event)) (first : List ℕ) → Says old new first → IsGoing (λ lines. first ++ now lines) now old new [] []
goes_first now old new first s = record {
  events = s.events;
  goes = s.goes;
  prompt = prompt_first (λ lines. first ++ now lines) s.events s.only;
  done = [];
  heard_all = heard_none s.events s.only;
  next = λ later. ap (λ l. l ++ now later) (sym s.is);
  rest = refl;
}

-- what was said is what is due for the lines that were answered
said_due : (due now : Due) (old new : Option (List Event)) (begun left : List ℕ) (h : IsGoing due now old new begun left) → now [] ≡ [] → said_in h.events ≡ due (whole_lines h.done)
said_due due now old new begun left h none =
    sym (ap due (sym (append-nil (whole_lines h.done))) ∙ (h.next [] ∙ (ap (λ l. said_in h.events ++ l) none ∙ append-nil (said_in h.events))))

-- a read gave a piece
pub goes_heard : (due now : Due) (old mid new : Option (List Event)) (begun piece : List ℕ) → IsGoing due now old mid begun [] → now [] ≡ [] → Goes mid new (heard piece ∷ []) → IsGoing due now old new begun piece
goes_heard due now old mid new begun piece h none g =
    let all : heard_in h.events ≡ h.done = h.heard_all ∙ append-nil h.done in
    record {
      events = heard piece ∷ h.events;
      goes = goes_more old mid new h.events (heard piece ∷ []) h.goes g;
      prompt = (said_due due now old mid begun [] h none ∙ ap (λ l. due (whole_lines l)) (sym all), h.prompt);
      done = h.done;
      heard_all = ap (λ l. l ++ piece) all;
      next = h.next;
      rest = h.rest;
    }

-- a byte of a line
pub goes_byte : (due now : Due) (old new : Option (List Event)) (begun : List ℕ) (b : ℕ) (left : List ℕ) → IsGoing due now old new begun (b ∷ left) → (b == 10) ≡ false → IsGoing due now old new (kept begun b) left
goes_byte due now old new begun b left h is =
    let same : whole_lines (h.done ++ b ∷ []) ≡ whole_lines h.done =
    whole_more h.done (b ∷ []) ∙ (ap (λ t. whole_lines h.done ++ cond t (rest_from [] h.done ∷ []) []) is ∙ append-nil (whole_lines h.done)) in
    record {
      events = h.events;
      goes = h.goes;
      prompt = h.prompt;
      done = h.done ++ b ∷ [];
      heard_all = h.heard_all ∙ sym (append_assoc h.done (b ∷ []) left);
      next = λ later. ap (λ l. due (l ++ later)) same ∙ h.next later;
      rest = ap (λ l. kept l b) h.rest ∙ sym (rest_append [] h.done (b ∷ []) ∙ ap (λ t. cond t [] (kept (rest_from [] h.done) b)) is);
    }

-- the end of a line, which is answered
pub goes_line : (due now after : Due) (old mid new : Option (List Event)) (begun : List ℕ) (b : ℕ) (left : List ℕ) → IsGoing due now old mid begun (b ∷ left) → (b == 10) ≡ true → Answered now after begun mid new → IsGoing due after old new [] left
goes_line due now after old mid new begun b left h is a =
    let s = a.says in
    let more : whole_lines (h.done ++ b ∷ []) ≡ whole_lines h.done ++ begun ∷ [] =
    whole_more h.done (b ∷ []) ∙ (ap (λ t. whole_lines h.done ++ cond t (rest_from [] h.done ∷ []) []) is ∙ ap (λ l. whole_lines h.done ++ l ∷ []) (sym h.rest)) in
    record {
      events = s.events ++ h.events;
      goes = goes_more old mid new h.events s.events h.goes s.goes;
      prompt = prompt_only due s.events h.events s.only h.prompt;
      done = h.done ++ b ∷ [];
      heard_all = heard_only s.events h.events s.only ∙ (h.heard_all ∙ sym (append_assoc h.done (b ∷ []) left));
      next = λ later. ap (λ l. due (l ++ later)) more ∙ (ap due (append_assoc (whole_lines h.done) (begun ∷ []) later)
          ∙ (h.next (begun ∷ later) ∙ (ap (λ l. said_in h.events ++ l) (a.next later)
          ∙ (sym (append_assoc (said_in h.events) a.text (after later))
          ∙ ap (λ l. l ++ after later) (ap (λ l. said_in h.events ++ l) (sym s.is) ∙ sym (said_append s.events h.events))))));
      rest = sym (rest_append [] h.done (b ∷ []) ∙ ap (λ t. cond t [] (kept (rest_from [] h.done) b)) is);
    }

-- the whole lines were answered
whole_so_far : (due now : Due) (old new : Option (List Event)) (begun left : List ℕ) (h : IsGoing due now old new begun left) → now [] ≡ [] → IsDueForSome due (all_lines (heard_in h.events)) (said_in h.events)
whole_so_far due now old new begun left h none = record {
  answered = whole_lines h.done;
  others = others_of (rest_from [] h.done) left;
  all = ap all_lines h.heard_all ∙ all_split h.done left;
  is = said_due due now old new begun left h none;
}

begins_so_far : (due now : Due) (old new : Option (List Event)) (begun left : List ℕ) (h : IsGoing due now old new begun left) → IsBeginning (said_in h.events) (due (all_lines (heard_in h.events)))
begins_so_far due now old new begun left h =
    (now (others_of (rest_from [] h.done) left), ap due (ap all_lines h.heard_all ∙ all_split h.done left) ∙ h.next (others_of (rest_from [] h.done) left))

-- it breaks off for want of memory
pub breaks_now : (due now : Due) (old new : Option (List Event)) (begun left : List ℕ) → IsGoing due now old new begun left → now [] ≡ [] → Breaks due old new OutOfMemory
breaks_now due now old new begun left h none = record {
  events = h.events;
  goes = h.goes;
  reason = tt;
  prompt = h.prompt;
  said = begins_so_far due now old new begun left h;
  whole = λ _. inr (whole_so_far due now old new begun left h none);
}

-- it breaks off where a read failed
pub breaks_read : (due now : Due) (old mid new : Option (List Event)) (begun : List ℕ) → IsGoing due now old mid begun [] → now [] ≡ [] → Fails mid new → Breaks due old new Read
breaks_read due now old mid new begun h none g =
    elim g.1 as (λ _. Breaks due old new Read) [
      | inl more ↦ record {
        events = failed ∷ h.events;
        goes = goes_more old mid new h.events (failed ∷ []) h.goes more;
        reason = g.0;
        prompt = h.prompt;
        said = begins_so_far due now old mid begun [] h;
        whole = λ _. inr (whole_so_far due now old mid begun [] h none);
      }
      | inr same ↦ record {
        events = h.events;
        goes = goes_more old mid new h.events [] h.goes same;
        reason = g.0;
        prompt = h.prompt;
        said = begins_so_far due now old mid begun [] h;
        whole = λ _. inr (whole_so_far due now old mid begun [] h none);
      }
    ]

-- it breaks off in the first text
breaks_first : (now : Due) (old new : Option (List Event)) (first : List ℕ) → SaysPart old new first → Breaks (λ lines. first ++ now lines) old new Write
breaks_first now old new first p =
    let s = p.says in
    record {
      events = s.events;
      goes = s.goes;
      reason = p.unwritten;
      prompt = prompt_first (λ lines. first ++ now lines) s.events s.only;
      said = (
        p.begins.0 ++ now (all_lines (heard_in s.events)),
        ap (λ l. l ++ now (all_lines (heard_in s.events))) (p.begins.1 ∙ ap (λ l. l ++ p.begins.0) (sym s.is))
            ∙ append_assoc (said_in s.events) p.begins.0 (now (all_lines (heard_in s.events))),
      );
      whole = λ other. absurd (other refl);
    }

pub breaks_at_first : (now : Due) (old new : Option (List Event)) (first : List ℕ) (error : EngineError) → SaysPart old new first → error ≡ Write → Breaks (λ lines. first ++ now lines) old new error
breaks_at_first now old new first error p is = subst (λ (e : EngineError). Breaks (λ lines. first ++ now lines) old new e) (sym is) (breaks_first now old new first p)

-- it breaks off in the answer to a line, the first of those that are still due
stops_in : (due now : Due) (old mid new : Option (List Event)) (begun left : List ℕ) (others : List (List ℕ)) (error : EngineError) (h : IsGoing due now old mid begun left) → now [] ≡ [] → others_of (rest_from [] h.done) left ≡ begun ∷ others → Stopped now begun mid new error → Breaks due old new error
stops_in due now old mid new begun left others error h none due_still t =
    let s = t.says in
    let events = s.events ++ h.events in
    let lines : all_lines (heard_in events) ≡ whole_lines h.done ++ begun ∷ others =
    ap all_lines (heard_only s.events h.events s.only ∙ h.heard_all) ∙ (all_split h.done left ∙ ap (λ l. whole_lines h.done ++ l) due_still) in
    let so_far : said_in events ≡ said_in h.events ++ t.text = said_append s.events h.events ∙ ap (λ l. said_in h.events ++ l) s.is in
    let part = t.begins others in
    record {
      events = events;
      goes = goes_more old mid new h.events s.events h.goes s.goes;
      reason = t.reason;
      prompt = prompt_only due s.events h.events s.only h.prompt;
      said = (
        part.0,
        ap due lines ∙ (h.next (begun ∷ others) ∙ (ap (λ l. said_in h.events ++ l) part.1
            ∙ (sym (append_assoc (said_in h.events) t.text part.0) ∙ ap (λ l. l ++ part.0) (sym so_far)))),
      );
      whole = λ other. inr (record {
        answered = whole_lines h.done;
        others = begun ∷ others;
        all = lines;
        is = so_far ∙ (ap (λ l. said_in h.events ++ l) (t.whole other) ∙ (append-nil (said_in h.events) ∙ said_due due now old mid begun left h none));
      });
    }

pub breaks_in_line : (due now : Due) (old mid new : Option (List Event)) (begun : List ℕ) (b : ℕ) (left : List ℕ) (error : EngineError) → IsGoing due now old mid begun (b ∷ left) → now [] ≡ [] → (b == 10) ≡ true → Stopped now begun mid new error → Breaks due old new error
unfolding others_of
breaks_in_line due now old mid new begun b left error h none is t =
    stops_in due now old mid new begun (b ∷ left) (others_of [] left) error h none
    (ap (λ t. cond t (rest_from [] h.done ∷ lines_from [] left) (lines_from (kept (rest_from [] h.done) b) left) ++ unless_empty (cond t (rest_from [] left) (rest_from (kept (rest_from [] h.done) b) left))) is
    ∙ ap (λ l. l ∷ others_of [] left) (sym h.rest)) t

last_line : (begun : List ℕ) → (begun ≡ [] → ⊥) → unless_empty begun ≡ begun ∷ []
last_line [] some = absurd (some refl)
last_line (b ∷ bs) some = refl

breaks_in_last : (due now : Due) (old mid new : Option (List Event)) (begun : List ℕ) (error : EngineError) → IsGoing due now old mid begun [] → now [] ≡ [] → (begun ≡ [] → ⊥) → Stopped now begun mid new error → Breaks due old new error
unfolding others_of
breaks_in_last due now old mid new begun error h none some t =
    stops_in due now old mid new begun [] [] error h none (ap unless_empty (sym h.rest) ∙ last_line begun some) t

-- the end is found, and no line was begun
pub talks_end : (due now : Due) (old mid new : Option (List Event)) (begun piece : List ℕ) → IsGoing due now old mid begun [] → now [] ≡ [] → Goes mid new (heard piece ∷ []) → piece ≡ [] → begun ≡ [] → Talks due old new
unfolding goes_heard
talks_end due now old mid new begun piece h none g ended empty =
    let k = goes_heard due now old mid new begun piece h none g in
    let lines : all_lines (heard_in k.events) ≡ whole_lines k.done =
    ap all_lines (k.heard_all ∙ ap (λ l. k.done ++ l) ended ∙ append-nil k.done) ∙ all_are k.done ∙ (ap (λ l. whole_lines k.done ++ unless_empty l) (sym k.rest ∙ empty) ∙ append-nil (whole_lines k.done)) in
    record {
      events = k.events;
      goes = k.goes;
      prompt = k.prompt;
      said = said_due due now old new begun piece k none ∙ ap due (sym lines);
      ended = ended;
    }

-- the end is found, and the line that was begun is answered
talks_last : (due now after : Due) (old mid late new : Option (List Event)) (begun piece : List ℕ) → IsGoing due now old mid begun [] → now [] ≡ [] → after [] ≡ [] → Goes mid late (heard piece ∷ []) → piece ≡ [] → (begun ≡ [] → ⊥) → Answered now after begun late new → Talks due old new
unfolding goes_heard
talks_last due now after old mid late new begun piece h none none_after g ended some a =
    let k = goes_heard due now old mid late begun piece h none g in
    let s = a.says in
    let events = s.events ++ k.events in
    let lines : all_lines (heard_in events) ≡ whole_lines k.done ++ begun ∷ [] =
    ap all_lines (heard_only s.events k.events s.only ∙ (k.heard_all ∙ ap (λ l. k.done ++ l) ended ∙ append-nil k.done))
    ∙ all_are k.done
    ∙ ap (λ l. whole_lines k.done ++ l) (ap unless_empty (sym k.rest) ∙ last_line begun some) in
    record {
      events = events;
      goes = goes_more old late new k.events s.events k.goes s.goes;
      prompt = prompt_only due s.events k.events s.only k.prompt;
      said = sym (ap due lines ∙ (k.next (begun ∷ []) ∙ (ap (λ l. said_in k.events ++ l) (a.next [] ∙ (ap (λ l. a.text ++ l) none_after ∙ append-nil a.text))
          ∙ (ap (λ l. said_in k.events ++ l) (sym s.is) ∙ sym (said_append s.events k.events)))));
      ended = ended_only s.events k.events s.only ended;
    }

-- the answer to the line that was begun where the end was heard
pub rest_ends : (r : Result (Unit {0}) EngineError) (now after : Due) (begun : List ℕ) (old new : Option (List Event)) → now [] ≡ [] → after [] ≡ [] → (begun ≡ [] → ⊥) → OnOk r (Answered now after begun old new) → OnOk r (Ends now begun old new)
rest_ends (Err e) now after begun old new none none_after some a = tt
rest_ends (Ok u) now after begun old new none none_after some a = λ due start mid h g. talks_last due now after start mid old new begun [] h none none_after g refl some a

pub rest_breaks : (r : Result (Unit {0}) EngineError) (now : Due) (begun : List ℕ) (old new : Option (List Event)) → now [] ≡ [] → (begun ≡ [] → ⊥) → IfErr r (λ e. Stopped now begun old new e) → IfErr r (λ e. BreaksOff now begun [] old new e)
rest_breaks (Ok u) now begun old new none some t = tt
rest_breaks (Err e) now begun old new none some t = λ due start h. breaks_in_last due now start old new begun e h none some t

-- a conversation that broke off for this reason
pub until_error : (r : Result (Unit {0}) EngineError) (e : EngineError) (due : Due) (old new : Option (List Event)) → IsErrAnd r (λ y. y ≡ e) → Breaks due old new e → TalksUntil due old new r
until_error (Ok u) e due old new h b = absurd h
until_error (Err y) e due old new h b = subst (Breaks due old new) (sym h) b

-- the answer to one byte, at an LF and at another
pub going_byte : (due now after : Due) (old mid new : Option (List Event)) (begun left : List ℕ) (b : ℕ) (next later : List ℕ) → IsGoing due now old mid begun left → left ≡ b ∷ later → Attended now after begun b next mid new → IsGoing due after old new next later
going_byte due now after old mid new begun left b next later h is a =
    elim (b == 10) as (λ t. (b == 10) ≡ t → AttendedIf t now after begun b next mid new → IsGoing due after old new next later) [
      | true ↦ λ e a. goes_as due after old new [] later next later (goes_line due now after old mid new begun b later (goes_as due now old mid begun left begun (b ∷ later) h refl is) e a.1) (sym a.0) refl
      | false ↦ λ e a. subst (λ (d : Due). IsGoing due d old new next later) (sym a.1) (subst (λ (l : Option (List Event)). IsGoing due now old l next later) (sym a.2)
          (goes_as due now old mid (kept begun b) later next later (goes_byte due now old mid begun b later (goes_as due now old mid begun left begun (b ∷ later) h refl is) e) (sym a.0) refl))
    ] refl a

pub breaks_in_byte : (due now : Due) (old mid new : Option (List Event)) (begun left : List ℕ) (b : ℕ) (later : List ℕ) (error : EngineError) → IsGoing due now old mid begun left → now [] ≡ [] → left ≡ b ∷ later → Unattended now begun b mid new error → Breaks due old new error
breaks_in_byte due now old mid new begun left b later error h none is a =
    elim (b == 10) as (λ t. (b == 10) ≡ t → UnattendedIf t now begun mid new error → Breaks due old new error) [
      | true ↦ λ e a. breaks_in_line due now old mid new begun b later error (goes_as due now old mid begun left begun (b ∷ later) h refl is) none e a
      | false ↦ λ e a. subst (λ (x : EngineError). Breaks due old new x) (sym a.0) (subst (λ (l : Option (List Event)). Breaks due old l OutOfMemory) (sym a.1) (breaks_now due now old mid begun left h none))
    ] refl a

-- a byte that is an LF, and another
pub attended_line : (due now : Due) (begun next : List ℕ) (b : ℕ) (old new : Option (List Event)) → b ≡ 10 → next ≡ [] → Answered due now begun old new → Attended due now begun b next old new
attended_line due now begun next b old new e none a = rw e (none, a)

pub attended_byte : (due now : Due) (begun next : List ℕ) (b : ℕ) (old new : Option (List Event)) → (b ≡ 10 → ⊥) → next ≡ kept begun b → now ≡ due → new ≡ old → Attended due now begun b next old new
attended_byte due now begun next b old new e keeps same silent = let no : (b == 10) ≡ false = grind (arith, nat_tests) in rw no (keeps, same, silent)

pub unattended_line : (due : Due) (begun : List ℕ) (b : ℕ) (old new : Option (List Event)) (error : EngineError) → b ≡ 10 → Stopped due begun old new error → Unattended due begun b old new error
unattended_line due begun b old new error e a = rw e a

pub unattended_byte : (due : Due) (begun : List ℕ) (b : ℕ) (old new : Option (List Event)) (error : EngineError) → (b ≡ 10 → ⊥) → error ≡ OutOfMemory → new ≡ old → Unattended due begun b old new error
unattended_byte due begun b old new error e refused silent = let no : (b == 10) ≡ false = grind (arith, nat_tests) in rw no (refused, silent)

-- of a line that is too long already no more is kept
pub kept_none : (begun : List ℕ) (b : ℕ) → most_document_bytes < length begun → kept begun b ≡ begun
unfolding kept
kept_none begun b long = let no : nat_lt most_document_bytes (length begun) ≡ true = grind (arith, nat_tests) in rw no refl

pub kept_one : (begun : List ℕ) (b : ℕ) → length begun ≤ most_document_bytes → kept begun b ≡ begun ++ b ∷ []
unfolding kept
kept_one begun b short = let no : nat_lt most_document_bytes (length begun) ≡ false = grind (arith, nat_tests) in rw no refl

-- an error that was handed on
pub handed_on : {A : Type 0} (r : Result A EngineError) (e : EngineError) (P : EngineError → Type 0) → IsErrAnd r (λ y. y ≡ e) → P e → IfErr r P
handed_on (Ok u) e P h p = tt
handed_on (Err y) e P h p = subst P (sym h) p

-- the next byte of a piece
pub drop_next : (xs : List ℕ) (i : ℕ) → i < length xs → drop i xs ≡ get_or xs i 0 ∷ drop (i + 1) xs
drop_next xs i h = rw add-one (drop-cons xs i 0 h)

-- whether a line was begun
pub none_begun : (items : List ℕ) (n : ℕ) → n ≡ length items → (n == 0) ≡ true → items ≡ []
none_begun [] n same test = refl
none_begun (x ∷ xs) n same test = let zero : n ≡ 0 = grind (arith, nat_tests) in absurd (omega arith)

pub some_begun : (items : List ℕ) (n : ℕ) → n ≡ length items → (n == 0) ≡ false → items ≡ [] → ⊥
some_begun items n same test none =
    let zero : n ≡ 0 = same ∙ ap length none in
    let no : true ≡ false = sym (ap (λ (k : ℕ). k == 0) zero) ∙ test in
    cc

-- a failure at the terminal is there to see
pub reads_fail : (r : Result (Unit {0}) EngineError) (due : Due) (old new : Option (List Event)) → TalksUntil due old new r → r ≡ Err Read → HasFailed new
reads_fail r due old new talks is = let b = subst (TalksUntil due old new) is talks in b.reason

pub writes_fail : (r : Result (Unit {0}) EngineError) (due : Due) (old new : Option (List Event)) → TalksUntil due old new r → r ≡ Err Write → HasNotWritten new
writes_fail r due old new talks is = let b = subst (TalksUntil due old new) is talks in b.reason
