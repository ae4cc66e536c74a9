-- Logs: what was heard and said, stretch by stretch.
use Rattle.std.proofs.Common.{◌≡◌, ℕ, List, [], ◌∷◌, ◌++◌, take, drop, Option, Some, None, refl, sym, ap, subst, ◌∙◌, ◌⊎◌, inl, inr, append_assoc}
use Rattle.std.proofs.lemmas.List.{append-nil, take-append-drop}
use Rattle.bsp_engine.specs.Talk.{Event, failed, heard, said, Fails, Goes, heard_in, said_in, HasEnded, HasFailed, HasNotWritten, Due, IsPrompt}
use Rattle.bsp_engine.specs.Inside.Talk.{OnlySaid, Says, SaysPart}

pub goes_more : (a b c : Option (List Event)) (es fs : List Event) → Goes a b es → Goes b c fs → Goes a c (fs ++ es)
goes_more None None None es fs h i = tt
goes_more None None (Some z) es fs h i = absurd i
goes_more None (Some y) c es fs h i = absurd h
goes_more (Some x) None c es fs h i = absurd h
goes_more (Some x) (Some y) None es fs h i = absurd i
goes_more (Some x) (Some y) (Some z) es fs h i = i ∙ (ap (λ l. fs ++ l) h ∙ sym (append_assoc fs es x))

pub goes_none : (a : Option (List Event)) → Goes a a []
goes_none None = tt
goes_none (Some x) = refl

-- two stretches of a log
pub said_append : (fs es : List Event) → said_in (fs ++ es) ≡ said_in es ++ said_in fs
said_append [] es = sym (append-nil (said_in es))
said_append (heard b ∷ fs) es = said_append fs es
said_append (failed ∷ fs) es = said_append fs es
said_append (said b ∷ fs) es = ap (λ l. l ++ b) (said_append fs es) ∙ append_assoc (said_in es) (said_in fs) b

pub heard_only : (fs es : List Event) → OnlySaid fs → heard_in (fs ++ es) ≡ heard_in es
heard_only [] es h = refl
heard_only (heard b ∷ fs) es h = absurd h
heard_only (failed ∷ fs) es h = heard_only fs es h
heard_only (said b ∷ fs) es h = heard_only fs es h

pub heard_none : (fs : List Event) → OnlySaid fs → heard_in fs ≡ []
heard_none [] h = refl
heard_none (heard b ∷ fs) h = absurd h
heard_none (failed ∷ fs) h = heard_none fs h
heard_none (said b ∷ fs) h = heard_none fs h

pub prompt_only : (due : Due) (fs es : List Event) → OnlySaid fs → IsPrompt due es → IsPrompt due (fs ++ es)
prompt_only due [] es h p = p
prompt_only due (heard b ∷ fs) es h p = absurd h
prompt_only due (failed ∷ fs) es h p = prompt_only due fs es h p
prompt_only due (said b ∷ fs) es h p = prompt_only due fs es h p

pub prompt_first : (due : Due) (fs : List Event) → OnlySaid fs → IsPrompt due fs
prompt_first due [] h = tt
prompt_first due (heard b ∷ fs) h = absurd h
prompt_first due (failed ∷ fs) h = prompt_first due fs h
prompt_first due (said b ∷ fs) h = prompt_first due fs h

pub ended_only : (fs es : List Event) → OnlySaid fs → HasEnded es → HasEnded (fs ++ es)
ended_only [] es h p = p
ended_only (heard b ∷ fs) es h p = absurd h
ended_only (failed ∷ fs) es h p = ended_only fs es h p
ended_only (said b ∷ fs) es h p = ended_only fs es h p

pub only_append : (fs es : List Event) → OnlySaid fs → OnlySaid es → OnlySaid (fs ++ es)
only_append [] es h p = p
only_append (heard b ∷ fs) es h p = absurd h
only_append (failed ∷ fs) es h p = only_append fs es h p
only_append (said b ∷ fs) es h p = only_append fs es h p

-- texts that go out one after the other
pub says_nothing : (a : Option (List Event)) → Says a a []
says_nothing a = record { events = []; goes = goes_none a; only = tt; is = refl }

pub says_one : (a b : Option (List Event)) (text : List ℕ) → Goes a b (said text ∷ []) → Says a b text
says_one a b text g = record { events = said text ∷ []; goes = g; only = tt; is = refl }

pub says_more : (a b c : Option (List Event)) (xs ys : List ℕ) → Says a b xs → Says b c ys → Says a c (xs ++ ys)
says_more a b c xs ys h i = record {
  events = i.events ++ h.events;
  goes = goes_more a b c h.events i.events h.goes i.goes;
  only = only_append i.events h.events i.only h.only;
  is = said_append i.events h.events ∙ (ap (λ l. l ++ said_in i.events) h.is ∙ ap (λ l. xs ++ l) i.is);
}

-- a failure, as an event more or none
fails_as : (a b c : Option (List Event)) (text : List ℕ) → Says a b text → Goes b c (failed ∷ []) ⊎ Goes b c [] → Says a c text
fails_as a b c text s (inl g) = record { events = failed ∷ s.events; goes = goes_more a b c s.events (failed ∷ []) s.goes g; only = s.only; is = s.is }
fails_as a b c text s (inr g) = record { events = s.events; goes = goes_more a b c s.events [] s.goes g; only = s.only; is = s.is }

unwritten : (log : Option (List Event)) → HasFailed log → HasNotWritten log
unwritten None h = tt
unwritten (Some []) h = absurd h
unwritten (Some (heard b ∷ es)) h = absurd h
unwritten (Some (said b ∷ es)) h = absurd h
unwritten (Some (failed ∷ es)) h = tt

took_none : (a b : Option (List Event)) → Goes a b (said [] ∷ []) → HasNotWritten b
took_none None None g = tt
took_none None (Some log) g = absurd g
took_none (Some x) None g = absurd g
took_none (Some x) (Some y) g = subst (λ (log : List Event). HasNotWritten (Some log)) (sym g) refl

-- a beginning of a text, behind which a write failed or took no byte
pub part_failed : (a b c : Option (List Event)) (n : ℕ) (xs : List ℕ) → Says a b (take n xs) → Fails b c → SaysPart a c xs
part_failed a b c n xs s g = record { text = take n xs; begins = (drop n xs, sym (take-append-drop n xs)); says = fails_as a b c (take n xs) s g.1; unwritten = unwritten c g.0 }

pub part_untaken : (a b c : Option (List Event)) (n : ℕ) (xs : List ℕ) → Says a b (take n xs) → Goes b c (said [] ∷ []) → SaysPart a c xs
part_untaken a b c n xs s g = record {
  text = take n xs;
  begins = (drop n xs, sym (take-append-drop n xs));
  says = record { events = said [] ∷ s.events; goes = goes_more a b c s.events (said [] ∷ []) s.goes g; only = s.only; is = append-nil (said_in s.events) ∙ s.is };
  unwritten = took_none b c g;
}
