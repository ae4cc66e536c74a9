-- Why a turn was taken again (this profile).
use Rattle.std.specs.Prelude.{◌≡◌, ℕ, Bool, true, false, ◌==◌, ◌&&◌, not, nat_lt, List, [], filter, length, slice_index, if◌then◌else◌}
use Rattle.std.specs.Cmp.Lexicographic.{pointwise}
use Rattle.std.specs.List.{range_with_len}
use Rattle.bsp_step.specs.ViewParts.{ViewParts}
use Rattle.bsp_run.specs.declared.superstep.Superstep.{Superstep}
use Rattle.bsp_run.specs.Supersteps.{superstep_at}
use Rattle.bsp_incr.specs.declared.reply.Place.{Place}
use Rattle.bsp_incr.specs.Exact.{HasTurn, view_there}
use Rattle.bsp_table.specs.Same.{same_table}
use Rattle.bsp_model.specs.Same.{same_words, same_message}
use Rattle.bsp_causes.specs.declared.turns.TurnCauses.{TurnCauses}

-- the previous run has such a turn
abbrev pub has_turn : List Superstep → Place → Bool
has_turn ss place = nat_lt place.pid (length (superstep_at ss place.step).views)

-- views of as many processes, with memories of the same length
pub record AreOfOneSize (old new : ViewParts) : Type 0 where
  pub nprocs : old.nprocs ≡ new.nprocs
  pub memory : length old.memory ≡ length new.memory

-- Where the previous run has a turn at the place, what was seen there and what is seen in the new run are of one size.
abbrev pub HaveSameSizes : List Superstep → List Superstep → Place → Type 0
HaveSameSizes olds news place = HasTurn olds place → AreOfOneSize (view_there olds place) (view_there news place)

-- the program looks at the address, and the word there is another
abbrev pub is_other_word : (ℕ → Bool) → List ℕ → List ℕ → ℕ → Bool
is_other_word looks old new a = looks a && not (slice_index old a == slice_index new a)

-- the addresses, ascending, at which the program looks, and whose words are others
abbrev pub other_words : (ℕ → Bool) → List ℕ → List ℕ → List ℕ
other_words looks old new = filter (is_other_word looks old new) (range_with_len 0 (length old))

-- each part of the view that is another
abbrev pub view_causes : (ViewParts → ℕ → Bool) → ViewParts → ViewParts → TurnCauses
view_causes looks old new =
    record {
      is_new = false;
      args = not (same_words old.args new.args);
      queue = not (pointwise same_message old.queue new.queue);
      table = not (same_table old.table new.table);
      tag_size = not (old.tag_size == new.tag_size);
      words = other_words (looks old) old.memory new.memory;
    }

-- nothing was there before, and nothing else is a cause
abbrev pub new_turn : TurnCauses
new_turn = record { is_new = true; args = false; queue = false; table = false; tag_size = false; words = [] }

-- Why the turn at a place of the new run was taken, against the supersteps of the previous run.
unfoldable pub turn_causes : (ViewParts → ℕ → Bool) → List Superstep → List Superstep → Place → TurnCauses
turn_causes looks olds news place =
    if has_turn olds place then view_causes looks (view_there olds place) (view_there news place) else new_turn
